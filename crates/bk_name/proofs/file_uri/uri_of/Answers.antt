use Rattle.std.proofs.Common.{◌≡◌, Some, sym, ◌∙◌, subst}
use Rattle.std.proofs.lemmas.Result.{IfOk-weaker}
use Rattle.bk_name.specs.Uri.{ReadsBack, IsUri}
use Rattle.bk_name.specs.Base.{uri_text, name_in}
use Rattle.bk_name.proofs.file_uri.uri_of.Goals as goal

pub from_text-requires : goal.from_text-requires
from_text-requires c = record {
  uri = subst IsUri (sym (c.as_str.ensures.value ∙ c.in_ok-text.ensures.value)) c.in_ok-text.ensures.keeps.uri;
}

pub returns : goal.returns
returns c =
    let base = c.args.base.now in
    let name = c.args.name.now in
    let spelled = c.as_str.ensures.value ∙ c.in_ok-text.ensures.value in
    let own = c.in_ok-text.ensures.keeps in
    record {
      value = IfOk-weaker c.from_text.result (λ u. u ≡ c.as_str.result.now) (λ u. u ≡ uri_text base name) (λ u same. same ∙ spelled) c.from_text.ensures.value;
      names = IfOk-weaker c.from_text.result (λ u. u ≡ c.as_str.result.now) (λ u. name_in base u ≡ Some name)
          (λ u same. subst (λ t. name_in base t ≡ Some name) (sym (same ∙ spelled)) own.names) c.from_text.ensures.value;
      reads_back = IfOk-weaker c.from_text.result (λ u. u ≡ c.as_str.result.now) ReadsBack
          (λ u same. subst ReadsBack (sym (same ∙ spelled)) own.reads_back) c.from_text.ensures.value;
    }
