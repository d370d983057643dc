use Rattle.std.proofs.Common.{◌≡◌, not, None, sym, ap, ◌∙◌, subst}
use Rattle.std.proofs.lemmas.Result.{IfOk-weaker}
use Rattle.bk_name.specs.Uri.{IsUri, without_fragment}
use Rattle.bk_name.proofs.FragmentLemmas.{IsUri-cut, serialize-cut, without_fragment-serialize, without_fragment-none, option_copied-none}
use Rattle.bk_name.proofs.uri.Uri.without_fragment.Goals as goal

pub from_text-requires : goal.from_text-requires
from_text-requires c = record { uri = subst IsUri (sym c.slice.ensures.value) (IsUri-cut c.url-url.result.now c.url-url.ensures.keeps) }

pub returns-then-is_none : goal.returns-then-is_none
returns-then-is_none c =
    let none : c.url-url.result.now.fragment ≡ None =
    sym c.fragment.ensures.value ∙ option_copied-none c.fragment.result (c.is_none.ensures ∙ ap not c.if-is_none.true) in
    let own = without_fragment-none c.url-url.result.now c.url-url.ensures.keeps none in
    let stays : c.args.self.now ≡ without_fragment c.args.self.now = subst (λ t. t ≡ without_fragment t) c.url-url.ensures.value (sym own) in
    record {
      value = IfOk-weaker c.share.result (λ u. u ≡ c.args.self.now) (λ u. u ≡ without_fragment c.args.self.now) (λ u same. same ∙ stays) c.share.ensures.value;
    }

pub returns : goal.returns
returns c =
    let url = c.url-url.result.now in
    let is : c.slice.result.now ≡ without_fragment c.args.self.now =
    c.slice.ensures.value ∙ serialize-cut url ∙ sym (without_fragment-serialize url c.url-url.ensures.keeps)
    ∙ (λ i. without_fragment (c.url-url.ensures.value i)) in
    record {
      value = IfOk-weaker c.from_text.result (λ u. u ≡ c.slice.result.now) (λ u. u ≡ without_fragment c.args.self.now) (λ u same. same ∙ is) c.from_text.ensures.value;
    }
