use Rattle.std.proofs.Common.{◌≡◌, sym, ◌∙◌, ⊎_elim}
use Rattle.std.proofs.lemmas.Bool.{true≢false}
use Rattle.std.proofs.lemmas.Result.{IfOk-weaker}
use Rattle.url.specs.Parts.{serialize}
use Rattle.bk_name.proofs.TextLemmas.{parsed-canonical, serialize-parsed, parsed-not_refused}
use Rattle.bk_name.proofs.uri.Uri.from_text.Goals as goal

pub from_parsed-requires : goal.from_parsed-requires
from_parsed-requires c = λ _. parsed-canonical c.args.text.now c.requires.uri c.in-Ok.url c.in-Ok.ensures

pub returns-in-Ok : goal.returns-in-Ok
returns-in-Ok c = record {
  value = IfOk-weaker c.from_parsed.result (λ u. u ≡ serialize c.in-Ok.url) (λ u. u ≡ c.args.text.now)
      (λ u same. same ∙ serialize-parsed c.args.text.now c.requires.uri c.in-Ok.url c.in-Ok.ensures) c.from_parsed.ensures.value;
}

pub unreachable-requires : goal.unreachable-requires
unreachable-requires c =
    ⊎_elim
    (λ refused. parsed-not_refused c.args.text.now c.requires.uri c.in-Err.error refused)
    (λ room. true≢false (sym (c.if-is_out_of_room.ensures.value.1 room)))
    c.in-Err.ensures
