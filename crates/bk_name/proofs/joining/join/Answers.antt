use Rattle.std.proofs.Common.{◌≡◌, Some, None, subst, sym, ap, ◌∙◌, ⊎_elim}
use Rattle.std.proofs.lemmas.Bool.{true≢false}
use Rattle.bk_name.specs.Uri.{joined}
use Rattle.bk_name.proofs.UriLemmas.{canonical_from_join, joined-ok, joined-err}
use Rattle.bk_name.proofs.joining.join.Goals as goal

pub from_parsed-requires : goal.from_parsed-requires
from_parsed-requires c = λ valid.
    canonical_from_join c.url.result.now c.args.reference.now c.url.ensures.keeps.valid c.url.ensures.keeps.canonical c.in-Ok.url valid c.in-Ok.ensures

pub returns-in_ok-from_parsed-in-Ok-clause-value : goal.returns-in_ok-from_parsed-in-Ok-clause-value
returns-in_ok-from_parsed-in-Ok-clause-value c =
    let made = c.in_ok-from_parsed-in-Ok in
    subst (λ b. joined b c.args.reference.now ≡ Some made.field-0) c.url.ensures.value
    (joined-ok c.url.result.now c.args.reference.now c.url.ensures.keeps.valid c.url.ensures.keeps.canonical c.in-Ok.url made.ensures.keeps c.in-Ok.ensures
    ∙ ap Some (sym made.ensures.value))

pub returns-else-is_out_of_room-clause-fault : goal.returns-else-is_out_of_room-clause-fault
returns-else-is_out_of_room-clause-fault c = λ _.
    ⊎_elim
    (λ refused. subst (λ b. joined b c.args.reference.now ≡ None) c.url.ensures.value
    (joined-err c.url.result.now c.args.reference.now c.url.ensures.keeps.valid c.url.ensures.keeps.canonical c.in-Err.error refused))
    (λ room. absurd (true≢false (sym (c.if-is_out_of_room.ensures.value.1 room))))
    c.in-Err.ensures
