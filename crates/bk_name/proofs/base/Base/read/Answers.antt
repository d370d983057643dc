use Rattle.std.proofs.Common.{sym, ap, ◌∙◌, subst, ⊎_elim}
use Rattle.std.proofs.lemmas.Bool.{true≢false, and_from, and_left, and_right}
use Rattle.std.proofs.lemmas.Slice.Eq.{bytes_eq-Decides}
use Rattle.url.specs.Parts.{serialize}
use Rattle.bk_name.specs.Base.{IsBaseUrl}
use Rattle.bk_name.proofs.BaseLemmas.{is_base-parsed, is_base-refused, canonical_from_parse}
use Rattle.bk_name.proofs.base.Base.read.Goals as goal
use Rattle.bk_name.proofs.base.Base.read.Goals.{else-is_base_url-via-then-is_base_url+else-eq, else-is_base_url-via-else-is_base_url}

pub invariant_of-result : goal.invariant_of-result
invariant_of-result c =
    subst IsBaseUrl (sym c.in_ok-new-in-Ok.ensures.ok) (record {
      valid = c.is_base_url.ensures.keeps;
      canonical = canonical_from_parse c.args.text.now c.in-Ok.url c.is_base_url.ensures.keeps c.in-Ok.ensures;
      base = sym c.is_base_url.ensures.value ∙ c.if-is_base_url.true;
    })

pub returns-in_ok-new-in-Ok-clause-value : goal.returns-in_ok-new-in-Ok-clause-value
returns-in_ok-new-in-Ok-clause-value c =
    let same = rw c.as_str.ensures.value at (sym c.eq.ensures ∙ c.if-eq.true) in (
      ap serialize c.in_ok-new-in-Ok.ensures.ok ∙ (bytes_eq-Decides (serialize c.in-Ok.url) c.args.text.now).0 same,
      is_base-parsed c.args.text.now c.in-Ok.url c.in-Ok.ensures ∙ and_from _ _ same (sym c.is_base_url.ensures.value ∙ c.if-is_base_url.true),
    )

pub returns-else-is_base_url-clause-fault : goal.returns-else-is_base_url-clause-fault
returns-else-is_base_url-clause-fault c = λ _.
    let test = is_base-parsed c.args.text.now c.in-Ok.url c.in-Ok.ensures in
    elim c.else-is_base_url.branch [
      | else-is_base_url-via-then-is_base_url+else-eq w ↦
          let other = rw w.as_str.ensures.value at (sym w.eq.ensures ∙ w.if-eq.false) in
          test ∙ and_left _ _ other
      | else-is_base_url-via-else-is_base_url w ↦ test ∙ and_right _ _ (sym c.is_base_url.ensures.value ∙ w.if-is_base_url.false)
    ]

pub returns-else-is_out_of_room-clause-fault : goal.returns-else-is_out_of_room-clause-fault
returns-else-is_out_of_room-clause-fault c = λ _.
    ⊎_elim (λ refused. is_base-refused c.args.text.now c.in-Err.error refused)
    (λ room. absurd (true≢false (sym (c.if-is_out_of_room.ensures.value.1 room)))) c.in-Err.ensures
