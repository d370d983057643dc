use Rattle.std.proofs.Common.{◌≡◌, true, false, not, length, ◌==◌, sym, ap, ◌∙◌}
use Rattle.std.specs.Prelude.{string_bytes}
use Rattle.std.proofs.lemmas.Result.{IfOk-weaker}
use Rattle.bk_name.specs.Relative.{relative_of, leads_to}
use Rattle.bk_name.proofs.RelativeLemmas.{relative_of-leads, relative_of-empty, relative_of-stray}
use Rattle.bk_name.proofs.relative_reference.relative.Goals as goal
use Rattle.bk_name.proofs.relative_reference.relative.Goals.{else-not-is_empty-via-then-not-is_empty+in_ok-leads_to+else-branch, else-not-is_empty-via-else-not-is_empty}

pub returns-then-branch-clause-value : goal.returns-then-branch-clause-value
returns-then-branch-clause-value c =
    let text = string_bytes c.in_ok-text.text in
    let some : not (length text == 0) ≡ true = ap not (ap (λ t. length t == 0) (sym c.as_str.ensures.value) ∙ sym c.is_empty.ensures ∙ c.if-not-is_empty.true) in
    let leads : leads_to c.args.p.now text c.args.b.now ≡ true =
    rw c.as_str-then-not-is_empty.ensures.value at (sym c.in_ok-leads_to.ensures.value ∙ c.if-branch.true) in
    relative_of-leads c.args.p.now c.args.b.now text c.in_ok-text.ensures.value some leads

pub returns-clause-value : goal.returns-clause-value
returns-clause-value c =
    let p = c.args.p.now in
    let b = c.args.b.now in
    let text = string_bytes c.in_ok-text.text in
    let is : b ≡ relative_of p b =
    elim c.else-not-is_empty.branch [
      | else-not-is_empty-via-then-not-is_empty+in_ok-leads_to+else-branch w ↦
          let stray : leads_to p text b ≡ false = rw w.as_str-then-not-is_empty.ensures.value at (sym w.in_ok-leads_to.ensures.value ∙ w.if-branch.false) in
          relative_of-stray p b text c.in_ok-text.ensures.value stray
      | else-not-is_empty-via-else-not-is_empty w ↦
          let none : not (length text == 0) ≡ false = ap not (ap (λ t. length t == 0) (sym c.as_str.ensures.value) ∙ sym c.is_empty.ensures ∙ w.if-not-is_empty.false) in
          relative_of-empty p b text c.in_ok-text.ensures.value none
    ] in
    IfOk-weaker c.from_str.result (λ t. string_bytes t ≡ c.as_str-2.result.now) (λ t. string_bytes t ≡ relative_of p b)
    (λ t same. same ∙ c.as_str-2.ensures.value ∙ is) c.from_str.ensures.ok
