use Rattle.std.proofs.Common.{◌≡◌, List, ℕ, [], ◌∷◌, ◌++◌, sym, ap, Some}
use Rattle.bk_script.specs.Reading.{step_at, parts_of}
use Rattle.bk_script.proofs.Places.{step_shrinks, steps_more, steps_end}
use Rattle.bk_script.proofs.place.steps.Goals as goal

pub loop-n-smaller : goal.loop-n-smaller
loop-n-smaller c = step_shrinks c.loop-n.rest.now (c.in-Some.n, c.in-Some.after.now) (sym c.in-Some.ensures.value)

pub loop-n-preserved : goal.loop-n-preserved
loop-n-preserved c =
    let pushed : c.push.new.self.items ≡ c.loop-n.numbers.items ++ c.in-Some.n ∷ [] = rw c.if-is_err.ensures.negation at c.push.ensures.items in
    rw pushed (steps_more c.loop-n.numbers.items c.loop-n.rest.now c.in-Some.after.now c.in-Some.n (parts_of step_at c.args.text.now) (sym c.in-Some.ensures.value) c.loop-n.invariant)

pub returns : goal.returns
returns c = record { value = ap (λ (p : List ℕ × List ℕ). Some p) (steps_end c.loop-n.numbers.items c.loop-n.rest.now (parts_of step_at c.args.text.now) (sym c.in_default.ensures.value) c.loop-n.invariant) }
