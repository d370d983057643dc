use Rattle.std.proofs.Common.{◌≡◌, length}
use Rattle.bk_script.specs.Reading.{step_at, parts_of}
use Rattle.bk_script.proofs.Places.{with_numbers}
use Rattle.bk_script.proofs.place.steps.Given as goal

abbrev pub invariant-loop-n : goal.invariant-loop-n
invariant-loop-n l = with_numbers l.numbers.items (parts_of step_at l.rest) ≡ parts_of step_at l.text

abbrev pub decreases-loop-n : goal.decreases-loop-n
decreases-loop-n l = length l.rest
