use Rattle.std.proofs.Common.{◌≡◌, ◌++◌, length}
use Rattle.bk_place.specs.Printing.{escaped}
use Rattle.bk_place.proofs.value.put_value.Given as goal

abbrev pub invariant-loop-rest : goal.invariant-loop-rest
invariant-loop-rest l = l.fn.out.items ++ escaped l.value ≡ l.out.items ++ escaped l.rest

abbrev pub decreases-loop-rest : goal.decreases-loop-rest
decreases-loop-rest l = length l.rest
