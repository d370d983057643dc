use Rattle.std.proofs.Common.{◌≡◌, ◌++◌, true, length}
use Rattle.std.specs.List.{list_all}
use Rattle.xt_spec.specs.Namespace as spec
use Rattle.xt_value.proofs.scope.bounds_by.Given as goal

abbrev pub invariant-loop-rest : goal.invariant-loop-rest
invariant-loop-rest l = (spec.bindings_of l.fn.attributes ≡ l.bounds.items ++ spec.bindings_of l.rest) × (list_all spec.is_allowed l.bounds.items ≡ true)

abbrev pub decreases-loop-rest : goal.decreases-loop-rest
decreases-loop-rest l = length l.rest
