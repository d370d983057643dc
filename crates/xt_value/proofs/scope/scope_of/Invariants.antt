use Rattle.std.proofs.Common.{◌≡◌, length}
use Rattle.xt_spec.specs.Namespace as spec
use Rattle.xt_value.proofs.scope.scope_of.Given as goal

abbrev pub invariant-loop-rest : goal.invariant-loop-rest
invariant-loop-rest l = spec.bindings_of l.rest ≡ spec.bindings_of l.fn.attributes

abbrev pub decreases-loop-rest : goal.decreases-loop-rest
decreases-loop-rest l = length l.rest
