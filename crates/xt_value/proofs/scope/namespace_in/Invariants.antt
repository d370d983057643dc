use Rattle.std.proofs.Common.{◌≡◌, drop}
use Rattle.xt_spec.specs.Namespace as spec
use Rattle.xt_value.proofs.scope.namespace_in.Given as goal

abbrev pub invariant-loop-bound : goal.invariant-loop-bound
invariant-loop-bound l = spec.namespace_at (drop l.bound-index l.fn.bounds) l.fn.prefix ≡ spec.namespace_at l.fn.bounds l.fn.prefix
