use Rattle.std.proofs.Common.{◌≡◌}
use Rattle.xt_spec.specs.Namespace as spec
use Rattle.xt_value.proofs.scope.Scope.namespace_at.Given as goal

abbrev pub invariant-loop-scope : goal.invariant-loop-scope
invariant-loop-scope l = spec.namespace_at l.scope l.fn.prefix ≡ spec.namespace_at l.fn.self l.fn.prefix
