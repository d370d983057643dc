use Rattle.std.proofs.Common.{◌≡◌, length}
use Rattle.xt_spec.specs.Text.{is_void}
use Rattle.ed_session.proofs.place.is_void.Given as goal

abbrev pub invariant-loop-behind : goal.invariant-loop-behind
invariant-loop-behind l = is_void l.text ≡ is_void l.rest

abbrev pub decreases-loop-behind : goal.decreases-loop-behind
decreases-loop-behind l = length l.rest
