use Rattle.std.proofs.Common.{◌-◌, ◌≤◌, ℕ, Bool, length, []}
use Rattle.std.specs.Str.{IsCharBoundary}
use Rattle.xt_read.specs.Steps.{IsTagSoFar}
use Rattle.xt_read.proofs.tags.read_attributes.Given as goal

abbrev pub decreases-loop-attr : goal.decreases-loop-attr
decreases-loop-attr l = length l.text - l.at

abbrev pub invariant-loop-attr : goal.invariant-loop-attr
invariant-loop-attr l = record {
  within : l.at ≤ length l.text;
  boundary : IsCharBoundary l.text l.at;
  so_far : (from to : ℕ) (empty : Bool) → IsTagSoFar l.text from to empty l.fn.from [] → IsTagSoFar l.text from to empty l.at l.attrs.items;
}
