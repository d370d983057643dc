use Rattle.std.proofs.Common.{◌-◌, ◌≤◌, length, drop}
use Rattle.std.specs.Str.{IsCharBoundary}
use Rattle.xt_tree.specs.Built.{IsSound}
use Rattle.xt_tree.specs.Places.{AreInPlace}
use Rattle.xt_read.specs.Progress.{body_of, state_of, all_marks}
use Rattle.xt_read.specs.Run.{begin, Passes}
use Rattle.xt_read.proofs.items.read_tokens.Given as goal

-- What stands before here was read.
abbrev pub invariant-loop-at : goal.invariant-loop-at
invariant-loop-at l = record {
  order : l.fn.from ≤ l.at;
  within : l.at ≤ length l.text;
  boundary : IsCharBoundary l.text l.at;
  place : AreInPlace l.text l.fn.from (all_marks l.reader) l.at;
  sound : IsSound l.reader.tape;
  passes : Passes (begin (body_of l.fn.body)) (drop l.fn.from l.text) (state_of l.text l.reader) (drop l.at l.text);
}

abbrev pub decreases-loop-at : goal.decreases-loop-at
decreases-loop-at l = length l.text - l.at
