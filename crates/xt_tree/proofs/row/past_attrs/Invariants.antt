use Rattle.std.proofs.Common.{◌≡◌, length}
use Rattle.xt_tree.specs.Levels.{levels, AreSized}
use Rattle.xt_tree.proofs.row.past_attrs.Given as goal

abbrev pub invariant-loop-rest : goal.invariant-loop-rest
invariant-loop-rest l = record {
  same : (levels l.rest).inner ≡ (levels l.entries).inner;
  sized : AreSized l.rest;
}

abbrev pub decreases-loop-rest : goal.decreases-loop-rest
decreases-loop-rest l = length l.rest
