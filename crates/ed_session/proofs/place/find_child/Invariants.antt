use Rattle.std.proofs.Common.{◌≡◌, ◌+◌, length}
use Rattle.xt_tree.specs.Meaning.{items_in}
use Rattle.ed_session.proofs.PathLemmas.{IsLeft}
use Rattle.ed_session.proofs.place.find_child.Given as goal

abbrev pub invariant-loop-item : goal.invariant-loop-item
invariant-loop-item l = record {
  left : IsLeft l.bytes (items_in l.bytes l.level) l.number l.index l.left l.wanted;
  count : l.index + length l.left ≡ length l.level;
}

abbrev pub decreases-loop-item : goal.decreases-loop-item
decreases-loop-item l = length l.left
