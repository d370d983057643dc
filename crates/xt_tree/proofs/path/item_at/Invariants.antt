use Rattle.std.proofs.Common.{◌≡◌, List, ℕ, length, drop}
use Rattle.xt_spec.specs.Paths.{item_at}
use Rattle.xt_spec.proofs.Theorems.{item_under}
use Rattle.xt_tree.specs.Meaning.{item_of, items_in}
use Rattle.xt_tree.specs.Items.{item_in}
use Rattle.xt_tree.specs.Places.{marks_of, AreInPlace}
use Rattle.xt_tree.proofs.Walks.{Walks}
use Rattle.xt_tree.proofs.path.item_at.Given as goal

abbrev pub invariant-loop-index : goal.invariant-loop-index
invariant-loop-index l = record {
  value : (bytes : List ℕ) → item_at (items_in bytes l.fn.items) l.fn.path ≡ item_under (item_of bytes (item_in l.item)) (drop l.index-index l.rest);
  place : (bytes : List ℕ) → AreInPlace bytes 0 (marks_of l.fn.items) (length bytes) → Walks bytes l.fn.items l.fn.path (item_in l.item) (drop l.index-index l.rest);
}
