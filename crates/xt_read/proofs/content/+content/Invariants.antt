use Rattle.std.proofs.Common.{◌+◌, ◌*◌, ◌≤◌, length}
use Rattle.xt_tree.specs.Items.{item_in}
use Rattle.xt_tree.specs.Meaning.{items_in}
use Rattle.xt_tree.specs.Places.{marks_in, marks_of}
use Rattle.xt_read.proofs.ItemContent.{ItemsLeft}
use Rattle.xt_read.proofs.content.+content.Given as goal

abbrev pub invariant-items_have_content-loop-item : goal.invariant-items_have_content-loop-item
invariant-items_have_content-loop-item l = record {
  left : ItemsLeft l.text l.left (items_in l.text l.items);
  fewer : length (marks_of l.left) ≤ length (marks_of l.items);
}

abbrev pub decreases-items_have_content-loop-item : goal.decreases-items_have_content-loop-item
decreases-items_have_content-loop-item l = length l.left

abbrev pub decreases-items_have_content : goal.decreases-items_have_content
decreases-items_have_content l = 2 * length (marks_of l.items.now) + 1

abbrev pub decreases-item_has_content : goal.decreases-item_has_content
decreases-item_has_content l = 2 * length (marks_in (item_in l.item.now))
