use Rattle.std.proofs.Common.{◌+◌, ◌*◌, ◌≤◌, length}
use Rattle.xt_tree.specs.Items.{item_in}
use Rattle.xt_tree.specs.Places.{marks_in, marks_of}
use Rattle.xt_tests.proofs.readings.+listing.Given as goal

abbrev pub invariant-add_items-loop-item : goal.invariant-add_items-loop-item
invariant-add_items-loop-item l = length (marks_of l.left) ≤ length (marks_of l.items)

abbrev pub decreases-add_items-loop-item : goal.decreases-add_items-loop-item
decreases-add_items-loop-item l = length l.left

abbrev pub decreases-add_items : goal.decreases-add_items
decreases-add_items l = 2 * length (marks_of l.items.now) + 1

abbrev pub decreases-add_item : goal.decreases-add_item
decreases-add_item l = 2 * length (marks_in (item_in l.item.now))
