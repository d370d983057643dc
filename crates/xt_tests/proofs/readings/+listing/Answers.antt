use Rattle.std.proofs.Common.{ap, arith}
use Rattle.xt_tree.specs.Items.{head_in, item_in}
use Rattle.xt_tree.proofs.Theorems.{kids_fewer, item_fewer}
use Rattle.xt_tests.proofs.readings.+listing.Goals as goal

pub add_items-add_item-requires : goal.add_items-add_item-requires
add_items-add_item-requires t c =
    let fewer = (item_fewer c.loop-item.left c.in-Some.rest (item_in c.in-Some.item) c.in-Some.ensures.value).0 in
    let within = c.loop-item.invariant in
    omega (arith, fewer, within)

pub add_items-loop-item-preserved : goal.add_items-loop-item-preserved
add_items-loop-item-preserved t c =
    let fewer = (item_fewer c.loop-item.left c.in-Some.rest (item_in c.in-Some.item) c.in-Some.ensures.value).1 in
    let within = c.loop-item.invariant in
    omega (arith, fewer, within)

pub add_item-add_items-requires : goal.add_item-add_items-requires
add_item-add_items-requires t c =
    let fewer = kids_fewer (item_in c.args.item.now) (head_in c.in-Elem.head) c.in-Elem.kids c.in-Elem.tail (ap item_in c.in-Elem.is) in
    omega (arith, fewer)
