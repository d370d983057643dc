use Rattle.std.proofs.Common.{◌∙◌, sym, ap, arith, length}
use Rattle.xt_tree.specs.Items.{item_in}
use Rattle.xt_tree.specs.Meaning.{items_in}
use Rattle.ed_session.proofs.PathLemmas.{left_begins, left_over, left_counted, left_here, left_never, left_ends}
use Rattle.ed_session.proofs.place.find_child.Goals.{then-gives_node+else-wanted-le1, else-gives_node}
use Rattle.ed_session.proofs.place.find_child.Goals as goal

pub loop-item-init : goal.loop-item-init
loop-item-init c = record {
  left = left_begins c.args.bytes.now c.args.level.now c.again-left.result c.args.number c.again-left.ensures.value;
  count = (let same = ap length c.again-left.ensures.value in omega (arith, same));
}

pub returns-then-wanted-eq1 : goal.returns-then-wanted-eq1
returns-then-wanted-eq1 c = record {
  value = left_here c.args.bytes.now c.args.level.now c.loop-item.left c.in-Some.rest c.args.number c.loop-item.index (item_in c.in-Some.item) c.kids-items.result c.loop-item.wanted c.in-Some.ensures.value c.loop-item.invariant.left (sym c.gives_node.ensures.value ∙ c.if-gives_node.true) (omega arith) c.kids-items.ensures.value;
}

pub returns-else-wanted-eq1 : goal.returns-else-wanted-eq1
returns-else-wanted-eq1 c = record {
  value = left_never c.args.bytes.now (items_in c.args.bytes.now c.args.level.now) c.args.number c.loop-item.index c.loop-item.left c.in-Some.rest (item_in c.in-Some.item) c.loop-item.wanted c.in-Some.ensures.value c.loop-item.invariant.left (sym c.gives_node.ensures.value ∙ c.if-gives_node.true) (omega arith);
}

pub loop-item-preserved : goal.loop-item-preserved
loop-item-preserved c =
    let size = ap length c.in-Some.ensures.value in
    let count = c.loop-item.invariant.count in
    record {
      left = elim c.if-gives_node.branch [
        | then-gives_node+else-wanted-le1 w ↦ rw w.wanted-is (left_counted c.args.bytes.now (items_in c.args.bytes.now c.args.level.now) c.args.number c.loop-item.index c.loop-item.left c.in-Some.rest (item_in c.in-Some.item) c.loop-item.wanted c.in-Some.ensures.value c.loop-item.invariant.left (sym c.gives_node.ensures.value ∙ w.if-gives_node.true) (omega arith))
        | else-gives_node w ↦ rw w.wanted-is (left_over c.args.bytes.now (items_in c.args.bytes.now c.args.level.now) c.args.number c.loop-item.index c.loop-item.left c.in-Some.rest (item_in c.in-Some.item) c.loop-item.wanted c.in-Some.ensures.value c.loop-item.invariant.left (sym c.gives_node.ensures.value ∙ w.if-gives_node.false))
      ];
      count = omega (arith, size, count);
    }

pub returns : goal.returns
returns c = record { value = left_ends c.args.bytes.now (items_in c.args.bytes.now c.args.level.now) c.args.number c.loop-item.index c.loop-item.left c.loop-item.wanted c.in_default.ensures.value c.loop-item.invariant.left }
