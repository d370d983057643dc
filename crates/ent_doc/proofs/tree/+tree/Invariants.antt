use Rattle.std.proofs.Common.{◌≡◌, ◌+◌, ◌*◌, ◌≤◌, length}
use Rattle.xt_tree.specs.Items.{item_in}
use Rattle.xt_tree.specs.Meaning.{items_in}
use Rattle.xt_tree.specs.Places.{marks_in, marks_of}
use Rattle.bk_spec.specs.Node.{node_count}
use Rattle.bk_info.specs.Nodes.{nodes_in}
use Rattle.bk_info.specs.Vias.{HaveVia}
use Rattle.xt_read.specs.ContentTest.{ArePlaced, AreSpelled}
use Rattle.ent_doc.specs.Steps.{Gives, HasPaths}
use Rattle.ent_doc.proofs.tree.+tree.Given as goal

-- the nodes so far, and the items that are left
abbrev pub invariant-nodes_of-loop-item : goal.invariant-nodes_of-loop-item
invariant-nodes_of-loop-item l = record {
  tags : ArePlaced l.source.text.now (marks_of l.left);
  spelled : AreSpelled (items_in l.source.text.now l.left);
  fewer : length (marks_of l.left) ≤ length (marks_of l.items);
  gives : Gives l.source.file.now l.context (items_in l.source.text.now l.items) (items_in l.source.text.now l.left) l.fn.work.count l.work.count l.nodes.items;
  paths : HasPaths l.siblings.path 0 (items_in l.source.text.now l.items) (items_in l.source.text.now l.left) l.index l.nodes.items;
  via : HaveVia l.siblings.via l.nodes.items;
  counted : l.work.count ≡ l.fn.work.count + node_count (nodes_in l.nodes.items);
}

abbrev pub decreases-nodes_of-loop-item : goal.decreases-nodes_of-loop-item
decreases-nodes_of-loop-item l = length l.left

abbrev pub decreases-element_node : goal.decreases-element_node
decreases-element_node l = 4 * length (marks_of l.kids.now) + 3

abbrev pub decreases-kids_of : goal.decreases-kids_of
decreases-kids_of l = 4 * length (marks_of l.items.now) + 2

abbrev pub decreases-node_of : goal.decreases-node_of
decreases-node_of l = 4 * length (marks_in (item_in l.item.now))

abbrev pub decreases-nodes_of : goal.decreases-nodes_of
decreases-nodes_of l = 4 * length (marks_of l.items.now) + 1
