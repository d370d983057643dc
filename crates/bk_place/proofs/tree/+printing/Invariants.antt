use Rattle.std.proofs.Common.{◌≡◌, ◌++◌, drop}
use Rattle.std.specs.Option.{option_copied}
use Rattle.bk_spec.specs.Print.{print_nodes}
use Rattle.bk_info.specs.Nodes.{nodes_in}
use Rattle.bk_place.proofs.tree.+printing.Given as goal

-- what is printed so far, and what is left
abbrev pub invariant-put_nodes-loop-node : goal.invariant-put_nodes-loop-node
invariant-put_nodes-loop-node l = record {
  indent : l.indent.items ≡ l.fn.indent.items;
  printed : l.out.items ++ print_nodes l.fn.indent.items (option_copied l.parent) (nodes_in (drop l.node-index l.nodes)) ≡ l.fn.out.items ++ print_nodes l.fn.indent.items (option_copied l.parent) (nodes_in l.nodes);
}
