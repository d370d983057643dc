use Rattle.std.proofs.Common.{◌≡◌, drop}
use Rattle.bk_spec.specs.Node.{has_inclusion}
use Rattle.bk_info.specs.Nodes.{nodes_in}
use Rattle.ent_doc.proofs.inclusion.+inclusion.Given as goal

-- none is among the nodes so far
abbrev pub invariant-has_inclusion-loop-node : goal.invariant-has_inclusion-loop-node
invariant-has_inclusion-loop-node l = has_inclusion (nodes_in (drop l.node-index l.nodes)) ≡ has_inclusion (nodes_in l.nodes)
