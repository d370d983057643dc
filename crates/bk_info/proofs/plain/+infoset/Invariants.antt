use Rattle.std.proofs.Common.{◌≡◌, drop, string_bytes}
use Rattle.bk_spec.specs.Infoset.{infoset_of}
use Rattle.bk_info.specs.Nodes.{nodes_in}
use Rattle.bk_info.specs.Plains.{so_far}
use Rattle.bk_info.proofs.plain.+infoset.Given as goal

-- the items and the text so far, and the nodes that are left
abbrev pub invariant-infoset-loop-node : goal.invariant-infoset-loop-node
invariant-infoset-loop-node l = so_far l.items.items (string_bytes l.text) (infoset_of (nodes_in (drop l.node-index l.nodes))) ≡ infoset_of (nodes_in l.nodes)
