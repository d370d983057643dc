-- The nodes of the code, one in front of others.
use Rattle.std.proofs.Common.{◌≡◌, ◌∙◌, ℕ, ◌+◌, List, [], ◌∷◌, ◌++◌, refl, sym, ap, arith, Result, Ok, Err}
use Rattle.bk_spec.specs.Node.{Nodes, no_nodes, node_count}
use Rattle.bk_spec.specs.Fault.{Fault}
use Rattle.bk_info.specs.declared.node.Node.{Node}
use Rattle.bk_info.specs.declared.node.Node.TheOpen.{Node-F, Elem, Text, Comment, Pi}
use Rattle.bk_info.specs.declared.node.Node.TheFolds.{fold_out-Node}
use Rattle.bk_info.specs.Nodes.{node_step, node_in, nodes_in, nodes_before}
use Rattle.bk_info.proofs.Theorems.{nodes_before-append}
use Rattle.ent_doc.specs.Steps.{prepended}

-- how many nodes there are in front of others
step_count : (layer : Node-F (Nodes → Nodes)) (others : Nodes) → node_count (node_step layer others) ≡ node_count (node_step layer no_nodes) + node_count others
step_count (Elem name attrs context kids address) others = omega arith
step_count (Text value address) others = omega arith
step_count (Comment value address) others = omega arith
step_count (Pi target value address) others = omega arith

node_counts : (node : Node) (others : Nodes) → node_count (node_in node others) ≡ node_count (node_in node no_nodes) + node_count others
node_counts node others =
    let opened : (rest : Nodes) → node_in node rest ≡ node_step _ rest = λ rest. ap (λ (f : Nodes → Nodes). f rest) (fold_out-Node (Nodes → Nodes) node_step node) in
    ap node_count (opened others) ∙ step_count _ others ∙ ap (λ (n : ℕ). n + node_count others) (ap node_count (sym (opened no_nodes)))

before_counts : (nodes : List Node) (others : Nodes) → node_count (nodes_before nodes others) ≡ node_count (nodes_in nodes) + node_count others
before_counts [] others = omega arith
before_counts (node ∷ nodes) others =
    let first = node_counts node (nodes_before nodes others) in
    let alone = node_counts node (nodes_in nodes) in
    let more = before_counts nodes others in
    omega arith

pub prepended_twice : (nodes more : List Node) (others : Result Nodes Fault) → prepended nodes (prepended more others) ≡ prepended (nodes ++ more) others
prepended_twice nodes more (Ok others) = ap (λ (n : Nodes). Ok n) (sym (nodes_before-append nodes more others))
prepended_twice nodes more (Err fault) = refl

pub count_twice : (nodes more : List Node) → node_count (nodes_in (nodes ++ more)) ≡ node_count (nodes_in nodes) + node_count (nodes_in more)
count_twice nodes more = ap node_count (nodes_before-append nodes more no_nodes) ∙ before_counts nodes (nodes_in more)
