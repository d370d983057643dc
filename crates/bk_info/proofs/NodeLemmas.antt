-- What each node of the code is, and nodes in a row.
use Rattle.std.proofs.Common.{◌≡◌, ◌∙◌, ℕ, List, [], ◌∷◌, ◌++◌, map, refl, sym, ap, append_assoc}
use Rattle.std.proofs.lemmas.List.{map-append}
use Rattle.xt_spec.specs.Namespace.{Expanded}
use Rattle.bk_spec.specs.Node.{Nodes, element_node, text_node, comment_node, pi_node}
use Rattle.bk_spec.specs.DocumentNodes.{Context}
use Rattle.bk_info.specs.declared.attr.Attr.{Attr}
use Rattle.bk_info.specs.declared.node.Node.{Node}
use Rattle.bk_info.specs.declared.node.Node.TheVariants as node
use Rattle.bk_info.specs.declared.node.Node.TheOpen.{Node-F}
use Rattle.bk_info.specs.declared.node.Node.TheFolds.{fold-roll-Node}
use Rattle.bk_info.specs.Address.{Address}
use Rattle.bk_info.specs.Paths.{path_step, paths_of, paths_in}
use Rattle.bk_info.specs.Nodes.{head_in, joined, node_step, node_in, nodes_before, nodes_in}

at : {A B : Type 0} → (f g : A → B) (x : A) → f ≡ g → f x ≡ g x
at f g x same = ap (λ h. h x) same

-- ---- a node, and those behind it

pub element_is : (name : Expanded) (attrs : List Attr) (context : Context) (kids : List Node) (address : Address) (others : Nodes)
    → node_in (node.Elem name attrs context kids address) others ≡ element_node (head_in name attrs context address.origin) (nodes_in kids) others
element_is name attrs context kids address others =
    at (node_in (node.Elem name attrs context kids address)) (node_step (Node-F.Elem name attrs context (map node_in kids) address)) others
    (ap node_in (sym (node.rolls-Elem name attrs context kids address)) ∙ fold-roll-Node (Nodes → Nodes) node_step (Node-F.Elem name attrs context kids address))

pub text_is : (value : List ℕ) (address : Address) (others : Nodes) → node_in (node.Text value address) others ≡ text_node value address.origin others
text_is value address others =
    at (node_in (node.Text value address)) (node_step (Node-F.Text value address)) others
    (ap node_in (sym (node.rolls-Text value address)) ∙ fold-roll-Node (Nodes → Nodes) node_step (Node-F.Text value address))

pub comment_is : (value : List ℕ) (address : Address) (others : Nodes) → node_in (node.Comment value address) others ≡ comment_node value address.origin others
comment_is value address others =
    at (node_in (node.Comment value address)) (node_step (Node-F.Comment value address)) others
    (ap node_in (sym (node.rolls-Comment value address)) ∙ fold-roll-Node (Nodes → Nodes) node_step (Node-F.Comment value address))

pub pi_is : (target value : List ℕ) (address : Address) (others : Nodes) → node_in (node.Pi target value address) others ≡ pi_node target value address.origin others
pi_is target value address others =
    at (node_in (node.Pi target value address)) (node_step (Node-F.Pi target value address)) others
    (ap node_in (sym (node.rolls-Pi target value address)) ∙ fold-roll-Node (Nodes → Nodes) node_step (Node-F.Pi target value address))

-- ---- the paths of a node and of what it holds

pub element_paths : (name : Expanded) (attrs : List Attr) (context : Context) (kids : List Node) (address : Address) → paths_of (node.Elem name attrs context kids address) ≡ address.path ∷ paths_in kids
element_paths name attrs context kids address = ap paths_of (sym (node.rolls-Elem name attrs context kids address)) ∙ fold-roll-Node (List (List ℕ)) path_step (Node-F.Elem name attrs context kids address)

pub text_paths : (value : List ℕ) (address : Address) → paths_of (node.Text value address) ≡ address.path ∷ []
text_paths value address = ap paths_of (sym (node.rolls-Text value address)) ∙ fold-roll-Node (List (List ℕ)) path_step (Node-F.Text value address)

pub comment_paths : (value : List ℕ) (address : Address) → paths_of (node.Comment value address) ≡ address.path ∷ []
comment_paths value address = ap paths_of (sym (node.rolls-Comment value address)) ∙ fold-roll-Node (List (List ℕ)) path_step (Node-F.Comment value address)

pub pi_paths : (target value : List ℕ) (address : Address) → paths_of (node.Pi target value address) ≡ address.path ∷ []
pi_paths target value address = ap paths_of (sym (node.rolls-Pi target value address)) ∙ fold-roll-Node (List (List ℕ)) path_step (Node-F.Pi target value address)

-- ---- nodes in a row

joined-append : (xs ys : List (Nodes → Nodes)) (others : Nodes) → joined (xs ++ ys) others ≡ joined xs (joined ys others)
joined-append [] ys others = refl
joined-append (x ∷ xs) ys others = ap x (joined-append xs ys others)

pub nodes_before-append : (xs ys : List Node) (others : Nodes) → nodes_before (xs ++ ys) others ≡ nodes_before xs (nodes_before ys others)
nodes_before-append xs ys others = ap (λ fs. joined fs others) (map-append node_in xs ys) ∙ joined-append (map node_in xs) (map node_in ys) others

-- one node more at the end
pub nodes_before-last : (xs : List Node) (x : Node) (others : Nodes) → nodes_before (xs ++ x ∷ []) others ≡ nodes_before xs (node_in x others)
nodes_before-last xs x others = nodes_before-append xs (x ∷ []) others

pub paths_in-append : (xs ys : List Node) → paths_in (xs ++ ys) ≡ paths_in xs ++ paths_in ys
paths_in-append [] ys = refl
paths_in-append (x ∷ xs) ys = ap (λ (l : List (List ℕ)). paths_of x ++ l) (paths_in-append xs ys) ∙ sym (append_assoc (paths_of x) (paths_in xs) (paths_in ys))
