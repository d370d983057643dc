-- Which places of the printed tree have a node; of this project. A place is a list of numbers from 1, as in `ed_spec::Place`.
--
--   has_node   the nodes have one at the place
use Rattle.std.specs.Prelude.{ℕ, zero, suc, ◌-◌, List, [], ◌∷◌, Bool, true, false}
use Rattle.bk_spec.specs.Node.{Nodes, no_nodes, element_node, text_node, comment_node, pi_node}

-- of a node that holds none, and of those behind it: whether they have one, counted from the next node on
abbrev pub at_leaf : ℕ → List ℕ → Bool → Bool
at_leaf zero place behind = false
at_leaf (suc zero) [] behind = true
at_leaf (suc zero) (next ∷ place) behind = false
at_leaf (suc (suc number)) place behind = behind

-- nodes in a row have the one of this number, or in it the one that a place leads to
abbrev pub has_node_in : Nodes → ℕ → List ℕ → Bool
has_node_in no_nodes number place = false
has_node_in (text_node value origin rest) number place = at_leaf number place (has_node_in rest (number - 1) place)
has_node_in (comment_node inner origin rest) number place = at_leaf number place (has_node_in rest (number - 1) place)
has_node_in (pi_node target inner origin rest) number place = at_leaf number place (has_node_in rest (number - 1) place)
has_node_in (element_node head kids rest) zero place = false
has_node_in (element_node head kids rest) (suc zero) [] = true
has_node_in (element_node head kids rest) (suc zero) (next ∷ place) = has_node_in kids next place
has_node_in (element_node head kids rest) (suc (suc number)) place = has_node_in rest (suc number) place

abbrev pub has_node : Nodes → List ℕ → Bool
has_node nodes [] = false
has_node nodes (number ∷ place) = has_node_in nodes number place
