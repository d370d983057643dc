-- Places of the printed tree; of this project. A place is a list of numbers from 1: the first is that of a node among those
-- at the top of a document, each further one that of a child of the element before.
-- Here: no two texts stand side by side, and no reference shows more than one node, as in a document that needs no
-- declaration.
--
--   path_of   the path of the item that gives the node at a place, where there is one
--   text_set  the nodes with another value in the place of the text that a place names
use Rattle.std.specs.Prelude.{ℕ, zero, suc, ◌-◌, List, [], ◌∷◌, if◌then◌else◌, Option, None, Some}
use Rattle.std.specs.Option.{option_map}
use Rattle.xt_spec.specs.Tree.{Items, nil, element, leaf}
use Rattle.bk_spec.specs.NodePaths.{gives_node}
use Rattle.bk_spec.specs.Node.{Origin, Nodes, no_nodes, element_node, text_node, comment_node, pi_node}

-- the index of the child of this number, from that of the next number among the items behind the first child
abbrev pub child_index : ℕ → Option ℕ → Option ℕ
child_index zero others = None
child_index (suc zero) others = Some 0
child_index (suc (suc number)) others = option_map suc others

-- the index of the item that gives the node of this number; items that give none are not counted
abbrev pub index_of : Items → ℕ → Option ℕ
index_of nil number = None
index_of (leaf kind text rest) number = if gives_node kind text then child_index number (index_of rest (number - 1)) else option_map suc (index_of rest number)
index_of (element open_tag kids close rest) number = child_index number (index_of rest (number - 1))

-- what the item of this index holds
abbrev pub content_of : Items → ℕ → Items
content_of nil index = nil
content_of (leaf kind text rest) zero = nil
content_of (element open_tag kids close rest) zero = kids
content_of (leaf kind text rest) (suc index) = content_of rest index
content_of (element open_tag kids close rest) (suc index) = content_of rest index

-- a first index, and the path that goes on from there
abbrev pub step_along : Option ℕ → (ℕ → Option (List ℕ)) → Option (List ℕ)
step_along None others = None
step_along (Some index) others = option_map (λ path. index ∷ path) (others index)

-- the path that a list of numbers leads along
abbrev pub path_along : Items → List ℕ → Option (List ℕ)
path_along items [] = Some []
path_along items (number ∷ place) = step_along (index_of items number) (λ index. path_along (content_of items index) place)

-- .. a place, which has a number at least
abbrev pub path_of : Items → List ℕ → Option (List ℕ)
path_of items [] = None
path_of items (number ∷ place) = path_along items (number ∷ place)

-- a text with this value, which goes where that is empty
abbrev pub text_or_none : List ℕ → Origin → Nodes → Nodes
text_or_none [] origin others = others
text_or_none (b ∷ bytes) origin others = text_node (b ∷ bytes) origin others

-- the nodes with this value in the place of the text of this number, or of the one that a place leads to in it; other nodes
-- are as before
abbrev pub text_set_in : Nodes → ℕ → List ℕ → List ℕ → Nodes
text_set_in no_nodes number place value = no_nodes
text_set_in nodes zero place value = nodes
text_set_in (text_node old origin rest) (suc zero) [] value = text_or_none value origin rest
text_set_in (text_node old origin rest) (suc zero) (next ∷ place) value = text_node old origin rest
text_set_in (text_node old origin rest) (suc (suc number)) place value = text_node old origin (text_set_in rest (suc number) place value)
text_set_in (element_node head kids rest) (suc zero) [] value = element_node head kids rest
text_set_in (element_node head kids rest) (suc zero) (next ∷ place) value = element_node head (text_set_in kids next place value) rest
text_set_in (element_node head kids rest) (suc (suc number)) place value = element_node head kids (text_set_in rest (suc number) place value)
text_set_in (comment_node old origin rest) (suc zero) place value = comment_node old origin rest
text_set_in (comment_node old origin rest) (suc (suc number)) place value = comment_node old origin (text_set_in rest (suc number) place value)
text_set_in (pi_node target old origin rest) (suc zero) place value = pi_node target old origin rest
text_set_in (pi_node target old origin rest) (suc (suc number)) place value = pi_node target old origin (text_set_in rest (suc number) place value)

abbrev pub text_set : Nodes → List ℕ → List ℕ → Nodes
text_set nodes [] value = nodes
text_set nodes (number ∷ place) value = text_set_in nodes number place value
