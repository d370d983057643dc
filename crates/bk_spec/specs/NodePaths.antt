-- Which syntax items give the nodes of a file; of this project. A path is a list of indices from 0, as in `xt_spec::Paths`:
-- all items count, also those that give no node.
--
--   gives_node   whether a leaf gives a node of its own
--   node_paths   the paths of the items that give nodes, in document order
use Rattle.std.specs.Prelude.{ℕ, suc, List, [], ◌∷◌, ◌++◌, Bool, true, false, not, if◌then◌else◌}
use Rattle.xt_spec.specs.Text.{is_void}
use Rattle.xt_spec.specs.Tree.{LeafKind, Items, nil, element, leaf, text_item, reference_item, comment_item, pi_item, gap}

-- whether a leaf gives a node of its own; a text with an empty value gives none
abbrev pub gives_node : LeafKind → List ℕ → Bool
gives_node text_item text = not (is_void text)
gives_node comment_item text = true
gives_node pi_item text = true
gives_node reference_item text = false
gives_node gap text = false

-- the path of an item, within the element at a path
abbrev pub path_below : List ℕ → ℕ → List ℕ
path_below outer index = outer ++ index ∷ []

-- the paths of the items that give nodes, in document order, where the first item has this index within the element at a
-- path (empty: at the top): that of an element stands before those of what it holds
abbrev pub node_paths : (outer : List ℕ) → (index : ℕ) → Items → List (List ℕ)
node_paths outer index nil = []
node_paths outer index (element open_tag kids close rest) =
    path_below outer index ∷ node_paths (path_below outer index) 0 kids ++ node_paths outer (suc index) rest
node_paths outer index (leaf kind text rest) =
    if gives_node kind text then path_below outer index ∷ node_paths outer (suc index) rest else node_paths outer (suc index) rest
