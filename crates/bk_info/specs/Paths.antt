-- The paths of nodes of the code.
--
--   paths_in   the paths of nodes in a row, in document order: that of an element stands before those of what it holds
use Rattle.std.specs.Prelude.{ℕ, List, [], ◌∷◌, ◌++◌, map}
use Rattle.bk_info.specs.declared.node.Node.{Node}
use Rattle.bk_info.specs.declared.node.Node.TheOpen.{Node-F, Elem, Text, Comment, Pi}
use Rattle.bk_info.specs.declared.node.Node.TheFolds.{fold-Node}

-- the paths of nodes in a row, joined
abbrev pub all_paths : List (List (List ℕ)) → List (List ℕ)
all_paths [] = []
all_paths (paths ∷ others) = paths ++ all_paths others

abbrev pub path_step : Node-F (List (List ℕ)) → List (List ℕ)
path_step (Elem name attrs context kids address) = address.path ∷ all_paths kids
path_step (Text value address) = address.path ∷ []
path_step (Comment value address) = address.path ∷ []
path_step (Pi target value address) = address.path ∷ []

-- the paths of a node and of what it holds
abbrev pub paths_of : Node → List (List ℕ)
paths_of = fold-Node (List (List ℕ)) path_step

abbrev pub paths_in : List Node → List (List ℕ)
paths_in nodes = all_paths (map paths_of nodes)
