-- The references through which nodes of the code came.
--
--   vias_in   those of each node in a row, in document order: those of an element stand before those of what it holds
--   HaveVia   each node came through these references
use Rattle.std.specs.Prelude.{◌≡◌, List, [], ◌∷◌, ◌++◌, map, All}
use Rattle.bk_info.specs.declared.reference.Reference.{Reference}
use Rattle.bk_info.specs.declared.node.Node.{Node}
use Rattle.bk_info.specs.declared.node.Node.TheOpen.{Node-F, Elem, Text, Comment, Pi}
use Rattle.bk_info.specs.declared.node.Node.TheFolds.{fold-Node}

-- the lists of nodes in a row, joined
abbrev pub all_vias : List (List (List Reference)) → List (List Reference)
all_vias [] = []
all_vias (vias ∷ others) = vias ++ all_vias others

abbrev pub via_step : Node-F (List (List Reference)) → List (List Reference)
via_step (Elem name attrs context kids address) = address.via ∷ all_vias kids
via_step (Text value address) = address.via ∷ []
via_step (Comment value address) = address.via ∷ []
via_step (Pi target value address) = address.via ∷ []

-- the references of a node, and of each that it holds
abbrev pub vias_of : Node → List (List Reference)
vias_of = fold-Node (List (List Reference)) via_step

abbrev pub vias_in : List Node → List (List Reference)
vias_in nodes = all_vias (map vias_of nodes)

abbrev pub HaveVia : List Reference → List Node → Type 0
HaveVia via nodes = All (λ own. own ≡ via) (vias_in nodes)
