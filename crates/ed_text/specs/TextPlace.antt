-- Where a text may be edited. Of this project.
use Rattle.std.specs.Prelude.{◌≡◌, ℕ, List, Some}
use Rattle.xt_spec.specs.Tree.{Items, Item, leaf_item, text_item}
use Rattle.xt_spec.specs.Paths.{item_at}

-- the item is a text item
abbrev pub IsText : Item → Type 0
IsText item = (text : List ℕ) × (item ≡ leaf_item text_item text)

-- at the path stands a text item
abbrev pub IsTextAt : Items → List ℕ → Type 0
IsTextAt items path = (text : List ℕ) × (item_at items path ≡ Some (leaf_item text_item text))
