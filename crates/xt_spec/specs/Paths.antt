-- Syntax items by their paths; of this project. A path is a list of indices from 0: the first is that of an item among
-- those at the top of a file, each further one that of an item in the content of the element before.
--
--   item_at   the item at a path, where there is one
--   replaced  the items with others in its place
use Rattle.std.specs.Prelude.{ℕ, zero, suc, List, [], ◌∷◌, Option, None, Some}
use Rattle.xt_spec.specs.Tree.{Items, nil, element, leaf, Item, element_item, leaf_item, append}

-- the item of this index, or what a path leads to in it
abbrev pub item_in : Items → ℕ → List ℕ → Option Item
item_in nil index path = None
item_in (leaf kind text rest) zero [] = Some (leaf_item kind text)
item_in (leaf kind text rest) zero (next ∷ path) = None
item_in (leaf kind text rest) (suc index) path = item_in rest index path
item_in (element open_tag kids close rest) zero [] = Some (element_item open_tag kids close)
item_in (element open_tag kids close rest) zero (next ∷ path) = item_in kids next path
item_in (element open_tag kids close rest) (suc index) path = item_in rest index path

-- the item at the path; an empty path is that of none
abbrev pub item_at : Items → List ℕ → Option Item
item_at items [] = None
item_at items (index ∷ path) = item_in items index path

-- the items with others in the place of the item of this index, or of what a path leads to in it
abbrev pub replaced_in : Items → ℕ → List ℕ → Items → Items
replaced_in nil index path others = nil
replaced_in (leaf kind text rest) zero [] others = append others rest
replaced_in (leaf kind text rest) zero (next ∷ path) others = leaf kind text rest
replaced_in (leaf kind text rest) (suc index) path others = leaf kind text (replaced_in rest index path others)
replaced_in (element open_tag kids close rest) zero [] others = append others rest
replaced_in (element open_tag kids close rest) zero (next ∷ path) others = element open_tag (replaced_in kids next path others) close rest
replaced_in (element open_tag kids close rest) (suc index) path others = element open_tag kids close (replaced_in rest index path others)

-- the items with others in the place of the item at the path; as they are where there is none
abbrev pub replaced : Items → List ℕ → Items → Items
replaced items [] others = items
replaced items (index ∷ path) others = replaced_in items index path others
