-- The lossless tree of a file: its syntax items in order, with every text of the file in them, as written. It holds no
-- offsets, and its texts joined are the file. A text is the list of its bytes.
--
--   Items        a list of syntax items: elements with what they hold, and leaves
--   Item         one of them
--   source_text  the texts of the items, joined in order
--   append       the items of two lists
use Rattle.std.specs.Prelude.{List, ℕ, [], ◌∷◌, ◌++◌, Option, None, Some, Bool, true, false}

-- a leaf is a maximal run of character data and of references that stand for a character, another reference, a comment,
-- a processing instruction, or what stands at the top of a document beside comments, PIs and the element (white space)
pub data LeafKind : Type 0 where
  text_item : LeafKind
  reference_item : LeafKind
  comment_item : LeafKind
  pi_item : LeafKind
  gap : LeafKind

-- no item, or an item and those behind it. An element has its start-tag, its content, and its end-tag, or its
-- empty-element tag alone.
pub data Items : Type 0 where
  nil : Items
  element : List ℕ → Items → Option (List ℕ) → Items → Items
  leaf : LeafKind → List ℕ → Items → Items

-- the text of an end-tag, where there is one
abbrev pub close_text : Option (List ℕ) → List ℕ
close_text None = []
close_text (Some text) = text

-- what the items join to
abbrev pub source_text : Items → List ℕ
source_text nil = []
source_text (element open_tag kids close rest) = open_tag ++ source_text kids ++ close_text close ++ source_text rest
source_text (leaf kind text rest) = text ++ source_text rest

-- one item, by itself
pub data Item : Type 0 where
  element_item : List ℕ → Items → Option (List ℕ) → Item
  leaf_item : LeafKind → List ℕ → Item

-- an item, and behind it others
abbrev pub before : Item → Items → Items
before (element_item open_tag kids close) others = element open_tag kids close others
before (leaf_item kind text) others = leaf kind text others

-- the items of a list
abbrev pub items_of : List Item → Items
items_of [] = nil
items_of (item ∷ others) = before item (items_of others)

-- the items, and behind them others
abbrev pub append : Items → Items → Items
append nil others = others
append (element open_tag kids close rest) others = element open_tag kids close (append rest others)
append (leaf kind text rest) others = leaf kind text (append rest others)

-- the first item is a leaf of this kind
abbrev pub is_kind : LeafKind → LeafKind → Bool
is_kind text_item text_item = true
is_kind reference_item reference_item = true
is_kind comment_item comment_item = true
is_kind pi_item pi_item = true
is_kind gap gap = true
is_kind _ _ = false

abbrev pub begins_with : LeafKind → Items → Bool
begins_with kind nil = false
begins_with kind (element open_tag kids close rest) = false
begins_with kind (leaf other text rest) = is_kind kind other
