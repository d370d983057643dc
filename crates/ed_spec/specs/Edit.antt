-- Edits: when one is refused, and what an accepted one makes of the book; of this project.
--
--   Edit       an edit; the value of a text is the list of its characters, and a range counts them from 0
--   Refusal    why an edit is refused
--   IsTextOf   the place names a text of these characters
--   Refuses    the first test that holds
--   Accepts    none holds, and this is the book afterwards
use Rattle.std.specs.Prelude.{◌≡◌, ◌<◌, ◌≤◌, ◌⊎◌, ℕ, List, ◌++◌, length, take, drop, Bool, true, false, None, Some, encode_utf8_all}
use Rattle.std.specs.List.{list_all}
use Rattle.xt_spec.specs.Limit.{most_file_bytes}
use Rattle.xt_spec.specs.Char.{is_char}
use Rattle.xt_spec.specs.Tree.{Items, Item, leaf_item, text_item, source_text}
use Rattle.xt_spec.specs.Text.{HasTextValue}
use Rattle.xt_spec.specs.Paths.{item_at}
use Rattle.ed_spec.specs.TextEdit.{text_edited}
use Rattle.ed_spec.specs.Place.{path_of}
use Rattle.ed_spec.specs.Book.{Book, with_file, Opens}

-- the characters of a text from one place to another give way to these
pub data Edit : Type 0 where
  text_edit : (place : List ℕ) → (from to : ℕ) → (new : List ℕ) → Edit

-- the refusals of the edits that are built
pub data Refusal : Type 0 where
  no_such_place : Refusal
  wrong_kind : Refusal
  bad_range : Refusal
  bad_text : Refusal
  too_large : Refusal

-- the item is a text of these characters
abbrev pub IsTextItemOf : Item → List ℕ → Type 0
IsTextItemOf (leaf_item text_item text) characters = HasTextValue text (encode_utf8_all characters)
IsTextItemOf _ characters = ⊥

-- the item is a text
abbrev pub is_text : Item → Bool
is_text (leaf_item text_item text) = true
is_text _ = false

-- the place leads to this item, by this path
pub record IsAt (items : Items) (place path : List ℕ) (item : Item) : Type 0 where
  pub leads : path_of items place ≡ Some path
  pub there : item_at items path ≡ Some item

-- the place leads by this path to a text of these characters, and the range lies in them
pub record IsInText (items : Items) (place : List ℕ) (from to : ℕ) (path characters : List ℕ) : Type 0 where
  pub item : Item
  pub at : IsAt items place path item
  pub value : IsTextItemOf item characters
  pub ascends : from ≤ to
  pub within : to ≤ length characters

-- the characters with others in the place of a range
abbrev pub range_replaced : List ℕ → ℕ → ℕ → List ℕ → List ℕ
range_replaced characters from to new = take from characters ++ new ++ drop to characters

-- the tree with these characters in the place of the range
abbrev pub edited : Items → List ℕ → List ℕ → ℕ → ℕ → List ℕ → Items
edited items path characters from to new = text_edited false items path (range_replaced characters from to new)

-- the test that holds, where none before it does: no node at the place; a node that is no text; a range that does not lie
-- in the text; a character that no document may hold; a file of more than 4,194,304 bytes
pub data Refuses (items : Items) : Edit → Refusal → Type 0 where
  no_node : (place : List ℕ) (from to : ℕ) (new : List ℕ) → path_of items place ≡ None → Refuses items (text_edit place from to new) no_such_place
  no_text : (place : List ℕ) (from to : ℕ) (new path : List ℕ) (item : Item) → IsAt items place path item → is_text item ≡ false
      → Refuses items (text_edit place from to new) wrong_kind
  no_range : (place : List ℕ) (from to : ℕ) (new path : List ℕ) (item : Item) (characters : List ℕ) → IsAt items place path item
      → IsTextItemOf item characters → (to < from) ⊎ (length characters < to) → Refuses items (text_edit place from to new) bad_range
  no_char : (place : List ℕ) (from to : ℕ) (new path characters : List ℕ) → IsInText items place from to path characters
      → list_all is_char new ≡ false → Refuses items (text_edit place from to new) bad_text
  no_room : (place : List ℕ) (from to : ℕ) (new path characters : List ℕ) → IsInText items place from to path characters
      → list_all is_char new ≡ true → most_file_bytes < length (source_text (edited items path characters from to new))
      → Refuses items (text_edit place from to new) too_large

-- no test holds, and these are the items afterwards
pub data Accepts (items : Items) : Edit → Items → Type 0 where
  accepted : (place : List ℕ) (from to : ℕ) (new path characters : List ℕ) → IsInText items place from to path characters
      → list_all is_char new ≡ true → length (source_text (edited items path characters from to new)) ≤ most_file_bytes
      → Accepts items (text_edit place from to new) (edited items path characters from to new)

-- the edit of the book with this root is refused so
abbrev pub RefusesIn : List ℕ → Book → Edit → Refusal → Type 0
RefusesIn root book edit refusal = (bytes : List ℕ) × (items : Items) × Opens root book bytes items × Refuses items edit refusal

-- .. is accepted, and this is the book afterwards: no file changes but the root
abbrev pub AcceptsIn : List ℕ → Book → Edit → Book → Type 0
AcceptsIn root book edit next = (bytes : List ℕ) × (items others : Items) × Opens root book bytes items × Accepts items edit others
    × (next ≡ with_file root (source_text others) book)
