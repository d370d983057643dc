-- The journal of a save: the one spelling of each list of items; of this project. All numbers are big-endian.
--
--   BKBURST1 | number of items, 4 bytes, from 1 to 5,120 | items in strictly ascending byte order of their names
--   an item:   kind, 1 byte, 0 for a removal and 1 for a file | length of the name, 2 bytes | name
--              of a file: length, 4 bytes, at most 4,194,304 | bytes
--
--   spelling       the bytes that a list of items is written as
--   AreItems       a journal can hold these items
--   IsJournal      these bytes are the journal of these items, and not longer than a journal that is read
--   AreWritable    the items of a save: those whose journal is not too long to be read
use Rattle.std.specs.Prelude.{◌≡◌, ℕ, ◌≤◌, ◌+◌, ◌*◌, List, [], ◌∷◌, ◌++◌, length, codes, Bool, true, Option, Some, None, IfSome, IsTrue}
use Rattle.std.specs.List.{flat_map, AllByRecursion}
use Rattle.std.specs.Int.{w16, w32, to_be_bytes}
use Rattle.std.specs.Ordering.{nat_cmp, is_lt}
use Rattle.std.specs.Cmp.Lexicographic.{slice_cmp}
use Rattle.xt_spec.specs.Limit.{most_file_bytes, most_saved_bytes, most_saved_files}
use Rattle.bk_name.specs.FileName.{is_file_name}
use Rattle.jr_form.specs.declared.item.Item.{Item}

-- how long a journal is at most, in bytes: 12, with 5,120 times 262 for all but the files, and 67,108,864 for the files
abbrev pub most_journal_bytes : ℕ
most_journal_bytes = 12 + most_saved_files * 262 + most_saved_bytes

-- what a journal begins with
abbrev pub mark : List ℕ
mark = codes "BKBURST1"

-- 0 for a removal, 1 for a file
abbrev pub kind : Option (List ℕ) → ℕ
kind None = 0
kind (Some bytes) = 1

-- of a file, four bytes of length and its bytes
abbrev pub content : Option (List ℕ) → List ℕ
content None = []
content (Some bytes) = to_be_bytes w32 (length bytes) ++ bytes

-- two bytes of length and the name
abbrev pub name_field : List ℕ → List ℕ
name_field name = to_be_bytes w16 (length name) ++ name

-- one item
abbrev pub entry : Item → List ℕ
entry item = (kind item.bytes ∷ name_field item.name) ++ content item.bytes

-- all of it: nothing follows the last item
abbrev pub spelling : List Item → List ℕ
spelling items = mark ++ to_be_bytes w32 (length items) ++ flat_map entry items

-- whether a name stands behind this one in byte order, where there is one
abbrev pub comes_after : Option (List ℕ) → List ℕ → Bool
comes_after None name = true
comes_after (Some before) name = is_lt (slice_cmp nat_cmp before name)

-- the names stand in strictly ascending byte order, the first of them behind this one
abbrev pub Ascend : Option (List ℕ) → List Item → Type 0
Ascend before [] = Unit {0}
Ascend before (item ∷ items) = IsTrue (comes_after before item.name) × Ascend (Some item.name) items

-- the name of the last item
abbrev pub last_name : List Item → Option (List ℕ)
last_name [] = None
last_name (item ∷ []) = Some item.name
last_name (item ∷ next ∷ items) = last_name (next ∷ items)

-- the name is a book file's
abbrev pub IsNamed : Item → Type 0
IsNamed item = is_file_name item.name ≡ true

-- a file has at most 4,194,304 bytes
abbrev pub FileFits : Item → Type 0
FileFits item = IfSome item.bytes (λ bytes. length bytes ≤ most_file_bytes)

pub record Fits (item : Item) : Type 0 where
  pub name : IsNamed item
  pub bytes : FileFits item

-- items that a journal can hold
pub record AreItems (items : List Item) : Type 0 where
  pub some : 1 ≤ length items
  pub count : length items ≤ most_saved_files
  pub fit : AllByRecursion Fits items
  pub ascend : Ascend None items

-- these bytes are the journal of these items; a journal has at most 68,450,316 bytes, which is 12 + 5,120 * 262 + 67,108,864
pub record IsJournal (items : List Item) (bytes : List ℕ) : Type 0 where
  pub items_fit : AreItems items
  pub spelled : bytes ≡ spelling items
  pub cap : length bytes ≤ most_journal_bytes

-- how many bytes a file has; a removal has none
abbrev pub file_size : Option (List ℕ) → ℕ
file_size None = 0
file_size (Some bytes) = length bytes

-- how many bytes the files have together
abbrev pub total_size : List Item → ℕ
total_size [] = 0
total_size (item ∷ items) = file_size item.bytes + total_size items

-- the items of a save: 1 to 5,120 in strictly ascending byte order of names, no file of more than 4,194,304 bytes,
-- and all files together of at most 67,108,864
pub record AreWritable (items : List Item) : Type 0 where
  pub some : 1 ≤ length items
  pub count : length items ≤ most_saved_files
  pub files : AllByRecursion FileFits items
  pub ascend : Ascend None items
  pub total : total_size items ≤ most_saved_bytes
