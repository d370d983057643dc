-- The files of the real disk, from its folder; of this project.
--
--   path_of      the path of a file: a book's file by its name, each control file by its own
--   folders_of   the folders of a path, below the current one
--   above        the folders of a path and the current one
--   paths_to_sync what is synced at once
--   items_read   the items of a journal, which are tested before it is written
--   new_in       the path of the new file that takes the place of one of the current folder
--   new_below    the same, of a folder below or above
--   IsFrontOf    bytes are the first ones of a reader, up to so many, where it tells what it has
use Rattle.std.specs.Prelude.{◌≡◌, ◌==◌, if◌then◌else◌, ℕ, zero, suc, Bool, List, [], ◌∷◌, ◌++◌, Option, None, Some, length, slice_index, take, map, codes}
use Rattle.std.specs.List.{flat_map}
use Rattle.jr_form.specs.declared.item.Item.{Item}
use Rattle.bk_desk.specs.declared.desk_name.DeskName.{DeskName}
use Rattle.bk_desk.specs.declared.desk_name.DeskName.TheVariants.{Book, Journal, Gate}

-- the bytes of the path, from the current folder
abbrev pub path_of : DeskName → List ℕ
path_of (Book name) = name
path_of Journal = codes ".burst-journal"
path_of Gate = codes ".burst-gate"

-- what stands before a place, where a `/` stands there
abbrev pub folder_at : List ℕ → ℕ → List (List ℕ)
folder_at path at = if slice_index path at == 0x2F then take at path ∷ [] else []

-- what stands before each `/` of the first n bytes, the topmost first
abbrev pub folders_up_to : List ℕ → ℕ → List (List ℕ)
folders_up_to path zero = []
folders_up_to path (suc n) = folders_up_to path n ++ folder_at path n

abbrev pub folders_of : List ℕ → List (List ℕ)
folders_of path = folders_up_to path (length path)

-- the folders of a path, and the current folder
abbrev pub above : List ℕ → List (List ℕ)
above path = folders_of path ++ codes "." ∷ []

-- what earlier runs may have left, until a first sync; since the last one each file that was written in its place or removed,
-- and the folders above each that was written or removed
abbrev pub paths_to_sync : Bool → List DeskName → List DeskName → List (List ℕ)
paths_to_sync has_synced in_place names =
    (if has_synced then [] else path_of Journal ∷ path_of Gate ∷ codes "." ∷ []) ++ map path_of in_place ++ flat_map (λ name. above (path_of name)) names

-- the items of a journal; none where it has no reading
abbrev pub items_read : Option (List Item) → List Item
items_read None = []
items_read (Some items) = items

-- the path of a new file beside a file of the current folder
abbrev pub new_in : List ℕ → List ℕ
new_in last = codes ".burst-new-" ++ last

-- the path of a new file beside a file of another folder
abbrev pub new_below : List ℕ → List ℕ → List ℕ
new_below folder last = (folder ++ codes "/") ++ new_in last

-- the first bytes, at most so many
abbrev pub IsFrontOf : Option (List ℕ) → ℕ → List ℕ → Type 0
IsFrontOf None most bytes = Unit {0}
IsFrontOf (Some all) most bytes = bytes ≡ take most all
