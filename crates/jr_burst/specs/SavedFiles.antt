-- The files that a disk stands for, with a journal on it that may count; of this project.
--
--   Files             the book file under each name, where there is one
--   overlaid          files after the items of a save are written and removed, the first of them first
--   is_open_gate      the commit marker is open: its file holds `OPEN`
--   items_in          the items of a journal file, where it has a reading
--   recovered_files   what a disk image stands for; none where it is damaged
use Rattle.std.specs.Prelude.{ℕ, List, [], ◌∷◌, Bool, false, ◌||◌, nat_eq, if◌then◌else◌, Option, Some, None}
use Rattle.std.specs.Cmp.Lexicographic.{pointwise}
use Rattle.bk_desk.specs.declared.desk_name.DeskName.TheVariants.{Book, Journal, Gate}
use Rattle.bk_desk.specs.Disk.{DiskImage}
use Rattle.jr_form.specs.declared.item.Item.{Item}
use Rattle.jr_form.specs.Reading.{reading}

-- the bytes of the book file of each name, where there is one
abbrev pub Files : Type 0
Files = List ℕ → Option (List ℕ)

-- the book files of a disk image
abbrev pub book_files : DiskImage → Files
book_files image name = image (Book name)

-- the files after this item is written or removed
abbrev pub changed : Item → Files → Files
changed item files name = if pointwise nat_eq item.name name then item.bytes else files name

-- the files overlaid by these items, the first of them first
abbrev pub overlaid : List Item → Files → Files
overlaid [] files = files
overlaid (item ∷ items) files = overlaid items (changed item files)

-- whether an item has this name
abbrev pub names : List Item → List ℕ → Bool
names [] name = false
names (item ∷ items) name = pointwise nat_eq item.name name || names items name

-- `OPEN`
abbrev pub open_text : List ℕ
open_text = 79 ∷ 80 ∷ 69 ∷ 78 ∷ []

-- whether a gate file is open: absent and other bytes, also longer ones, are closed
abbrev pub is_open_gate : Option (List ℕ) → Bool
is_open_gate None = false
is_open_gate (Some bytes) = pointwise nat_eq bytes open_text

-- the items of a journal file
abbrev pub items_in : Option (List ℕ) → Option (List Item)
items_in None = None
items_in (Some bytes) = reading bytes

-- files overlaid by the items of a journal, where it has a reading
abbrev pub laid_over : Option (List Item) → Files → Option Files
laid_over None files = None
laid_over (Some items) files = Some (overlaid items files)

-- The files that an image stands for: its book files, overlaid by the journal where the gate is open.
-- It is damaged, and stands for none, where the gate is open and the journal has no reading.
abbrev pub recovered_files : DiskImage → Option Files
recovered_files image = if is_open_gate (image Gate) then laid_over (items_in (image Journal)) (book_files image) else Some (book_files image)
