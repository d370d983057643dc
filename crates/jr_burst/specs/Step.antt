-- A step of a save as an item of its journal; of this project.
use Rattle.std.specs.Prelude.{◌≡◌, ℕ, List, []}
use Rattle.bk_desk.specs.declared.desk_name.DeskName.{DeskName}
use Rattle.bk_desk.specs.declared.desk_name.DeskName.TheVariants.{Book, Journal, Gate}
use Rattle.jr_form.specs.declared.item.Item.{Item}
use Rattle.jr_burst.specs.declared.step.Step.TheInside.{Inside}

-- the name of a book file; a control file has none
abbrev pub name_of : DeskName → List ℕ
name_of (Book name) = name
name_of Journal = []
name_of Gate = []

-- the item that a step carries out
abbrev pub item_of : Inside → Item
item_of step = record { name = name_of step.file; bytes = step.bytes }

-- a step is on a book file
abbrev pub IsBook : Inside → Type 0
IsBook step = step.file ≡ Book (name_of step.file)
