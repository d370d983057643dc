-- What a recovery finds, and what it and a crash at any point of it leave; of this project.
--
--   IsUnnamed           no journal under an open gate names this file
--   RecoversAlike       two images recover to the same files, and neither is damaged
--   IsStartOrRecovered  a crash at any point of a recovery
--   IsRecovered         what it leaves
--   IsOnlySynced        nothing was written
use Rattle.std.specs.Prelude.{◌≡◌, ◌⊎◌, ℕ, List, Bool, true, false, nat_eq, Option, Some, None, IfSome}
use Rattle.std.specs.Cmp.Lexicographic.{pointwise}
use Rattle.bk_desk.specs.declared.desk_name.DeskName.TheVariants.{Book, Journal, Gate}
use Rattle.bk_desk.specs.declared.desk.DeskErr.{DeskErr}
use Rattle.bk_desk.specs.declared.desk.DeskErr.TheVariants.{Failed, NoMemory}
use Rattle.bk_desk.specs.declared.desk.Got.{Got}
use Rattle.bk_desk.specs.declared.desk.Got.TheVariants.{Absent, Bytes, Longer}
use Rattle.bk_desk.specs.Disk.{DiskImage, DiskState, CrashState, MayLeave, IsCrashImage, Syncs, NothingPending}
use Rattle.jr_form.specs.declared.item.Item.{Item}
use Rattle.jr_form.specs.Reading.{reading}
use Rattle.jr_burst.specs.declared.recovery.RecoverFault.{RecoverFault}
use Rattle.jr_burst.specs.declared.recovery.RecoverFault.TheVariants as faults
use Rattle.jr_burst.specs.SavedFiles.{Files, book_files, names, open_text, is_open_gate, items_in, recovered_files}

-- whether what a read of the gate gave is an open one
abbrev pub got_is_open : Got → Bool
got_is_open (Bytes bytes) = pointwise nat_eq bytes open_text
got_is_open Absent = false
got_is_open Longer = false

-- the items of what a read of the journal gave
abbrev pub items_got : Got → Option (List Item)
items_got (Bytes bytes) = reading bytes
items_got Absent = None
items_got Longer = None

-- a desk's error as a recovery's
abbrev pub fault_of : DeskErr → RecoverFault
fault_of Failed = faults.Desk
fault_of NoMemory = faults.NoMemory

-- no item of a journal under an open gate has this name
abbrev pub IsUnnamed : DiskState → List ℕ → Type 0
IsUnnamed start name = is_open_gate (start.files Gate) ≡ true → IfSome (items_in (start.files Journal)) (λ items. names items name ≡ false)

-- there are files that both recover to
pub record RecoversAlike (image other : DiskImage) : Type 0 where
  pub files : Files
  pub one : recovered_files image ≡ Some files
  pub two : recovered_files other ≡ Some files

-- A crash at any point of a recovery: what was told is unchanged, the image is one of the start or recovers to what the files
-- read at the start recover to, and a book file that no open journal names is left as it may have been at the start.
pub record IsStartOrRecovered (start : DiskState) (crash : CrashState) : Type 0 where
  pub told : crash.told ≡ start.told
  pub recovers : IsCrashImage start crash.image ⊎ RecoversAlike crash.image start.files
  pub others : (name : List ℕ) → IsUnnamed start name → MayLeave start (Book name) (crash.image (Book name))

-- the book is the recovered_files one, the gate is closed, and nothing is pending
pub record IsRecovered (start now : DiskState) : Type 0 where
  pub book : recovered_files start.files ≡ Some (book_files now.files)
  pub told : now.told ≡ start.told
  pub gate : is_open_gate (now.files Gate) ≡ false
  pub durable : NothingPending now

-- files and output are as before, and nothing is pending
pub record IsOnlySynced (old new : DiskState) : Type 0 where
  pub syncs : Syncs old new
  pub durable : NothingPending new

-- the gate is open, and nothing is pending
pub record HasOpenGate (standing : DiskState) : Type 0 where
  pub gate : is_open_gate (standing.files Gate) ≡ true
  pub durable : NothingPending standing
