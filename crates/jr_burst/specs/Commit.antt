-- What a commit wants, and what a crash at any point of it may leave; of this project.
--
--   IsClosed          the gate is closed, and that is durable
--   IsOldOrNew        a crash at any point of a commit
--   HasOpenJournal    from the open gate on: a journal of these items counts
--   RecoversTo        a crash from then on: these files are recovered
--   IsCarriedOut      the files stand as the journal says
--   Leaves            what a part of a commit leaves
use Rattle.std.specs.Prelude.{◌≡◌, ◌⊎◌, ℕ, List, true, false, Some}
use Rattle.bk_desk.specs.declared.desk_name.DeskName.TheVariants.{Book, Journal, Gate}
use Rattle.bk_desk.specs.Disk.{DiskImage, DiskState, CrashState, MayLeave, IsCrashImage, NothingPending}
use Rattle.jr_form.specs.declared.item.Item.{Item}
use Rattle.jr_burst.specs.SavedFiles.{Files, book_files, overlaid, names, is_open_gate, items_in, recovered_files}

-- A crash at any point of a commit: what was told is unchanged, the image recovers to what one at the start recovers to
-- or to the files overlaid by the plan, and a book file that the plan doesn't name is left as it may have been at the start.
pub record IsOldOrNew (start : DiskState) (items : List Item) (crash : CrashState) : Type 0 where
  pub told : crash.told ≡ start.told
  pub recovers : ((image : DiskImage) × IsCrashImage start image × (recovered_files crash.image ≡ recovered_files image)) ⊎ (recovered_files crash.image ≡ Some (overlaid items (book_files start.files)))
  pub others : (name : List ℕ) → names items name ≡ false → MayLeave start (Book name) (crash.image (Book name))

-- a crash from which these files are recovered, while a book file that the items don't name reads as at the start.
pub record RecoversTo (files : Files) (start : DiskState) (items : List Item) (crash : CrashState) : Type 0 where
  pub told : crash.told ≡ start.told
  pub recovers : recovered_files crash.image ≡ Some files
  pub others : (name : List ℕ) → names items name ≡ false → crash.image (Book name) ≡ start.files (Book name)

-- the gate is open beside a journal of these items, and nothing is pending
pub record HasOpenJournal (items : List Item) (standing : DiskState) : Type 0 where
  pub gate : is_open_gate (standing.files Gate) ≡ true
  pub journal : items_in (standing.files Journal) ≡ Some items
  pub durable : NothingPending standing

-- the gate is closed and isn't pending: what a commit wants
pub record IsClosed (standing : DiskState) : Type 0 where
  pub closed : is_open_gate (standing.files Gate) ≡ false
  pub durable : standing.pending Gate ≡ false

-- the gate is open, nothing is pending, and the journal leads to the files that stand there.
pub record IsCarriedOut (standing : DiskState) : Type 0 where
  pub gate : is_open_gate (standing.files Gate) ≡ true
  pub recovers : recovered_files standing.files ≡ Some (book_files standing.files)
  pub durable : NothingPending standing

-- the book files are these, nothing more was told, and nothing is pending
pub record Leaves (files : Files) (old new : DiskState) : Type 0 where
  pub book : book_files new.files ≡ files
  pub told : new.told ≡ old.told
  pub durable : NothingPending new
