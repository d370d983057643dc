-- What a run leaves besides its output, and what a crash at any point of it may leave; of this project.
--
--   RecoveredBook    words, script and files give a root, commands and a book that is recovered
--   is_still         a status of runs that recover no book: the files stay as they were
--   recovers_book    a status of runs over a book that was recovered
--   IsWhileSaving    a crash behind the recovery
--   MayCrashIn       a crash at any point of a run
--   KeepsFiles       the files read as before, and no more is pending
--   AreSavedBy       the files are those last saved by steps, nothing is pending, and the commit marker is closed
--   IsBookSaved      .. by the steps of a run
--   TakesRunSteps    how many steps a run takes
use Rattle.std.specs.Prelude.{◌≡◌, ℕ, ◌+◌, ◌*◌, ◌≤◌, Bool, ◌||◌, ◌==◌, false, IsTrue, List, length, Option, Some}
use Rattle.xt_spec.specs.Limit.{most_file_bytes}
use Rattle.ed_spec.specs.Book.{Book}
use Rattle.ed_spec.specs.Session.{Step}
use Rattle.bk_desk.specs.declared.desk_name.DeskName.TheVariants as desk
use Rattle.bk_desk.specs.Disk.{DiskImage, DiskState, CrashState, MayLeave, IsCrashState, WhileTelling, NothingPending}
use Rattle.jr_burst.specs.SavedFiles.{book_files, is_open_gate, recovered_files}
use Rattle.jr_burst.specs.Recover.{IsUnnamed, IsStartOrRecovered}
use Rattle.bk_script.specs.Command as script
use Rattle.bk_script.specs.Script.{IsScript}
use Rattle.ed_session.specs.Start.{file_steps, TakesSteps}
use Rattle.bk_run.specs.Counts.{all_steps}
use Rattle.bk_run.specs.Stops.{saved_after, IsSameInAll, IsOfOneBurst}
use Rattle.book_cli.specs.Output.{RootOutput, IsRun, IsBookRun}

-- the words name this root, the script asks for these commands, and the files recover to this book
pub record RecoveredBook (root : Option (List ℕ)) (bytes : List ℕ) (files : DiskImage) : Type 0 where
  pub name : List ℕ
  pub commands : List script.Command
  pub book : Book
  pub named : root ≡ Some name
  pub reads : IsScript bytes commands
  pub found : recovered_files files ≡ Some book

abbrev pub is_still : ℕ → Bool
is_still status = status == 2 || status == 4 || status == 8

abbrev pub recovers_book : ℕ → Bool
recovers_book status = status == 0 || status == 1 || status == 3

-- The files recovered are those of one save, and what was told is a front of the output. A book file that no open journal at
-- the start names, and that is the same in all books saved, is as a crash at the start could have left it.
pub record IsWhileSaving (start : DiskState) (book : Book) (steps : List Step) (last : List ℕ) (crash : CrashState) : Type 0 where
  pub burst : IsOfOneBurst start book steps last crash
  pub others : (name : List ℕ) → IsUnnamed start name → IsSameInAll book steps name → MayLeave start (desk.Book name) (crash.image (desk.Book name))

-- A crash at any point of a run. Before anything is told it may leave what one at the start could. Where no book is recovered
-- it leaves no other files, and a front of the output was told. Else the book is being recovered, and nothing was told; or the
-- commands are being carried out.
pub data MayCrashIn (root : Option (List ℕ)) (bytes : List ℕ) (start : DiskState) (crash : CrashState) : Type 0 where
  early : IsCrashState start crash → MayCrashIn root bytes start crash
  still : (status : ℕ) (text : List ℕ) → RootOutput root bytes start.files status text → IsTrue (is_still status) → WhileTelling text start crash → MayCrashIn root bytes start crash
  recovering : RecoveredBook root bytes start.files → IsStartOrRecovered start crash → MayCrashIn root bytes start crash
  saving : (of : RecoveredBook root bytes start.files) (steps : List Step) (last : List ℕ) (status : ℕ) → IsBookRun of.name of.commands of.book steps last status
      → IsWhileSaving start of.book steps last crash → MayCrashIn root bytes start crash

pub record KeepsFiles (old new : DiskState) : Type 0 where
  pub files : new.files ≡ old.files
  pub pending : new.pending ≡ old.pending

-- the files are those last saved by these steps, durably, and the commit marker is closed
pub record AreSavedBy (book : Book) (steps : List Step) (now : DiskState) : Type 0 where
  pub files : book_files now.files ≡ saved_after book steps
  pub gate : is_open_gate (now.files desk.Gate) ≡ false
  pub durable : NothingPending now

-- the book that was recovered, or the one last saved by a command, is on the disk
pub record IsBookSaved (root : Option (List ℕ)) (bytes : List ℕ) (start now : DiskState) (status : ℕ) : Type 0 where
  pub of : RecoveredBook root bytes start.files
  pub steps : List Step
  pub last : List ℕ
  pub run : IsBookRun of.name of.commands of.book steps last status
  pub saved : AreSavedBy of.book steps now

-- No step where no book is recovered. Else at most one a byte of the root, and 4,194,304 a command; and with the output of
-- such a run not less than one a byte of the root. Where the root opens, one a byte of it and those of the edits that were
-- made, exactly with the output of such a run, and at most where the run ended early.
pub record TakesRunSteps (root : Option (List ℕ)) (bytes : List ℕ) (files : DiskImage) (answer earlier now : ℕ) : Type 0 where
  pub none : (RecoveredBook root bytes files → ⊥) → now ≡ earlier
  pub most : (of : RecoveredBook root bytes files) → now ≤ earlier + (file_steps (of.book of.name) + length of.commands * most_file_bytes)
  pub least : IsTrue (recovers_book answer) → (of : RecoveredBook root bytes files) → earlier + file_steps (of.book of.name) ≤ now
  pub exact : (of : RecoveredBook root bytes files) (steps : List Step) (tree : List ℕ) (run : IsRun of.name of.commands of.book steps tree)
      → TakesSteps (IsTrue (recovers_book answer)) (file_steps (of.book of.name) + all_steps of.name run.asked steps) earlier now
