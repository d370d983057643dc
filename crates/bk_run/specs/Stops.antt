-- What a crash at any point of a run leaves; of this project.
--
--   saved_after    the book last saved after these steps; saved_next: after the next of them
--   IsCut          a front of what is told next, which is not all of the next reply
--   IsSameInAll    a file that is in each book saved as it was in the first
--   IsOfOneBurst   the files of one save are recovered, and what was told is a front of the output
use Rattle.std.specs.Prelude.{◌≡◌, ◌⊎◌, ℕ, ◌<◌, List, [], ◌∷◌, ◌++◌, length, take, Some}
use Rattle.bk_desk.specs.declared.desk_name.DeskName.TheVariants as desk_name
use Rattle.bk_desk.specs.Disk.{DiskState, CrashState}
use Rattle.ed_spec.specs.Book.{Book}
use Rattle.ed_spec.specs.Session.{Step}
use Rattle.jr_burst.specs.SavedFiles.{recovered_files}
use Rattle.bk_run.specs.Replies.{reply_text, replies_text}

-- the book last saved after these steps, where this one was before
abbrev pub saved_after : Book → List Step → Book
saved_after book [] = book
saved_after book (step ∷ steps) = saved_after step.session.saved steps

-- .. after the next step alone
abbrev pub saved_next : Book → List Step → Book
saved_next book [] = book
saved_next book (step ∷ steps) = step.session.saved

-- this is not all of the next reply
abbrev pub IsCut : List ℕ → List Step → Type 0
IsCut front [] = Unit {0}
IsCut front (step ∷ steps) = length front < length (reply_text step.reply)

-- each book saved has at this name what the first has
abbrev pub IsSameInAll : Book → List Step → List ℕ → Type 0
IsSameInAll first [] name = Unit {0}
IsSameInAll first (step ∷ steps) name = (step.session.saved name ≡ first name) × IsSameInAll first steps name

-- Some replies were told whole, and of what comes next a front that is not all of the next reply. The files recovered are
-- those last saved by the commands whose replies were told whole, or by the next command too, where that is a burst.
-- A file that is the same in all books saved is on the disk as it was.
pub record IsOfOneBurst (start : DiskState) (first : Book) (steps : List Step) (last : List ℕ) (crash : CrashState) : Type 0 where
  pub whole : List Step
  pub rest : List Step
  pub parts : steps ≡ whole ++ rest
  pub count : ℕ
  pub told : crash.told ≡ start.told ++ (replies_text whole ++ take count (replies_text rest ++ last))
  pub cut : IsCut (take count (replies_text rest ++ last)) rest
  pub recovers : (recovered_files crash.image ≡ Some (saved_after first whole)) ⊎ (recovered_files crash.image ≡ Some (saved_next (saved_after first whole) rest))
  pub others : (name : List ℕ) → IsSameInAll first steps name → crash.image (desk_name.Book name) ≡ first name
