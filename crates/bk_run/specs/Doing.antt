-- A session over a disk beside the session of the definitions, and what a command makes of both; of this project.
--
--   asked_of     what a command of a script asks of the session
--   stop_of      why commands end early, where the disk gave this error
--   Stands       the root that is kept and the disk are those of the session
--   IsDone       a command was carried out, with this reply
--   MayCrashIn   a crash at any point of a command
use Rattle.std.specs.Prelude.{◌≡◌, ℕ, List, false, Some}
use Rattle.bk_desk.specs.declared.desk_name.DeskName.TheVariants.{Gate}
use Rattle.bk_desk.specs.declared.desk.DeskErr.{DeskErr}
use Rattle.bk_desk.specs.declared.desk.DeskErr.TheVariants as desk
use Rattle.bk_desk.specs.Disk.{DiskState, CrashState, IsCrashState, NothingPending}
use Rattle.jr_burst.specs.SavedFiles.{book_files, is_open_gate}
use Rattle.bk_script.specs.declared.command.Command.{Command as CommandOfCode}
use Rattle.bk_script.specs.declared.command.Command.TheVariants as code
use Rattle.ed_spec.specs.Book.{with_file}
use Rattle.ed_spec.specs.Session.{Session, Command, edit, burst, Reply, Does}
use Rattle.ed_session.specs.Kept.{Kept}
use Rattle.ed_edit.specs.View.{edit_of}
use Rattle.ed_session.specs.Burst.{MayCrashInBurst}
use Rattle.bk_run.specs.declared.stop.Stop.{Stop}
use Rattle.bk_run.specs.declared.stop.Stop.TheVariants as stop

abbrev pub asked_of : CommandOfCode → Command
asked_of (code.Edit made) = edit (edit_of made)
asked_of code.Burst = burst

abbrev pub stop_of : DeskErr → Stop
stop_of desk.Failed = stop.Fault
stop_of desk.NoMemory = stop.NoMemory

-- The files on the disk are those last saved, nothing is pending and the commit marker is closed. The book differs from
-- them in the root at most, which has the bytes that are kept.
pub record Stands (k : Kept) (disk : DiskState) (s : Session) : Type 0 where
  pub book : book_files disk.files ≡ s.saved
  pub edited : s.book ≡ with_file k.root k.bytes s.saved
  pub root : s.saved k.root ≡ Some k.saved
  pub gate : is_open_gate (disk.files Gate) ≡ false
  pub durable : NothingPending disk

-- the session does the command, gives this reply, and is then the one that is kept
pub record IsDone (root : List ℕ) (s : Session) (command : Command) (reply : Reply) (k : Kept) (disk : DiskState) : Type 0 where
  pub next : Session
  pub does : Does root s command reply next
  pub root_is : k.root ≡ root
  pub stands : Stands k disk next

-- an edit leaves the disk as it is
abbrev pub MayCrashIn : CommandOfCode → Kept → DiskState → CrashState → Type 0
MayCrashIn (code.Edit made) k start crash = IsCrashState start crash
MayCrashIn code.Burst k start crash = MayCrashInBurst k start crash
