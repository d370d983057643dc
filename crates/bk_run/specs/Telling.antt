-- Replies that are told, and a crash while one is; of this project.
--
--   IsTold    a command was carried out, and its reply was told
--   AreTold   commands were, the first of them first, and all their replies
--   MayStop   a crash at any point of one command
use Rattle.std.specs.Prelude.{◌≡◌, ◌⊎◌, ℕ, List, ◌++◌, take, Bool, Some}
use Rattle.bk_desk.specs.declared.desk_name.DeskName.TheVariants as desk_name
use Rattle.bk_desk.specs.Disk.{DiskState, CrashState}
use Rattle.jr_burst.specs.SavedFiles.{recovered_files}
use Rattle.ed_spec.specs.Book.{Book}
use Rattle.ed_spec.specs.Session.{Session, Command, Reply, Step, DoesAll}
use Rattle.ed_session.specs.Kept.{Kept}
use Rattle.bk_run.specs.Replies.{reply_text, replies_text, is_refusal, any_refused}
use Rattle.bk_run.specs.Doing.{Stands, IsDone}

pub record IsTold (root : List ℕ) (s : Session) (command : Command) (k : Kept) (old new : DiskState) (is_refused : Bool) : Type 0 where
  pub reply : Reply
  pub done : IsDone root s command reply k new
  pub told : new.told ≡ old.told ++ reply_text reply
  pub refused_is : is_refused ≡ is_refusal reply

-- from this session the commands have these replies, which are what was told
pub record AreTold (root : List ℕ) (s : Session) (commands : List Command) (k : Kept) (old new : DiskState) (is_refused : Bool) : Type 0 where
  pub steps : List Step
  pub last : Session
  pub does : DoesAll root s commands steps last
  pub root_is : k.root ≡ root
  pub stands : Stands k new last
  pub told : new.told ≡ old.told ++ replies_text steps
  pub refused_is : is_refused ≡ any_refused steps

-- A front of the reply was told. The files recovered are those last saved after the command, or, where nothing was told, before it.
-- A file that the command leaves as it was saved is on the disk so.
pub record MayStop (start : DiskState) (before after : Book) (reply : Reply) (crash : CrashState) : Type 0 where
  pub count : ℕ
  pub told : crash.told ≡ start.told ++ take count (reply_text reply)
  pub recovers : (recovered_files crash.image ≡ Some after) ⊎ ((count ≡ 0) × (recovered_files crash.image ≡ Some before))
  pub others : (name : List ℕ) → after name ≡ before name → crash.image (desk_name.Book name) ≡ before name
