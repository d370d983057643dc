-- How a run ends: what was told of an output, and what is left; of this project. `points` says of a property of crashes that
-- it holds at each point since the call began.
--
--   AnswersWith      a text was told, and the answer is the status that comes with it; or the answer is 6 or 7, and a front was
--   IsToldWith       a call told a text so, and touched no file
--   IsSessionRun     commands were carried out over a session, and the replies and the tree told so
--   IsRunOver        a run over the bytes of a script
--   IsSourceFault    a run whose source failed
--   EndsBy           a run of one of these two kinds
--   EndsEarly        .. that ends with 6 or 7
--   IsLocalRun       the steps behind what was told, of a run over a book; each of them is local
use Rattle.std.specs.Prelude.{◌≡◌, ◌⊎◌, ℕ, List, ◌++◌, take, IsTrue, Option, Some}
use Rattle.ed_spec.specs.Session.{Command, Step}
use Rattle.ed_laws.specs.LocalSteps.{AreLocalSteps}
use Rattle.bk_desk.specs.Disk.{DiskState, CrashState, WhileTelling}
use Rattle.jr_burst.specs.SavedFiles.{book_files}
use Rattle.bk_script.specs.Command as script
use Rattle.bk_run.specs.Replies.{AreCommandsOf, replies_text}
use Rattle.bk_run.specs.Stops.{IsOfOneBurst}
use Rattle.book_cli.specs.Output.{source_line, RootOutput, IsRun, IsBookRun, status_after, is_exit_status, WritesOutput, WritesPrefix}
use Rattle.book_cli.specs.Leaves.{RecoveredBook, recovers_book, MayCrashIn, KeepsFiles, AreSavedBy, IsBookSaved}

-- this text was told behind what was told before, and the answer is its status; or, with 6 or 7, a front of it was
pub data AnswersWith (status : ℕ) (text earlier now : List ℕ) (answer : ℕ) : Type 0 where
  whole : answer ≡ status → now ≡ earlier ++ text → AnswersWith status text earlier now answer
  cut : (answer ≡ 6) ⊎ (answer ≡ 7) → (count : ℕ) → now ≡ earlier ++ take count text → AnswersWith status text earlier now answer

pub record IsToldWith (status : ℕ) (text : List ℕ) (old new : DiskState) (points : (CrashState → Type 0) → Type 0) (answer : ℕ) : Type 0 where
  pub told : AnswersWith status text old.told new.told answer
  pub same : KeepsFiles old new
  pub crash : points (WhileTelling text old)

-- over the book on the disk, whose root is open
pub record IsSessionRun (root : List ℕ) (commands : List script.Command) (old new : DiskState) (points : (CrashState → Type 0) → Type 0) (answer : ℕ) : Type 0 where
  pub steps : List Step
  pub tree : List ℕ
  pub run : IsRun root commands (book_files old.files) steps tree
  pub told : AnswersWith (status_after steps) (replies_text steps ++ tree) old.told new.told answer
  pub crash : points (IsOfOneBurst old (book_files old.files) steps tree)
  pub durable : answer ≡ status_after steps → AreSavedBy (book_files old.files) steps new

-- the output of this root, script and files was told, or with 6 or 7 a front of it
pub record IsRunOver (root : Option (List ℕ)) (bytes : List ℕ) (start now : DiskState) (points : (CrashState → Type 0) → Type 0) (answer : ℕ) : Type 0 where
  pub output : IsTrue (is_exit_status answer) → WritesOutput (RootOutput root bytes start.files) answer start.told now.told
  pub prefix : WritesPrefix (RootOutput root bytes start.files) start.told now.told
  pub crash : points (MayCrashIn root bytes start)
  pub durable : IsTrue (recovers_book answer) → IsBookSaved root bytes start now answer
  pub others : (RecoveredBook root bytes start.files → ⊥) → now.files ≡ start.files

-- the words have a reading, the source's count of faults rose, and its line was told, or with 6 or 7 a front of it
pub record IsSourceFault (root : Option (List ℕ)) (rose : Type 0) (start now : DiskState) (points : (CrashState → Type 0) → Type 0) (answer : ℕ) : Type 0 where
  pub name : List ℕ
  pub named : root ≡ Some name
  pub rose_is : rose
  pub line : IsToldWith 5 source_line start now points answer

-- a run of one of these two kinds
pub data EndsBy (root : Option (List ℕ)) (bytes : List ℕ) (rose : Type 0) (start now : DiskState) (points : (CrashState → Type 0) → Type 0) (answer : ℕ) : Type 0 where
  output : IsRunOver root bytes start now points answer → EndsBy root bytes rose start now points answer
  source : IsSourceFault root rose start now points answer → EndsBy root bytes rose start now points answer

-- Where the disk or the output failed, or memory was wanting: of the output a front was told, or nothing; or the source failed
-- too, and of its line.
pub data EndsEarly (root : Option (List ℕ)) (bytes : List ℕ) (rose : Type 0) (start now : DiskState) (points : (CrashState → Type 0) → Type 0) (answer : ℕ) : Type 0 where
  in_part : WritesPrefix (RootOutput root bytes start.files) start.told now.told → points (MayCrashIn root bytes start) → EndsEarly root bytes rose start now points answer
  at_source : IsSourceFault root rose start now points answer → EndsEarly root bytes rose start now points answer

-- What was told are the replies to these steps and what is told behind them, or with 6 or 7 a front of that. Each of the
-- steps, from the book that was recovered on, makes a local edit, takes one back, or leaves the book as it was.
pub record IsLocalRun (root : Option (List ℕ)) (bytes : List ℕ) (start now : DiskState) (answer : ℕ) : Type 0 where
  pub of : RecoveredBook root bytes start.files
  pub asked : List Command
  pub asks : AreCommandsOf of.commands asked
  pub steps : List Step
  pub last : List ℕ
  pub status : ℕ
  pub run : IsBookRun of.name of.commands of.book steps last status
  pub told : AnswersWith status (replies_text steps ++ last) start.told now.told answer
  pub local : AreLocalSteps of.name of.book asked steps
