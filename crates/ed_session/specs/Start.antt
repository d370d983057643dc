-- How a session begins, and why it doesn't; of this project, over the recovery of `jr_burst`.
--
--   start_of_recover, start_of_desk, start_of_open  the fault that one of a recovery, of the desk, or of a document, is
--   IsOver                           the session is over a root of these bytes
--   IsStarted                        the book was recovered, and the session is over its root
--   StartCause                       why there is no session: a fault of the root, the journal, or the disk
--   start_cause                      the cause that is told; none is where memory was wanting
--   IsNoOpening, IsNoRoot            why bytes, and a file, do not open
--   IsFaulty                         the book was recovered, and its root does not open
--   FailsBy                          why there is no session
--   size_of_got, file_steps          how many steps it takes to read a file: one a byte
--   recovered_steps                  .. the root of the book that is recovered; none where there is no book
--   HasRead                          the call did not end before the root was read
--   TakesSteps                       so many steps at most, and exactly so many where this holds
use Rattle.std.specs.Prelude.{◌≡◌, ◌≤◌, ◌+◌, ℕ, List, length, nat_le, if◌then◌else◌, Option, Some, None, Result, Ok, Err}
use Rattle.xt_spec.specs.Limit.{most_file_bytes}
use Rattle.xt_spec.specs.Tree.{Items}
use Rattle.bk_spec.specs.Fault.{Fault}
use Rattle.bk_info.specs.Nodes.{fault_in}
use Rattle.ent_doc.specs.declared.fault.OpenFault.{OpenFault}
use Rattle.ent_doc.specs.declared.fault.OpenFault.TheVariants as opening
use Rattle.bk_spec.specs.FirstFault.{IsDocumentFault, IsRootFault}
use Rattle.bk_desk.specs.declared.desk_name.DeskName.TheVariants.{Book}
use Rattle.bk_desk.specs.declared.desk.DeskErr.{DeskErr}
use Rattle.bk_desk.specs.declared.desk.DeskErr.TheVariants as desk
use Rattle.bk_desk.specs.Disk.{DiskState}
use Rattle.jr_burst.specs.declared.recovery.RecoverFault.{RecoverFault}
use Rattle.jr_burst.specs.declared.recovery.RecoverFault.TheVariants as recover
use Rattle.bk_desk.specs.declared.desk.Got.{Got}
use Rattle.bk_desk.specs.declared.desk.Got.TheVariants.{Absent, Bytes, Longer}
use Rattle.jr_burst.specs.SavedFiles.{Files, recovered_files}
use Rattle.jr_burst.specs.Recover.{IsRecovered, IsOnlySynced}
use Rattle.ed_session.specs.declared.opening.StartFault.{StartFault}
use Rattle.ed_session.specs.declared.opening.StartFault.TheVariants as start
use Rattle.ed_session.specs.Kept.{Kept, Opens}

-- the faults of a recovery, of the desk and of a document
abbrev pub start_of_recover : RecoverFault → StartFault
start_of_recover recover.Desk = start.Desk
start_of_recover recover.Journal = start.Journal
start_of_recover recover.NoMemory = start.NoMemory

abbrev pub start_of_desk : DeskErr → StartFault
start_of_desk desk.Failed = start.Desk
start_of_desk desk.NoMemory = start.NoMemory

abbrev pub start_of_open : OpenFault → StartFault
start_of_open (opening.Book fault) = start.Book fault
start_of_open opening.NoMemory = start.NoMemory

-- the session is over a root of these bytes, with nothing edited
pub record IsOver (root : List ℕ) (file : Option (List ℕ)) (session : Kept) : Type 0 where
  pub named : session.root ≡ root
  pub found : file ≡ Some session.bytes
  pub saved : session.saved ≡ session.bytes
  pub items : Items
  pub opens : Opens root session.bytes items

-- why there is no session
pub data StartCause : Type 0 where
  root_fault : Fault → StartCause
  damaged_journal : StartCause
  failed_disk : StartCause

-- the cause that is told; none is where memory was wanting
abbrev pub start_cause : StartFault → Option StartCause
start_cause (start.Book fault) = Some (root_fault (fault_in fault))
start_cause start.Journal = Some damaged_journal
start_cause start.Desk = Some failed_disk
start_cause start.NoMemory = None

-- there is no session over a root of these bytes
abbrev pub IsNoOpening : List ℕ → List ℕ → StartCause → Type 0
IsNoOpening root bytes (root_fault fault) = IsDocumentFault root bytes fault
IsNoOpening root bytes damaged_journal = ⊥
IsNoOpening root bytes failed_disk = ⊥

-- .. nor over this file
abbrev pub IsNoRoot : List ℕ → Option (List ℕ) → StartCause → Type 0
IsNoRoot root file (root_fault fault) = IsRootFault root file fault
IsNoRoot root file damaged_journal = ⊥
IsNoRoot root file failed_disk = ⊥

-- the session is over the root of the recovered book
pub record IsStarted (root : List ℕ) (old new : DiskState) (session : Kept) : Type 0 where
  pub recovered : IsRecovered old new
  pub over : IsOver root (new.files (Book root)) session

-- the book was recovered, and its root has this fault
pub record IsFaulty (root : List ℕ) (old new : DiskState) (fault : Fault) : Type 0 where
  pub recovered : IsRecovered old new
  pub cause : IsRootFault root (new.files (Book root)) fault

-- what stands where there is no session; that the disk failed is said of its count
abbrev pub FailsBy : List ℕ → DiskState → DiskState → StartCause → Type 0
FailsBy root old new (root_fault fault) = IsFaulty root old new fault
FailsBy root old new damaged_journal = (recovered_files old.files ≡ None) × IsOnlySynced old new
FailsBy root old new failed_disk = Unit {0}

-- how many bytes a read gave
abbrev pub size_of_got : Got → ℕ
size_of_got Absent = 0
size_of_got (Bytes bytes) = length bytes
size_of_got Longer = 0

-- a step a byte of a file of at most 4,194,304 bytes
abbrev pub file_steps : Option (List ℕ) → ℕ
file_steps None = 0
file_steps (Some bytes) = if nat_le (length bytes) most_file_bytes then length bytes else 0

-- .. of the root of the book that is recovered; none where the journal is damaged
abbrev pub recovered_steps : List ℕ → Option Files → ℕ
recovered_steps root None = 0
recovered_steps root (Some book) = file_steps (book root)

-- so many steps were taken at most, and exactly so many where this holds
pub record TakesSteps (whole : Type 0) (steps earlier now : ℕ) : Type 0 where
  pub most : now ≤ earlier + steps
  pub exact : whole → now ≡ earlier + steps

-- the call did not end before the root was read, or was found to be none
abbrev pub HasRead : Result Kept StartFault → Type 0
HasRead (Ok session) = Unit {0}
HasRead (Err (start.Book fault)) = Unit {0}
HasRead (Err start.Desk) = ⊥
HasRead (Err start.Journal) = ⊥
HasRead (Err start.NoMemory) = ⊥
