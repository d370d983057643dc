-- What calls leave on a desk in memory; of this project.
--
--   step          what stands after a call
--   after         what stands after calls, the first of them first
--   opening       what stands before the first call
--   failures      how many calls failed
--   WasCrashState what a crash may have left after one of the calls from the t-th on
use Rattle.std.specs.Prelude.{ℕ, ◌+◌, ◌≤◌, List, [], ◌∷◌, ◌++◌, length, take, Bool, false, not, ◌&&◌, ◌||◌, if◌then◌else◌, Option, Some, None}
use Rattle.bk_desk.specs.declared.desk_name.DeskName.{DeskName}
use Rattle.bk_desk.specs.declared.log.Call.{Call}
use Rattle.bk_desk.specs.declared.log.Call.TheVariants.{Read, Put, Sync, Tell}
use Rattle.bk_desk.specs.declared.log.Entry.{Entry}
use Rattle.bk_desk.specs.DeskNames.{same_name}
use Rattle.bk_desk.specs.Disk.{DiskState, CrashState, IsCrashState}

-- the file of this name after a call; a write or a removal that fails leaves it
abbrev pub file_after : Call → DeskName → Option (List ℕ) → Option (List ℕ)
file_after (Read done) name file = file
file_after (Put other bytes done) name file = if done && same_name other name then bytes else file
file_after (Sync done) name file = file
file_after (Tell bytes done) name file = file

-- whether it is pending after a call: each write and removal makes it so, each sync that works ends it
abbrev pub pending_after : Call → DeskName → Bool → Bool
pending_after (Read done) name pending = pending
pending_after (Put other bytes done) name pending = same_name other name || pending
pending_after (Sync done) name pending = not done && pending
pending_after (Tell bytes done) name pending = pending

-- the bytes told after a call; a call that fails tells none
abbrev pub told_after : Call → List ℕ → List ℕ
told_after (Read done) told = told
told_after (Put other bytes done) told = told
told_after (Sync done) told = told
told_after (Tell bytes done) told = if done then told ++ bytes else told

abbrev pub step : DiskState → Call → DiskState
step standing call = record {
  files = λ name. file_after call name (standing.files name);
  pending = λ name. pending_after call name (standing.pending name);
  told = told_after call standing.told;
}

abbrev pub after : DiskState → List Call → DiskState
after standing [] = standing
after standing (call ∷ calls) = after (step standing call) calls

-- the bytes told after calls
abbrev pub told_by : List Call → List ℕ → List ℕ
told_by [] told = told
told_by (call ∷ calls) told = told_by calls (told_after call told)

-- the file of this name; of two of one name the last counts, and where there is none it is the one given
abbrev pub file_in : List Entry → DeskName → Option (List ℕ) → Option (List ℕ)
file_in [] name file = file
file_in (entry ∷ entries) name file = file_in entries name (if same_name entry.name name then Some entry.bytes else file)

-- these files, nothing pending, and nothing told
abbrev pub opening : List Entry → DiskState
opening entries = record { files = λ name. file_in entries name None; pending = λ name. false; told = [] }

abbrev pub is_done : Call → Bool
is_done (Read done) = done
is_done (Put other bytes done) = done
is_done (Sync done) = done
is_done (Tell bytes done) = done

-- how many calls failed
abbrev pub failures : List Call → ℕ
failures [] = 0
failures (call ∷ calls) = (if is_done call then 0 else 1) + failures calls

-- a crash after one of the calls from the t-th on, of those that were made
pub record WasCrashState (entries : List Entry) (calls : List Call) (t : ℕ) (crash : CrashState) : Type 0 where
  pub count : ℕ
  pub since : t ≤ count
  pub until : count ≤ length calls
  pub is : IsCrashState (after (opening entries) (take count calls)) crash
