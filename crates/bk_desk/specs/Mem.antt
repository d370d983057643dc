-- A desk in memory, by its record of calls; of this project.
--
--   mem_standing   what stands on it
--   mem_calls      how many calls were made of it; one that found no memory isn't counted
--   mem_fails      the numbers of the calls that are to fail, from 1
--   mem_faults     how many calls failed
--   mem_refused    how often memory was refused
--   mem_faultless  no later call is one that is to fail
--   IsNew          it is new: these files, these calls to fail, and no call yet
--   IsCounted      a call was counted, and failed exactly where its number is listed
use Rattle.std.specs.Prelude.{◌≡◌, ℕ, ◌+◌, ◌≤◌, ◌<◌, List, length, take, Bool, true, false, nat_eq, Result}
use Rattle.std.specs.List.{list_any}
use Rattle.std.proofs.Common.{subst, sym, arith}
use Rattle.std.proofs.lemmas.List.{take_all}
use Rattle.bk_desk.specs.declared.desk.DeskErr.{DeskErr}
use Rattle.bk_desk.specs.declared.desk.DeskErr.TheVariants.{Failed, NoMemory}
use Rattle.bk_desk.specs.declared.log.Call.{Call}
use Rattle.bk_desk.specs.declared.log.Entry.{Entry}
use Rattle.bk_desk.specs.declared.mem_desk.MemDesk.{MemDesk}
use Rattle.bk_desk.specs.Disk.{DiskState, CrashState, IsCrashState}
use Rattle.bk_desk.specs.Calls.{after, opening, failures, WasCrashState}

abbrev pub mem_standing : MemDesk → DiskState
mem_standing desk = after (opening desk.log.start.items) desk.log.calls.items

-- what stood on it after so many calls
abbrev pub mem_standing_after : MemDesk → ℕ → DiskState
mem_standing_after desk count = after (opening desk.log.start.items) (take count desk.log.calls.items)

abbrev pub mem_calls : MemDesk → ℕ
mem_calls desk = length desk.log.calls.items

abbrev pub mem_fails : MemDesk → List ℕ
mem_fails desk = desk.fails.items

-- how many calls failed
abbrev pub mem_faults : MemDesk → ℕ
mem_faults desk = failures desk.log.calls.items

-- how often memory was refused
abbrev pub mem_refused : MemDesk → ℕ
mem_refused desk = desk.refused

-- what a crash may have left at or after the t-th call
abbrev pub mem_was : MemDesk → ℕ → CrashState → Type 0
mem_was desk t crash = WasCrashState desk.log.start.items desk.log.calls.items t crash

-- whether the number is in the list
abbrev pub is_listed : List ℕ → ℕ → Bool
is_listed numbers number = list_any (λ n. nat_eq n number) numbers

-- no number of a later call is listed
abbrev pub mem_faultless : MemDesk → Type 0
mem_faultless desk = (number : ℕ) → mem_calls desk < number → is_listed (mem_fails desk) number ≡ false

-- a new desk
pub record IsNew (opened : DiskState) (listed : List ℕ) (desk : MemDesk) : Type 0 where
  pub standing : mem_standing desk ≡ opened
  pub calls : mem_calls desk ≡ 0
  pub fails : mem_fails desk ≡ listed
  pub faults : mem_faults desk ≡ 0

-- a call was recorded: it failed so often, and its number is listed so; the list stays
pub record IsRecorded (failed : ℕ) (listed : Bool) (old new : MemDesk) : Type 0 where
  pub calls : mem_calls new ≡ mem_calls old + 1
  pub faults : mem_faults new ≡ mem_faults old + failed
  pub number : is_listed (mem_fails old) (mem_calls old + 1) ≡ listed
  pub fails : mem_fails new ≡ mem_fails old

-- no call was recorded
pub record IsUnrecorded (old new : MemDesk) : Type 0 where
  pub calls : mem_calls new ≡ mem_calls old
  pub faults : mem_faults new ≡ mem_faults old
  pub fails : mem_fails new ≡ mem_fails old

-- A call of the desk, by its answer: it is counted, and fails exactly where its number is listed;
-- where memory was wanting it isn't counted.
abbrev pub IsCounted : {T : Type 0} → MemDesk → MemDesk → Result T DeskErr → Type 0
IsCounted old new (Result.Ok x) = IsRecorded 0 false old new
IsCounted old new (Result.Err Failed) = IsRecorded 1 true old new
IsCounted old new (Result.Err NoMemory) = IsUnrecorded old new

-- a crash between two calls is one since any earlier time
pub mem_counts_now : (entries : List Entry) (calls : List Call) (t : ℕ) (crash : CrashState) → t ≤ length calls → IsCrashState (after (opening entries) calls) crash → WasCrashState entries calls t crash
mem_counts_now entries calls t crash le is = record {
  count = length calls;
  since = le;
  until = omega arith;
  is = subst (λ (l : List Call). IsCrashState (after (opening entries) l) crash) (sym (take_all (length calls) calls (omega arith))) is;
}

-- since the last call there is no other
pub mem_only_now : (entries : List Entry) (calls : List Call) (crash : CrashState) → WasCrashState entries calls (length calls) crash → IsCrashState (after (opening entries) calls) crash
mem_only_now entries calls crash was = subst (λ (l : List Call). IsCrashState (after (opening entries) l) crash) (take_all was.count calls was.since) was.is
