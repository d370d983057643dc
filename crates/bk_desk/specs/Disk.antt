-- What stands on a desk, what its calls do to it, and what a crash may leave of it; of this project.
--
--   DiskImage        the file under each name, where there is one
--   DiskState        the files as reads give them, which of them are pending, and the output so far
--   CrashState       what a crash leaves: a disk image, and the output by then
--   MayLeave         what a crash may leave under one name
--   IsCrashImage     what it may leave under all
--   IsCrashState     a crash between two calls, or in a read or a sync
--   WhileWriting     a crash in a write or a removal
--   WhileTelling     a crash in a call that adds to the output
--   TouchesOnly      one file is pending and may read as anything; all else is as before
--   Replaces         one file reads so and is pending; all else is as before
--   IsWrite          what a write or a removal leaves, by its answer
--   Syncs            files and output are as before, and no more is pending
--   Tells            these bytes were added to the output
--   got_of           what a read with a cap answers
use Rattle.std.specs.Prelude.{◌≡◌, ◌⊎◌, ℕ, ◌≤◌, List, ◌++◌, length, take, nat_le, if◌then◌else◌, Bool, true, false, Option, None, Some, Result}
use Rattle.bk_desk.specs.declared.desk_name.DeskName.{DeskName}
use Rattle.bk_desk.specs.declared.desk.Got.{Got}
use Rattle.bk_desk.specs.declared.desk.Got.TheVariants.{Absent, Bytes, Longer}
use Rattle.bk_desk.specs.declared.desk.DeskErr.{DeskErr}
use Rattle.bk_desk.specs.declared.desk.DeskErr.TheVariants.{Failed, NoMemory}

-- the bytes of the file under each name, where there is one
abbrev pub DiskImage : Type 0
DiskImage = DeskName → Option (List ℕ)

-- what stands on a desk between two calls
pub record DiskState : Type 0 where
  -- the files, as reads give them
  pub files : DeskName → Option (List ℕ)
  -- whether a file was written or removed since the last sync
  pub pending : DeskName → Bool
  -- the bytes told
  pub told : List ℕ

-- what a crash leaves: the files, and the bytes told by then
pub record CrashState : Type 0 where
  pub image : DeskName → Option (List ℕ)
  pub told : List ℕ

-- a crash may leave under this name what reads give, and anything or nothing where it is pending
abbrev pub MayLeave : DiskState → DeskName → Option (List ℕ) → Type 0
MayLeave standing name file = standing.pending name ≡ false → file ≡ standing.files name

-- a crash may leave these files
abbrev pub IsCrashImage : DiskState → DiskImage → Type 0
IsCrashImage standing image = (name : DeskName) → MayLeave standing name (image name)

-- a crash between two calls
pub record IsCrashState (standing : DiskState) (crash : CrashState) : Type 0 where
  pub image : IsCrashImage standing crash.image
  pub told : crash.told ≡ standing.told

-- a crash in a call that writes or removes this file, from the state before the call
pub record WhileWriting (name : DeskName) (standing : DiskState) (crash : CrashState) : Type 0 where
  pub others : (other : DeskName) → (other ≡ name → ⊥) → MayLeave standing other (crash.image other)
  pub told : crash.told ≡ standing.told

-- a crash in a call that tells these bytes, from the state before the call: a prefix of them was told
pub record WhileTelling (bytes : List ℕ) (standing : DiskState) (crash : CrashState) : Type 0 where
  pub image : IsCrashImage standing crash.image
  pub told : (count : ℕ) × (crash.told ≡ standing.told ++ take count bytes)

-- this file alone is touched, and it is pending; it may read as anything
pub record TouchesOnly (name : DeskName) (old new : DiskState) : Type 0 where
  pub others : (other : DeskName) → (other ≡ name → ⊥) → new.files other ≡ old.files other
  pub pending : new.pending name ≡ true
  pub pending_others : (other : DeskName) → (other ≡ name → ⊥) → new.pending other ≡ old.pending other
  pub told : new.told ≡ old.told

-- the file of this name is this one, or absent, and pending; all else is as before
pub record Replaces (name : DeskName) (file : Option (List ℕ)) (old new : DiskState) : Type 0 where
  pub reads : new.files name ≡ file
  pub touches : TouchesOnly name old new

-- what a write or a removal leaves: after a fault the file is pending and may read as anything;
-- where memory was wanting, all may be as before too
abbrev pub IsWrite : {T : Type 0} → DeskName → Option (List ℕ) → DiskState → DiskState → Result T DeskErr → Type 0
IsWrite name file old new (Result.Ok x) = Replaces name file old new
IsWrite name file old new (Result.Err Failed) = TouchesOnly name old new
IsWrite name file old new (Result.Err NoMemory) = (new ≡ old) ⊎ TouchesOnly name old new

-- files and output are as before, and what was not pending isn't: what any sync leaves, also one that failed
pub record Syncs (old new : DiskState) : Type 0 where
  pub files : new.files ≡ old.files
  pub pending : (name : DeskName) → old.pending name ≡ false → new.pending name ≡ false
  pub told : new.told ≡ old.told

-- a crash leaves what reads give
abbrev pub NothingPending : DiskState → Type 0
NothingPending standing = (name : DeskName) → standing.pending name ≡ false

-- these bytes were added to the output; all else is as before
pub record Tells (bytes : List ℕ) (old new : DiskState) : Type 0 where
  pub files : new.files ≡ old.files
  pub pending : new.pending ≡ old.pending
  pub told : new.told ≡ old.told ++ bytes

-- a prefix of these bytes was added
abbrev pub TellsPrefix : List ℕ → DiskState → DiskState → Type 0
TellsPrefix bytes old new = (count : ℕ) × Tells (take count bytes) old new

-- what a read answers of this file: the bytes, where they are at most `cap`
abbrev pub got_of : Option (List ℕ) → ℕ → Got
got_of None cap = Absent
got_of (Some bytes) cap = if nat_le (length bytes) cap then Bytes bytes else Longer

-- what was read has at most `cap` bytes
abbrev pub FitsCap : ℕ → Got → Type 0
FitsCap cap (Bytes bytes) = length bytes ≤ cap
FitsCap cap Absent = Unit {0}
FitsCap cap Longer = Unit {0}
