-- A source in memory; of this project.
--
--   mem_left      what is left of its bytes
--   mem_reads     how many reads were made of it; the number stands still at 2 ^ 64 - 1
--   IsNewSource   it is new: these bytes, at most so many a read, and these reads to fail
--   IsRead        a read was counted, and failed exactly where its number is listed
use Rattle.std.specs.Prelude.{◌≡◌, ℕ, ◌+◌, ◌-◌, ◌^◌, min, List, length, drop, true, false, Result}
use Rattle.bk_desk.specs.declared.mem_source.MemSource.{MemSource}
use Rattle.bk_desk.specs.Mem.{is_listed}

abbrev pub mem_left : MemSource → List ℕ
mem_left source = drop source.at source.bytes.items

abbrev pub mem_reads : MemSource → ℕ
mem_reads source = source.reads

-- how many reads failed
abbrev pub mem_read_faults : MemSource → ℕ
mem_read_faults source = source.faults

-- the number that a count of 64 bits comes to next
abbrev pub next_number : ℕ → ℕ
next_number number = min (number + 1) (2 ^ 64 - 1)

-- a new source
pub record IsNewSource (bytes : List ℕ) (most : ℕ) (listed : List ℕ) (source : MemSource) : Type 0 where
  pub left : mem_left source ≡ bytes
  pub reads : mem_reads source ≡ 0
  pub piece : source.piece ≡ most
  pub fails : source.fails.items ≡ listed
  pub faults : mem_read_faults source ≡ 0

-- A read into a buffer with so much room, by its answer: it is counted, and fails exactly where its number is listed.
-- Else it takes as many bytes as there are, as fit, and as a read gives at most. The rest of the source stays.
abbrev pub taken : MemSource → ℕ → ℕ
taken source room = min (min (length (mem_left source)) source.piece) room

pub record KeepsSource (old new : MemSource) : Type 0 where
  pub reads : mem_reads new ≡ next_number (mem_reads old)
  pub piece : new.piece ≡ old.piece
  pub fails : new.fails.items ≡ old.fails.items

abbrev pub IsRead : {E : Type 0} → MemSource → ℕ → Result ℕ E → Type 0
IsRead source room (Result.Ok count) = (is_listed source.fails.items (next_number (mem_reads source)) ≡ false) × (count ≡ taken source room)
IsRead source room (Result.Err e) = is_listed source.fails.items (next_number (mem_reads source)) ≡ true
