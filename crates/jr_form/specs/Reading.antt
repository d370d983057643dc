-- Reading a journal from left to right; of this project. That it gives exactly what is spelled is `one_reading` and
-- the clauses of `read_journal`.
--
--   Gives       a reader answers what a definition gives, or that memory was wanting
--   reading     the items that all of the bytes spell, where they spell any
use Rattle.std.specs.Prelude.{◌≡◌, ℕ, zero, suc, List, [], ◌∷◌, length, take, drop, Option, Some, None, Result, Ok, Err, nat_lt, nat_le, nat_eq, ◌&&◌, if◌then◌else◌}
use Rattle.std.specs.Int.{Width, w16, w32, byte_len, from_be_bytes}
use Rattle.std.specs.Cmp.Lexicographic.{pointwise}
use Rattle.xt_spec.specs.Limit.{most_file_bytes, most_saved_files}
use Rattle.bk_name.specs.FileName.{is_file_name}
use Rattle.jr_form.specs.declared.item.Item.{Item}
use Rattle.jr_form.specs.declared.reading.Stop.{Stop}
use Rattle.jr_form.specs.declared.reading.Stop.TheVariants.{NoReading, NoMemory}
use Rattle.jr_form.specs.Journal.{most_journal_bytes, mark, comes_after}

infixl 10 ◌>>=◌
abbrev pub ◌>>=◌ : {A B : Type 0} → Option A → (A → Option B) → Option B
(Some x) >>= f = f x
None >>= f = None

-- why a reader stopped: there is no reading, or memory was wanting
abbrev pub Stops : {Y : Type 0} → Stop → Option Y → Type 0
Stops NoReading read = read ≡ None
Stops NoMemory read = Unit {0}

-- what a reader answered, seen by view, is what is read there
abbrev pub Gives : {X Y : Type 0} → (X → Y) → Result X Stop → Option Y → Type 0
Gives view (Ok x) read = read ≡ Some (view x)
Gives view (Err stop) read = Stops stop read

-- each gives what stands at the front, and the rest: so many bytes, a number, a name, a file, an item, the mark
abbrev pub bytes_at : ℕ → List ℕ → Option (List ℕ × List ℕ)
bytes_at n bytes = if nat_lt (length bytes) n then None else Some (take n bytes, drop n bytes)

abbrev pub number_at : Width → List ℕ → Option (ℕ × List ℕ)
number_at w bytes = if nat_lt (length bytes) (byte_len w) then None else Some (from_be_bytes w (take (byte_len w) bytes), drop (byte_len w) bytes)

unfoldable pub name_at : List ℕ → Option (List ℕ × List ℕ)
name_at bytes = do
  n ← number_at w16 bytes
  name ← bytes_at n.0 n.1
  if is_file_name name.0 then Some name else None

unfoldable pub file_at : List ℕ → Option (List ℕ × List ℕ)
file_at bytes = do
  n ← number_at w32 bytes
  if nat_le n.0 most_file_bytes then bytes_at n.0 n.1 else None

unfoldable pub item_at : List ℕ → Option (Item × List ℕ)
item_at [] = None
item_at (zero ∷ bytes) = do
  name ← name_at bytes
  Some (record { name = name.0; bytes = None }, name.1)
item_at (suc zero ∷ bytes) = do
  name ← name_at bytes
  file ← file_at name.1
  Some (record { name = name.0; bytes = Some file.0 }, file.1)
item_at (suc (suc b) ∷ bytes) = None

-- so many items, each with a name behind the one before
unfoldable pub items_at : ℕ → Option (List ℕ) → List ℕ → Option (List Item × List ℕ)
items_at zero before bytes = Some ([], bytes)
items_at (suc n) before bytes = do
  first ← item_at bytes
  if comes_after before first.0.name then (items_at n (Some first.0.name) first.1 >>= λ others. Some (first.0 ∷ others.0, others.1)) else None

unfoldable pub mark_at : List ℕ → Option (List ℕ × List ℕ)
mark_at bytes = do
  front ← bytes_at 8 bytes
  if pointwise nat_eq front.0 mark then Some front else None

-- the items that all of the bytes spell
unfoldable pub reading : List ℕ → Option (List Item)
reading bytes = if nat_le (length bytes) most_journal_bytes then (mark_at bytes >>= λ front. number_at w32 front.1 >>= λ n. if nat_le 1 n.0 && nat_le n.0 most_saved_files then (items_at n.0 None n.1 >>= λ items. if nat_eq (length items.1) 0 then Some items.0 else None) else None) else None
