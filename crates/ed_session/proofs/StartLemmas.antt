-- Why a root does not open, and how many steps a start takes.
use Rattle.std.proofs.Common.{◌≡◌, ◌∙◌, ◌≤◌, ◌<◌, ℕ, List, length, Bool, true, false, inl, inr, refl, sym, ap, subst, arith, Option, Some, None, nat_le, if◌then◌else◌, Result, Ok, Err}
use Rattle.std.proofs.lemmas.Bool.{cases_lt}
use Rattle.std.proofs.lemmas.Bool.Decides.{nat_tests}
use Rattle.std.specs.Prelude.{IfErr, IfSome, IsErrOf}
use Rattle.xt_spec.specs.Limit.{most_file_bytes}
use Rattle.bk_spec.specs.Fault.{too_large}
use Rattle.bk_desk.specs.declared.desk.Got.{Got}
use Rattle.bk_desk.specs.declared.desk.Got.TheVariants.{Bytes, Longer}
use Rattle.bk_desk.specs.declared.desk_name.DeskName.TheVariants.{Book}
use Rattle.bk_desk.specs.Disk.{DiskState, got_of}
use Rattle.jr_burst.specs.SavedFiles.{recovered_files}
use Rattle.jr_burst.specs.Recover.{IsRecovered}
use Rattle.ed_session.specs.declared.opening.StartFault.{StartFault}
use Rattle.ed_session.specs.declared.opening.StartFault.TheVariants as start
use Rattle.ed_session.specs.Kept.{Kept}
use Rattle.bk_spec.specs.FirstFault.{IsRootFault, longer, faulty}
use Rattle.ed_session.specs.Start.{start_cause, IsNoOpening, IsNoRoot, FailsBy, size_of_got, file_steps, recovered_steps, HasRead, TakesSteps}

fits_is : (bytes : List ℕ) → length bytes ≤ most_file_bytes → got_of (Some bytes) most_file_bytes ≡ Bytes bytes
fits_is bytes le = let small : nat_le (length bytes) most_file_bytes ≡ true = grind (arith, nat_tests) in rw small refl

longer_is : (bytes : List ℕ) → most_file_bytes < length bytes → got_of (Some bytes) most_file_bytes ≡ Longer
longer_is bytes more = let large : nat_le (length bytes) most_file_bytes ≡ false = grind (arith, nat_tests) in rw large refl

-- the file of which a read gave no bytes is too long
pub too_long : (root : List ℕ) (found : Option (List ℕ)) (got : Got) → got ≡ Longer → got ≡ got_of found most_file_bytes → IsRootFault root found (too_large root)
too_long root None got is read = let bad = sym is ∙ read in absurd (cc)
too_long root (Some bytes) got is read = elim (cases_lt most_file_bytes (length bytes)) [
  | inl more ↦ longer bytes refl more refl
  | inr le ↦ let bad = sym is ∙ read ∙ fits_is bytes le in absurd (cc)
]

found_is : (bytes : List ℕ) (found : Option (List ℕ)) (got : Got) → got ≡ Bytes bytes → got ≡ got_of found most_file_bytes → (found ≡ Some bytes) × (length bytes ≤ most_file_bytes)
found_is bytes None got is read = let bad = sym is ∙ read in absurd (cc)
found_is bytes (Some others) got is read = elim (cases_lt most_file_bytes (length others)) [
  | inl more ↦ let bad = sym is ∙ read ∙ longer_is others more in absurd (cc)
  | inr le ↦ let same : Bytes bytes ≡ Bytes others = sym is ∙ read ∙ fits_is others le in
      let one : bytes ≡ others = cc in
      (ap (λ (l : List ℕ). Some l) (sym one), subst (λ (l : List ℕ). length l ≤ most_file_bytes) (sym one) le)
]

-- the file of which a read gave these bytes does not open
pub no_root : (root other bytes items : List ℕ) (got : Got) (result : Result Kept StartFault) → other ≡ root → items ≡ bytes → got ≡ Bytes bytes → IfErr result (λ e. IfSome (start_cause e) (IsNoOpening other items))
    → IfErr result (λ e. (found : Option (List ℕ)) → got ≡ got_of found most_file_bytes → IfSome (start_cause e) (IsNoRoot root found))
no_root root other bytes items got (Ok session) named same is never = tt
no_root root other bytes items got (Err e) named same is never =
    λ found read.
    let (there, fits) = found_is bytes found got is read in
    by found e (subst (λ (r : List ℕ). IfSome (start_cause e) (IsNoOpening r bytes)) named (subst (λ (l : List ℕ). IfSome (start_cause e) (IsNoOpening other l)) same never)) there fits
  where
    by : (found : Option (List ℕ)) (e : StartFault) → IfSome (start_cause e) (IsNoOpening root bytes) → found ≡ Some bytes → length bytes ≤ most_file_bytes → IfSome (start_cause e) (IsNoRoot root found)
    by found (start.Book fault) is there fits = faulty bytes there fits is
    by found start.Desk is there fits = is
    by found start.Journal is there fits = is
    by found start.NoMemory is there fits = tt

-- the root of a book that was recovered does not open
pub fails_by : (root : List ℕ) (old new : DiskState) (got : Got) (result : Result Kept StartFault) → IsRecovered old new → got ≡ got_of (new.files (Book root)) most_file_bytes
    → IfErr result (λ e. (found : Option (List ℕ)) → got ≡ got_of found most_file_bytes → IfSome (start_cause e) (IsNoRoot root found)) → IfErr result (λ e. IfSome (start_cause e) (FailsBy root old new))
fails_by root old new got (Ok session) recovered read never = tt
fails_by root old new got (Err (start.Book fault)) recovered read never = record { recovered = recovered; cause = never (new.files (Book root)) read }
fails_by root old new got (Err start.Desk) recovered read never = tt
fails_by root old new got (Err start.Journal) recovered read never = absurd (never (new.files (Book root)) read)
fails_by root old new got (Err start.NoMemory) recovered read never = tt

-- a step a byte of what a read gives
got_steps : (file : Option (List ℕ)) → size_of_got (got_of file most_file_bytes) ≡ file_steps file
got_steps None = refl
got_steps (Some bytes) = by (nat_le (length bytes) most_file_bytes)
  where
    by : (b : Bool) → size_of_got (if b then Bytes bytes else Longer) ≡ (if b then length bytes else 0)
    by true = refl
    by false = refl

-- where the root was read, memory was not wanting
read_whole : (result : Result Kept StartFault) → HasRead result → IsErrOf result start.NoMemory → ⊥
read_whole (Ok session) read is = absurd (cc)
read_whole (Err (start.Book fault)) read is = absurd (cc)
read_whole (Err start.Desk) read is = read
read_whole (Err start.Journal) read is = read
read_whole (Err start.NoMemory) read is = read

pub start_steps : (root : List ℕ) (old new : DiskState) (got : Got) (result : Result Kept StartFault) (earlier now : ℕ) → IsRecovered old new → got ≡ got_of (new.files (Book root)) most_file_bytes
    → TakesSteps (IsErrOf result start.NoMemory → ⊥) (size_of_got got) earlier now → TakesSteps (HasRead result) (recovered_steps root (recovered_files old.files)) earlier now
start_steps root old new got result earlier now recovered read takes =
    let same : size_of_got got ≡ recovered_steps root (recovered_files old.files) = ap size_of_got read ∙ got_steps (new.files (Book root)) ∙ ap (recovered_steps root) (sym recovered.book) in
    subst (λ (n : ℕ). TakesSteps (HasRead result) n earlier now) same
    (record { most = takes.most; exact = λ whole. takes.exact (read_whole result whole) })
