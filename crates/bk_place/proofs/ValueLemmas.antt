-- Values between quotes, a run of bytes after the other.
use Rattle.std.proofs.Common.{le_refl, ◌≡◌, ◌∙◌, ℕ, zero, suc, ◌≤◌, ◌+◌, ◌-◌, List, [], ◌∷◌, ◌++◌, take, drop, length, get_or, refl, sym, ap, arith, true, false, Bool, append_assoc}
use Rattle.std.proofs.lemmas.Bool.{and_parts}
use Rattle.std.proofs.lemmas.Bool.Decides.{nat_tests}
use Rattle.std.proofs.lemmas.Grind.{flat_map-append}
use Rattle.std.proofs.lemmas.List.{take_all, length-drop, drop-drop}
use Rattle.std.specs.List.{list_all, flat_map, prefix_len}
use Rattle.bk_spec.specs.Print.{quoted_byte}
use Rattle.bk_place.specs.Printing.{is_unescaped}

-- an unescaped byte prints itself
pub quoted_unescaped : (b : ℕ) → is_unescaped b ≡ true → quoted_byte b ≡ b ∷ []
quoted_unescaped b plain = grind (arith, nat_tests)

pub flat_unescaped : (bytes : List ℕ) → list_all is_unescaped bytes ≡ true → flat_map quoted_byte bytes ≡ bytes
flat_unescaped [] plain = refl
flat_unescaped (b ∷ bytes) plain =
    let both = and_parts _ _ plain in
    rw (quoted_unescaped b both.0) (ap (λ (l : List ℕ). b ∷ l) (flat_unescaped bytes both.1))

pub prefix_passes : (p : ℕ → Bool) (xs : List ℕ) → list_all p (take (prefix_len p xs) xs) ≡ true
prefix_passes p [] = refl
prefix_passes p (x ∷ xs) = prefix_case (p x) p x xs refl (prefix_passes p xs)
  where
    prefix_case : (b : Bool) (p : ℕ → Bool) (x : ℕ) (xs : List ℕ) → b ≡ p x → list_all p (take (prefix_len p xs) xs) ≡ true → list_all p (take (prefix_len p (x ∷ xs)) (x ∷ xs)) ≡ true
    prefix_case true p x xs e ih = rw (← e) (let more : 1 + prefix_len p xs ≡ suc (prefix_len p xs) = omega arith in rw more (rw (← e) ih))
    prefix_case false p x xs e ih = rw (← e) refl

all_pass : (p : ℕ → Bool) (k : ℕ) (xs : List ℕ) → k ≤ length xs → list_all p (take k xs) ≡ true → prefix_len p xs ≡ k + prefix_len p (drop k xs)
all_pass p zero xs within all = omega arith
all_pass p (suc k) [] within all = absurd (omega arith)
all_pass p (suc k) (x ∷ xs) within all =
    let both = and_parts (p x) (list_all p (take k xs)) all in
    rw both.0 (omega (arith, all_pass p k xs (omega arith) both.1))

-- where a block passes, as many more bytes do
pub block_passes : (p : ℕ → Bool) (len k : ℕ) (xs : List ℕ) → len + k ≤ length xs → list_all p (take k (drop len xs)) ≡ true → prefix_len p xs ≡ len + prefix_len p (drop len xs)
    → prefix_len p xs ≡ len + k + prefix_len p (drop (len + k) xs)
block_passes p len k xs within all before =
    let fits : k ≤ length (drop len xs) = omega (arith, length-drop len xs) in
    let more = all_pass p k (drop len xs) fits all in
    let at : drop k (drop len xs) ≡ drop (len + k) xs = drop-drop k len xs in
    omega (arith, before, more, ap (prefix_len p) at)

-- a run of unescaped bytes is added as it is
pub run_prints : (old run rest : List ℕ) → list_all is_unescaped run ≡ true → old ++ flat_map quoted_byte (run ++ rest) ≡ (old ++ run) ++ flat_map quoted_byte rest
run_prints old run rest plain =
    rw (flat_map-append quoted_byte run rest) (rw (flat_unescaped run plain) (sym (append_assoc old run (flat_map quoted_byte rest))))

-- the first element of a slice, and the others
pub first_and_others : (xs : List ℕ) (d : ℕ) → 1 ≤ length xs → xs ≡ get_or xs 0 d ∷ take (length xs - 1) (drop 1 xs)
first_and_others [] d some = absurd (omega arith)
first_and_others (x ∷ xs) d some =
    let size : length (x ∷ xs) - 1 ≡ length xs = omega arith in
    rw size (ap (λ (l : List ℕ). x ∷ l) (sym (take_all (length xs) xs (le_refl _))))

pub run_and_byte : (old mid new run rest tail : List ℕ) (b : ℕ) → list_all is_unescaped run ≡ true → rest ≡ b ∷ tail → mid ≡ old ++ run → new ≡ mid ++ quoted_byte b
    → old ++ flat_map quoted_byte (run ++ rest) ≡ new ++ flat_map quoted_byte tail
run_and_byte old mid new run rest tail b plain cut first second =
    rw second (rw first (rw cut (run_prints old run (b ∷ tail) plain ∙ sym (append_assoc (old ++ run) (quoted_byte b) (flat_map quoted_byte tail)))))
