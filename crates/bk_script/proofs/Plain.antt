-- Strings: one value, and characters that stand for themselves.
use Rattle.std.proofs.Common.{◌≡◌, ℕ, ◌<◌, ◌≤◌, List, [], ◌∷◌, ◌++◌, length, get_or, map, true, not, Option, Some, refl, ap, sym, ◌∙◌, arith, inl, inr}
use Rattle.std.proofs.lemmas.Bool.{cases_lt, and_parts, not-false, not_from_true}
use Rattle.std.proofs.lemmas.Bool.Decides.{nat_tests}
use Rattle.std.proofs.lemmas.List.Recursion.{and_from_places}
use Rattle.std.proofs.lemmas.Str.{NoCharPasses-byte}
use Rattle.std.specs.List.{list_all, concat}
use Rattle.std.specs.Str.{NonePass}
use Rattle.xt_spec.specs.Name.{IsSpeltBy}
use Rattle.bk_script.specs.Word.{is_plain, IsStringPart, IsString, AreSpelled}
use Rattle.bk_script.proofs.Strings.{string_again}

none_fail : (cs : List ℕ) → list_all is_plain cs ≡ true → NonePass (λ c. not (is_plain c)) cs
none_fail [] all = tt
none_fail (c ∷ cs) all =
    let both = and_parts (is_plain c) (list_all is_plain cs) all in
    (not_from_true (is_plain c) both.0, none_fail cs both.1)

large_plain : (b : ℕ) → 128 ≤ b → is_plain b ≡ true
large_plain b large = grind (arith, nat_tests)

byte_plain : (text : List ℕ) → IsSpeltBy (list_all is_plain) text → (i : ℕ) → i < length text → is_plain (get_or text i 0) ≡ true
byte_plain text (cs, e, all) i within =
    elim (cases_lt (get_or text i 0) 128) [
      | inl small ↦ not-false _ (NoCharPasses-byte (λ c. not (is_plain c)) text i (cs, e, none_fail cs all) within small)
      | inr large ↦ large_plain (get_or text i 0) large
    ]

bytes_plain : (text : List ℕ) → IsSpeltBy (list_all is_plain) text → list_all is_plain text ≡ true
bytes_plain text is = and_from_places (list_all is_plain) is_plain refl (λ _ _. refl) text 0 (byte_plain text is)

abbrev single : ℕ → List ℕ
single b = b ∷ []

spelled_plain : (text : List ℕ) → list_all is_plain text ≡ true → AreSpelled IsStringPart text (map single text)
spelled_plain [] all = refl
spelled_plain (b ∷ bs) all =
    let both = and_parts (is_plain b) (list_all is_plain bs) all in
    (b ∷ [], bs, inl (b, both.0, refl, refl), spelled_plain bs both.1, refl)

joined_singles : (text : List ℕ) → concat (map single text) ≡ text
joined_singles [] = refl
joined_singles (b ∷ bs) = ap (λ (l : List ℕ). b ∷ l) (joined_singles bs)

pub plain_string : (text : List ℕ) → IsSpeltBy (list_all is_plain) text → IsString (34 ∷ (text ++ 34 ∷ [])) text
plain_string text is = (text, map single text, spelled_plain text (bytes_plain text is), refl, sym (joined_singles text))

abbrev found : List ℕ → Option (List ℕ × List ℕ)
found v = Some (v, [])

same_value : (v w : List ℕ) → found v ≡ found w → v ≡ w
same_value v w e = let same : ◌≡◌ {A = List ℕ × List ℕ} (v, []) (w, []) = cc in ap (λ (p : List ℕ × List ℕ). p.0) same

pub one_value : (text v w : List ℕ) → IsString text v → IsString text w → v ≡ w
one_value text v w is_v is_w = same_value v w (sym (string_again text [] v is_v) ∙ string_again text [] w is_w)
