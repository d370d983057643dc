-- Numbers: what is read is spelled so, and what is spelled so is read.
use Rattle.std.proofs.Common.{◌≡◌, ℕ, ◌+◌, ◌*◌, ◌<◌, ◌≤◌, Bool, true, false, leb, eqb, List, [], ◌∷◌, length, drop, get_or, Option, Some, None, refl, sym, ap, subst, ◌∙◌, arith, inl, inr, codes, ◌⊎◌}
use Rattle.std.proofs.lemmas.Bool.{cases_Bool, and_parts, and_from, leb-true, le-leb, eqb-true}
use Rattle.std.proofs.lemmas.List.{drop_more}
use Rattle.std.specs.List.{list_all}
use Rattle.xt_spec.specs.Reference.{is_decimal_digit, digit_value, number_behind}
use Rattle.xt_lex.specs.Scan.{maybe}
use Rattle.xt_lex.proofs.Theorems.{number_grows}
use Rattle.bk_script.specs.Word.{IsNumber, begins_with}
use Rattle.bk_script.specs.Reading.{number_with, number_from, number_of}

abbrev top : ℕ
top = 4294967295

record IsMore (n b m : ℕ) : Type 0 where
  digit : is_decimal_digit b ≡ true
  is : n * 10 + digit_value b ≡ m
  small : m ≤ top

with_takes : (n b m : ℕ) → number_with n b ≡ Some m → IsMore n b m
with_takes n b m e = by (is_decimal_digit b) refl
  where
    last : is_decimal_digit b ≡ true → (v : Bool) → leb (n * 10 + digit_value b) top ≡ v → IsMore n b m
    last digit true small =
        let found : Some (n * 10 + digit_value b) ≡ Some m = rw (digit, small) at e in
        let same : n * 10 + digit_value b ≡ m = cc in
        record { digit = digit; is = same; small = subst (λ (k : ℕ). k ≤ top) same (leb-true _ _ small) }
    last digit false large = let none : None ≡ Some m = rw (digit, large) at e in absurd cc

    by : (v : Bool) → is_decimal_digit b ≡ v → IsMore n b m
    by true digit = last digit (leb (n * 10 + digit_value b) top) refl
    by false other = let none : None ≡ Some m = rw other at e in absurd cc

with_again : (n b : ℕ) → is_decimal_digit b ≡ true → n * 10 + digit_value b ≤ top → number_with n b ≡ Some (n * 10 + digit_value b)
with_again n b digit small = rw (digit, le-leb _ _ small) refl

record IsNumberFrom (n : ℕ) (ds : List ℕ) (m : ℕ) : Type 0 where
  all : list_all is_decimal_digit ds ≡ true
  spell : number_behind 10 n ds ≡ m
  small : m ≤ top

from_by : (n b : ℕ) (bs : List ℕ) (m : ℕ) → ((k : ℕ) → k ≤ top → number_from k bs ≡ Some m → IsNumberFrom k bs m) → (o : Option ℕ) → number_with n b ≡ o → maybe None (λ k. number_from k bs) o ≡ Some m → IsNumberFrom n (b ∷ bs) m
from_by n b bs m rest None none e = absurd cc
from_by n b bs m rest (Some k) found e =
    let more = with_takes n b k found in
    let others = rest k more.small e in
    record { all = and_from _ _ more.digit others.all; spell = ap (λ (j : ℕ). number_behind 10 j bs) more.is ∙ others.spell; small = others.small }

from_takes : (n : ℕ) (ds : List ℕ) (m : ℕ) → n ≤ top → number_from n ds ≡ Some m → IsNumberFrom n ds m
from_takes n [] m le e = let same : n ≡ m = cc in record { all = refl; spell = same; small = subst (λ (k : ℕ). k ≤ top) same le }
from_takes n (b ∷ bs) m le e = from_by n b bs m (λ k. from_takes k bs m) (number_with n b) refl e

from_again : (n : ℕ) (ds : List ℕ) → list_all is_decimal_digit ds ≡ true → number_behind 10 n ds ≤ top → number_from n ds ≡ Some (number_behind 10 n ds)
from_again n [] all small = refl
from_again n (b ∷ bs) all small =
    let both = and_parts (is_decimal_digit b) (list_all is_decimal_digit bs) all in
    let grows = number_grows 10 (n * 10 + digit_value b) bs (omega arith) in
    rw (with_again n b both.0 (omega arith)) (from_again (n * 10 + digit_value b) bs both.1 small)

plain_of : (text : List ℕ) (m : ℕ) (one : (text ≡ codes "0") ⊎ (begins_with 48 text ≡ false)) → IsNumberFrom 0 text m → (text ≡ [] → ⊥) → IsNumber text m
plain_of text m one is some = record { digits = record { some = some; all = is.all; spell = is.spell }; plain = one; small = is.small }

pub number_takes : (text : List ℕ) (m : ℕ) → number_of text ≡ Some m → IsNumber text m
number_takes [] m e = absurd cc
number_takes (b ∷ []) m e =
    let is = from_takes 0 (b ∷ []) m (omega arith) e in
    elim (cases_Bool (eqb b 48)) [
      | inl zero_is ↦ plain_of (b ∷ []) m (inl (ap (λ (c : ℕ). c ∷ []) (eqb-true b 48 zero_is))) is (λ none. absurd cc)
      | inr other ↦ plain_of (b ∷ []) m (inr other) is (λ none. absurd cc)
    ]
number_takes (b ∷ next ∷ bs) m e =
    elim (cases_Bool (eqb b 48)) [
      | inl zero_is ↦ let none : None ≡ Some m = rw zero_is at e in absurd cc
      | inr other ↦
          let found : number_from 0 (b ∷ next ∷ bs) ≡ Some m = rw other at e in
          plain_of (b ∷ next ∷ bs) m (inr other) (from_takes 0 (b ∷ next ∷ bs) m (omega arith) found) (λ none. absurd cc)
    ]

again_by : (text : List ℕ) (m : ℕ) → IsNumber text m → number_from 0 text ≡ Some m
again_by text m is =
    let small : number_behind 10 0 text ≤ top = subst (λ (k : ℕ). k ≤ top) (sym is.digits.spell) is.small in
    from_again 0 text is.digits.all small ∙ ap (λ (k : ℕ). Some k) is.digits.spell

pub number_again : (text : List ℕ) (m : ℕ) → IsNumber text m → number_of text ≡ Some m
number_again [] m is = absurd (is.digits.some refl)
number_again (b ∷ []) m is = again_by (b ∷ []) m is
number_again (b ∷ next ∷ bs) m is =
    elim is.plain [
      | inl zero_is ↦ absurd cc
      | inr other ↦ rw other (again_by (b ∷ next ∷ bs) m is)
    ]

-- one more digit in a loop
pub from_more : (n k : ℕ) (ds : List ℕ) (m : ℕ) → k < length ds → number_with n (get_or ds k 0) ≡ Some m → number_from n (drop k ds) ≡ number_from m (drop (k + 1) ds)
from_more n k ds m within e = ap (number_from n) (drop_more ds k 0 within) ∙ rw e refl

pub from_none : (n k : ℕ) (ds : List ℕ) → k < length ds → number_with n (get_or ds k 0) ≡ None → number_from n (drop k ds) ≡ None
from_none n k ds within e = ap (number_from n) (drop_more ds k 0 within) ∙ rw e refl
