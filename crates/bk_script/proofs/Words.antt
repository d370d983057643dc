-- Words and the spaces round them.
use Rattle.std.proofs.Common.{◌≡◌, ℕ, zero, suc, Bool, true, not, ◌&&◌, List, [], ◌∷◌, ◌++◌, replicate, Some, refl, sym, ap, subst, ◌∙◌, arith, inl, inr, eqb-true}
use Rattle.std.proofs.lemmas.Bool.{and_parts, not-false}
use Rattle.std.proofs.lemmas.Bool.Decides.{nat_tests}
use Rattle.std.specs.List.{list_all}
use Rattle.std.specs.Prelude.{◌==◌}
use Rattle.xt_spec.specs.Reference.{is_decimal_digit}
use Rattle.xt_scan.specs.Step.{take_while, drop_while}
use Rattle.xt_scan.proofs.Theorems.{take_while_split, take_while_passes, bind_some}
use Rattle.xt_lex.proofs.Theorems.{list_all_weaker, list_all_joined}
use Rattle.bk_script.specs.Word.{is_blank, IsBlank, IsNumber, IsStep, Place, IsPlace, IsString, AreSpelled, MayFollow, string, AreWords}
use Rattle.bk_script.specs.Reading.{is_no_blank, word_at, string_at, last_string_at}
use Rattle.bk_script.proofs.Fronts.{StopsAt, run_whole, behind_whole, behind_stops}
use Rattle.bk_script.proofs.Strings.{string_takes, string_again, choose}

follow_of : (s : List ℕ) → StopsAt is_no_blank s → MayFollow s
follow_of [] stops = tt
follow_of (b ∷ bs) stops = eqb-true b 32 (not-false _ stops)

pub stop_of : (s : List ℕ) → MayFollow s → StopsAt is_no_blank s
stop_of [] follow = tt
stop_of (b ∷ bs) follow = rw follow refl

pub record IsCut (text : List ℕ) : Type 0 where
  pub blank : IsBlank (take_while is_blank text)
  pub follow : MayFollow (word_at text).1
  pub whole : text ≡ take_while is_blank text ++ ((word_at text).0 ++ (word_at text).1)

pub cut : (text : List ℕ) → IsCut text
unfolding word_at
cut text = record {
  blank = take_while_passes is_blank text;
  follow = follow_of _ (behind_stops is_no_blank (drop_while is_blank text));
  whole = take_while_split is_blank text ∙ ap (λ (t : List ℕ). take_while is_blank text ++ t) (take_while_split is_no_blank (drop_while is_blank text));
}

-- a byte that is neither a space nor a quote
abbrev pub is_bare : ℕ → Bool
is_bare b = not (b == 0x20) && not (b == 0x22)

-- a text that may be a word without quotes
pub record IsSolid (t : List ℕ) : Type 0 where
  pub some : t ≡ [] → ⊥
  pub all : list_all is_bare t ≡ true

bare_no_blank : (b : ℕ) → is_bare b ≡ true → is_no_blank b ≡ true
bare_no_blank b h = (and_parts _ _ h).0

pub solid_no_blank : (t : List ℕ) → IsSolid t → list_all is_no_blank t ≡ true
solid_no_blank t solid = list_all_weaker is_bare is_no_blank bare_no_blank t solid.all

pub no_blank_first : (t r : List ℕ) → IsSolid t → StopsAt is_blank (t ++ r)
no_blank_first [] r solid = absurd (solid.some refl)
no_blank_first (b ∷ bs) r solid = let first : is_bare b ≡ true = (and_parts _ _ solid.all).0 in grind (arith, nat_tests)

pub word_again : (before t rest : List ℕ) → IsBlank before → IsSolid t → MayFollow rest → word_at (before ++ (t ++ rest)) ≡ (t, rest)
unfolding word_at
word_again before t rest blank solid follow =
    rw (behind_whole is_blank before (t ++ rest) blank (no_blank_first t rest solid), run_whole is_no_blank t rest (solid_no_blank t solid) (stop_of rest follow), behind_whole is_no_blank t rest (solid_no_blank t solid) (stop_of rest follow)) refl

digit_bare : (b : ℕ) → is_decimal_digit b ≡ true → is_bare b ≡ true
digit_bare b h = grind (arith, nat_tests)

digits_solid : (t : List ℕ) → list_all is_decimal_digit t ≡ true → list_all is_bare t ≡ true
digits_solid t all = list_all_weaker is_decimal_digit is_bare digit_bare t all

pub number_solid : (t : List ℕ) (n : ℕ) → IsNumber t n → IsSolid t
number_solid t n is = record { some = is.digits.some; all = digits_solid t is.digits.all }

steps_solid : (ns steps : List ℕ) → AreSpelled IsStep steps ns → list_all is_bare steps ≡ true
steps_solid [] steps e = rw e refl
steps_solid (n ∷ ns) steps (t, rest, (digits, is, some, f), more, e) =
    rw (e, f) (list_all_joined is_bare digits rest (digits_solid digits is.digits.all) (steps_solid ns rest more))

carets_solid : (k : ℕ) → list_all is_bare (replicate k 94) ≡ true
carets_solid zero = refl
carets_solid (suc k) = carets_solid k

place_some : (t : List ℕ) (p : Place) → IsPlace t p → t ≡ [] → ⊥
place_some t p (steps, are, some, e) none = by p.numbers are some
  where
    by : (ns : List ℕ) → AreSpelled IsStep steps ns → (ns ≡ [] → ⊥) → ⊥
    by [] are some = some refl
    by (n ∷ ns) (u, rest, (digits, is, nz, f), more, g) some =
        let whole : 47 ∷ ((digits ++ rest) ++ replicate p.carets 94) ≡ [] = sym (e ∙ ap (λ (l : List ℕ). l ++ replicate p.carets 94) (g ∙ ap (λ (l : List ℕ). l ++ rest) f)) ∙ none in
        absurd cc

pub place_solid : (t : List ℕ) (p : Place) → IsPlace t p → IsSolid t
place_solid t p is = record {
  some = place_some t p is;
  all = rw is.3 (list_all_joined is_bare is.0 (replicate p.carets 94) (steps_solid p.numbers is.0 is.1) (carets_solid p.carets));
}

pub string_first : (before t rest v : List ℕ) → IsBlank before → IsString t v → drop_while is_blank (before ++ (t ++ rest)) ≡ t ++ rest
string_first before t rest v blank (body, parts, are, e, f) =
    behind_whole is_blank before (t ++ rest) blank (subst (λ (u : List ℕ). StopsAt is_blank (u ++ rest)) (sym e) refl)

blank_follows : (s : List ℕ) → IsBlank s → MayFollow s
blank_follows [] blank = tt
blank_follows (b ∷ bs) blank = eqb-true b 32 (and_parts _ _ blank).0

pub last_string_takes : (text v : List ℕ) → last_string_at text ≡ Some v → AreWords text (string v ∷ [])
unfolding last_string_at
last_string_takes text v e =
    let a = bind_some (string_at (drop_while is_blank text)) _ v e in
    let t = string_takes (drop_while is_blank text) a.0 a.1 in
    elim (choose (list_all is_blank a.0.1) _ _ v a.2) [
      | inl h ↦
          let some : Some a.0.0 ≡ Some v = h.1 in
          let same : a.0.0 ≡ v = cc in
          (take_while is_blank text, t.0, a.0.1, take_while_passes is_blank text, subst (λ (w : List ℕ). IsString t.0 w) same t.1, blank_follows a.0.1 h.0, h.0, take_while_split is_blank text ∙ ap (λ (l : List ℕ). take_while is_blank text ++ l) t.2)
      | inr none ↦ absurd cc
    ]

pub last_string_again : (text v : List ℕ) → AreWords text (string v ∷ []) → last_string_at text ≡ Some v
unfolding last_string_at
last_string_again text v (before, t, rest, blank, is, follow, ends, e) =
    rw (e, string_first before t rest v blank is, string_again t rest v is, ends) refl
