-- Places: what is read is spelled so, and what is spelled so is read.
use Rattle.std.proofs.Common.{◌≡◌, ℕ, zero, suc, false, eqb, List, [], ◌∷◌, ◌++◌, length, replicate, Option, Some, None, refl, sym, ap, subst, ◌∙◌, arith, inl, inr, append-nil, append_assoc}
use Rattle.std.proofs.lemmas.Bool.{cases_Bool, ne_eqb, eqb-false}
use Rattle.std.proofs.lemmas.List.{length-append}
use Rattle.xt_spec.specs.Reference.{is_decimal_digit}
use Rattle.xt_scan.specs.Step.{take_while, drop_while}
use Rattle.xt_lex.specs.Scan.{after}
use Rattle.xt_scan.proofs.Theorems.{bind_some, take_while_split}
use Rattle.xt_lex.proofs.Theorems.{after_takes}
use Rattle.bk_script.specs.Word.{IsNumber, IsStep, Place, IsPlace, AreSpelled}
use Rattle.bk_script.specs.Reading.{number_of, not_zero, step_at, parts_of, all_read, place_of}
use Rattle.bk_script.specs.View.{place_from}
use Rattle.bk_script.proofs.Fronts.{StopsAt, run_whole, behind_whole}
use Rattle.bk_script.proofs.Numbers.{number_takes, number_again}
use Rattle.bk_script.proofs.Parts.{Shrinks, parts_take, parts_again, parts_step, parts_stop}

pub pair_parts : {A : Type 0} (x y : A) (q r : List ℕ) → ◌≡◌ {A = Option (A × List ℕ)} (Some (x, q)) (Some (y, r)) → (x ≡ y) × (q ≡ r)
pair_parts {A} x y q r h =
    let same : ◌≡◌ {A = A × List ℕ} (x, q) (y, r) = cc in
    (ap (λ p. p.0) same, ap (λ p. p.1) same)

not_zero_takes : (n m : ℕ) → not_zero n ≡ Some m → (n ≡ m) × (m ≡ 0 → ⊥)
not_zero_takes n m e =
    elim (cases_Bool (eqb n 0)) [
      | inl is ↦ let none : None ≡ Some m = rw is at e in absurd cc
      | inr other ↦
          let found : Some n ≡ Some m = rw other at e in
          let same : n ≡ m = cc in
          (same, λ z. eqb-false n 0 other (same ∙ z))
    ]

pub step_takes : (s : List ℕ) (x : ℕ × List ℕ) → step_at s ≡ Some x → (t : List ℕ) × IsStep t x.0 × (s ≡ t ++ x.1)
unfolding step_at
step_takes s x e =
    let a = bind_some (after 47 s) _ x e in
    let b = bind_some (number_of (take_while is_decimal_digit a.0)) _ x a.2 in
    let d = bind_some (not_zero b.0) _ x b.2 in
    let both = not_zero_takes b.0 d.0 d.1 in
    let ends = pair_parts d.0 x.0 (drop_while is_decimal_digit a.0) x.1 d.2 in
    let digits = take_while is_decimal_digit a.0 in
    let n : b.0 ≡ x.0 = both.0 ∙ ends.0 in
    let some : x.0 ≡ 0 → ⊥ = λ z. both.1 (ends.0 ∙ z) in
    let number : IsNumber digits x.0 = subst (λ (k : ℕ). IsNumber digits k) n (number_takes digits b.0 b.1) in
    (47 ∷ digits, (digits, number, some, refl), after_takes 47 s a.0 a.1 ∙ ap (λ (t : List ℕ). 47 ∷ t) (take_while_split is_decimal_digit a.0 ∙ ap (λ (t : List ℕ). digits ++ t) ends.1))

pub step_shrinks : Shrinks step_at
step_shrinks s x e =
    let t = step_takes s x e in
    omega (arith, ap length t.2, length-append t.0 x.1, ap length t.1.3)

abbrev pub NoDigit : List ℕ → Type 0
NoDigit r = StopsAt is_decimal_digit r

pub step_again : (t r : List ℕ) (n : ℕ) → IsStep t n → NoDigit r → step_at (t ++ r) ≡ Some (n, r)
unfolding step_at
step_again t r n (digits, is, some, e) stops =
    let zero_not : eqb n 0 ≡ false = ne_eqb n 0 some in
    rw (e, run_whole is_decimal_digit digits r is.digits.all stops, behind_whole is_decimal_digit digits r is.digits.all stops, number_again digits n is, zero_not) refl

step_next : (t r : List ℕ) (n : ℕ) → IsStep t n → NoDigit r → NoDigit (t ++ r)
step_next t r n (digits, is, some, e) stops = subst (λ (u : List ℕ). NoDigit (u ++ r)) (sym e) refl

-- the carets behind the steps
carets_stop : (k : ℕ) → NoDigit (replicate k 94)
carets_stop zero = tt
carets_stop (suc k) = refl

carets_no_step : (k : ℕ) → step_at (replicate k 94) ≡ None
unfolding step_at
carets_no_step zero = refl
carets_no_step (suc k) = refl

pub place_parts : (text : List ℕ) (p : Place) → IsPlace text p → parts_of step_at text ≡ (p.numbers, replicate p.carets 94)
place_parts text p (steps, are, some, e) =
    ap (parts_of step_at) e ∙ parts_again step_at IsStep NoDigit step_shrinks step_again step_next p.numbers steps (replicate p.carets 94) are (carets_stop p.carets) (carets_no_step p.carets)

read_some : (ns : List ℕ) → (ns ≡ [] → ⊥) → all_read (ns, []) ≡ Some ns
read_some [] some = absurd (some refl)
read_some (n ∷ ns) some = refl

pub place_again : (text : List ℕ) (p : Place) → IsPlace text p → p.carets ≡ 0 → place_of text ≡ Some p.numbers
unfolding place_of
place_again text p is none =
    ap all_read (place_parts text p is ∙ ap (λ (k : ℕ). (p.numbers, replicate k 94)) none) ∙ read_some p.numbers is.2

read_takes : (x : List ℕ × List ℕ) (ns : List ℕ) → all_read x ≡ Some ns → (x.0 ≡ ns) × (x.1 ≡ []) × (ns ≡ [] → ⊥)
read_takes ([], rest) ns e = absurd cc
read_takes (n ∷ more, []) ns e = let same : n ∷ more ≡ ns = cc in (same, refl, λ none. absurd cc)
read_takes (n ∷ more, b ∷ bs) ns e = absurd cc

pub place_takes : (text ns : List ℕ) → place_of text ≡ Some ns → IsPlace text (place_from ns)
unfolding place_of
place_takes text ns e =
    let found = read_takes (parts_of step_at text) ns e in
    let spelled = parts_take step_at IsStep step_takes text in
    let are : AreSpelled IsStep spelled.0 ns = subst (λ (l : List ℕ). AreSpelled IsStep spelled.0 l) found.0 spelled.1 in
    (spelled.0, are, found.2, spelled.2 ∙ ap (λ (r : List ℕ). spelled.0 ++ r) found.1)

-- ---- a loop over steps

abbrev pub with_numbers : List ℕ → List ℕ × List ℕ → List ℕ × List ℕ
with_numbers front read = (front ++ read.0, read.1)

pub steps_more : (front rest after_it : List ℕ) (n : ℕ) (whole : List ℕ × List ℕ) → step_at rest ≡ Some (n, after_it) → with_numbers front (parts_of step_at rest) ≡ whole → with_numbers (front ++ n ∷ []) (parts_of step_at after_it) ≡ whole
steps_more front rest after_it n whole e so_far =
    let read = parts_of step_at after_it in
    let one : parts_of step_at rest ≡ (n ∷ read.0, read.1) = parts_step step_at step_shrinks rest (n, after_it) e in
    ap (λ (l : List ℕ). (l, read.1)) (append_assoc front (n ∷ []) read.0) ∙ ap (with_numbers front) (sym one) ∙ so_far

pub steps_end : (front rest : List ℕ) (whole : List ℕ × List ℕ) → step_at rest ≡ None → with_numbers front (parts_of step_at rest) ≡ whole → whole ≡ (front, rest)
steps_end front rest whole e so_far =
    sym so_far ∙ ap (with_numbers front) (parts_stop step_at rest e) ∙ ap (λ (l : List ℕ). (l, rest)) (append-nil front)
