-- Looks: what is apart, and what is in one of two.
use Rattle.std.proofs.Common.{◌≡◌, ℕ, List, [], ◌∷◌, ◌++◌, Bool, true, false, not, ◌&&◌, ◌||◌, refl, sym, ◌∙◌, arith, inl, inr}
use Rattle.std.proofs.lemmas.Bool.{cases_Bool, and_parts, or_cases, or_parts, both_ways, or_right}
use Rattle.std.proofs.lemmas.Bool.Decides.{nat_tests}
use Rattle.xt_spec.specs.Char.{is_space}
use Rattle.xt_scan.specs.Look.{Span, from_to, from_on, in_span, in_class, spans_apart, span_apart, classes_apart, Look, sees_behind, sees, apart, either, either_if, nothing, anything, spaced_any, spaced_by}

spans_in : (s t : Span) (b : ℕ) → spans_apart s t ≡ true → in_span s b ≡ true → in_span t b ≡ false
spans_in (from_to lo hi) (from_to x y) b h i = grind (arith, nat_tests)
spans_in (from_to lo hi) (from_on x) b h i = grind (arith, nat_tests)
spans_in (from_on lo) (from_to x y) b h i = grind (arith, nat_tests)
spans_in (from_on lo) (from_on x) b h i = absurd (cc)

span_in : (s : Span) (ts : List Span) (b : ℕ) → span_apart s ts ≡ true → in_span s b ≡ true → in_class ts b ≡ false
span_in s [] b h i = refl
span_in s (t ∷ ts) b h i =
    let both = and_parts _ _ h in
    let one = spans_in s t b both.0 i in
    rw one (span_in s ts b both.1 i)

pub class_in : (ss ts : List Span) (b : ℕ) → classes_apart ss ts ≡ true → in_class ss b ≡ true → in_class ts b ≡ false
class_in [] ts b h i = absurd (cc)
class_in (s ∷ ss) ts b h i =
    let both = and_parts _ _ h in
    elim (or_cases _ _ i) [ inl e ↦ span_in s ts b both.0 e | inr e ↦ class_in ss ts b both.1 e ]

not_both : (a b : Bool) → not (a && b) ≡ true → a ≡ true → b ≡ false
not_both a true h e = let bad : not (true && true) ≡ true = rw e at h in absurd (cc)
not_both a false h e = refl

-- the parts of the test
apart_parts : (l m : Look) → apart l m ≡ true → (not (l.empty && m.empty) ≡ true) × (classes_apart l.solid m.solid ≡ true) × (not (l.blank && m.blank) ≡ true) × (classes_apart l.spaced m.spaced ≡ true)
apart_parts l m h =
    let x = and_parts (not (l.empty && m.empty)) _ h in
    let y = and_parts (classes_apart l.solid m.solid) _ x.1 in
    let z = and_parts (not (l.blank && m.blank)) _ y.1 in
    (x.0, y.0, z.0, z.1)

behind_apart : (l m : Look) (s : List ℕ) → apart l m ≡ true → sees_behind l s ≡ true → sees_behind m s ≡ false
behind_apart l m [] h i = not_both l.blank m.blank (apart_parts l m h).2 i
behind_apart l m (b ∷ bs) h i =
    elim (cases_Bool (is_space b)) [
      | inl e ↦ rw e (behind_apart l m bs h (rw e at i))
      | inr e ↦ rw e (class_in l.spaced m.spaced b (apart_parts l m h).3 (rw e at i))
    ]

-- what is in one is not in the other
pub sees_apart : (l m : Look) (s : List ℕ) → apart l m ≡ true → sees l s ≡ true → sees m s ≡ false
sees_apart l m [] h i = not_both l.empty m.empty (apart_parts l m h).0 i
sees_apart l m (b ∷ bs) h i =
    elim (cases_Bool (is_space b)) [
      | inl e ↦ rw e (behind_apart l m bs h (rw e at i))
      | inr e ↦ rw e (class_in l.solid m.solid b (apart_parts l m h).1 (rw e at i))
    ]

or_steps : (a b c : Bool) → (a || (b || c)) ≡ ((a || b) || c)
or_steps true b c = refl
or_steps false b c = refl

class_joined : (ss ts : List Span) (b : ℕ) → in_class (ss ++ ts) b ≡ (in_class ss b || in_class ts b)
class_joined [] ts b = refl
class_joined (s ∷ ss) ts b = rw (class_joined ss ts b) (or_steps (in_span s b) (in_class ss b) (in_class ts b))

behind_either : (l m : Look) (s : List ℕ) → sees_behind (either l m) s ≡ (sees_behind l s || sees_behind m s)
behind_either l m [] = refl
behind_either l m (b ∷ bs) =
    elim (cases_Bool (is_space b)) [
      | inl e ↦ rw e (behind_either l m bs)
      | inr e ↦ rw e (class_joined l.spaced m.spaced b)
    ]

pub sees_either : (l m : Look) (s : List ℕ) → sees (either l m) s ≡ (sees l s || sees m s)
sees_either l m [] = refl
sees_either l m (b ∷ bs) =
    elim (cases_Bool (is_space b)) [
      | inl e ↦ rw e (behind_either l m bs)
      | inr e ↦ rw e (class_joined l.solid m.solid b)
    ]

pub sees_left : (l m : Look) (s : List ℕ) → sees l s ≡ true → sees (either l m) s ≡ true
sees_left l m s h = rw (sees_either l m s) (rw h refl)

pub sees_right : (l m : Look) (s : List ℕ) → sees m s ≡ true → sees (either l m) s ≡ true
sees_right l m s h = rw (sees_either l m s) (or_right (sees l s) _ h)

pub unseen : (l m : Look) (s : List ℕ) → sees (either l m) s ≡ false → (sees l s ≡ false) × (sees m s ≡ false)
unseen l m s h = or_parts _ _ (sym (sees_either l m s) ∙ h)

-- with a test
pub seen_first : (b : Bool) (l m : Look) (s : List ℕ) → sees l s ≡ true → sees (either_if b l m) s ≡ true
seen_first true l m s h = sees_left l m s h
seen_first false l m s h = h

pub seen_second : (b : Bool) (l m : Look) (s : List ℕ) → b ≡ true → sees m s ≡ true → sees (either_if b l m) s ≡ true
seen_second true l m s e h = sees_right l m s h
seen_second false l m s e h = absurd (cc)

pub unseen_first : (b : Bool) (l m : Look) (s : List ℕ) → sees (either_if b l m) s ≡ false → sees l s ≡ false
unseen_first true l m s h = (unseen l m s h).0
unseen_first false l m s h = h

pub unseen_second : (b : Bool) (l m : Look) (s : List ℕ) → b ≡ true → sees (either_if b l m) s ≡ false → sees m s ≡ false
unseen_second true l m s e h = (unseen l m s h).1
unseen_second false l m s e h = absurd (cc)

any_byte : (b : ℕ) → in_class (from_on 0 ∷ []) b ≡ true
any_byte b = grind (arith, nat_tests)

behind_anything : (s : List ℕ) → sees_behind anything s ≡ true
behind_anything [] = refl
behind_anything (b ∷ bs) =
    elim (cases_Bool (is_space b)) [ inl e ↦ rw e (behind_anything bs) | inr e ↦ rw e (any_byte b) ]

pub sees_anything : (s : List ℕ) → sees anything s ≡ true
sees_anything [] = refl
sees_anything (b ∷ bs) =
    elim (cases_Bool (is_space b)) [ inl e ↦ rw e (behind_anything bs) | inr e ↦ rw e (any_byte b) ]

-- white space in front
behind_spaced : (l : Look) (s : List ℕ) → sees_behind l s ≡ true → sees_behind (spaced_by l) s ≡ true
behind_spaced l [] h = or_right l.empty l.blank h
behind_spaced l (b ∷ bs) h =
    elim (cases_Bool (is_space b)) [
      | inl e ↦ rw e (behind_spaced l bs (rw e at h))
      | inr e ↦ let is : in_class l.spaced b ≡ true = rw e at h in rw (e, class_joined l.solid l.spaced b) (or_right (in_class l.solid b) _ is)
    ]

pub spaced_sees : (l : Look) (s : List ℕ) → sees l s ≡ true → sees_behind (spaced_by l) s ≡ true
spaced_sees l [] h = let e : l.empty ≡ true = h in rw e refl
spaced_sees l (b ∷ bs) h =
    elim (cases_Bool (is_space b)) [
      | inl e ↦ rw e (behind_spaced l bs (rw e at h))
      | inr e ↦ let is : in_class l.solid b ≡ true = rw e at h in rw (e, class_joined l.solid l.spaced b) (rw is refl)
    ]

-- what doesn't begin with white space
pub not_spaced : (s : List ℕ) → sees spaced_any s ≡ false → (b : ℕ) (bs : List ℕ) → s ≡ b ∷ bs → is_space b ≡ false
not_spaced [] h b bs e = absurd (cc)
not_spaced (x ∷ xs) h b bs e =
    elim (cases_Bool (is_space x)) [
      | inl i ↦ let bad : sees_behind spaced_any xs ≡ false = rw i at h in absurd (clash xs bad)
      | inr i ↦ let same : x ≡ b = cc in cc
    ]
  where
    clash : (xs : List ℕ) → sees_behind spaced_any xs ≡ false → ⊥
    clash [] h = cc
    clash (y ∷ ys) h = elim (cases_Bool (is_space y)) [ inl e ↦ clash ys (rw e at h) | inr e ↦ let bad : in_class (from_on 0 ∷ []) y ≡ false = rw e at h in both_ways _ bad (any_byte y) ]

behind_nothing : (s : List ℕ) → sees_behind nothing s ≡ false
behind_nothing [] = refl
behind_nothing (b ∷ bs) = elim (cases_Bool (is_space b)) [ inl e ↦ rw e (behind_nothing bs) | inr e ↦ rw e refl ]

pub sees_nothing : (s : List ℕ) → sees nothing s ≡ false
sees_nothing [] = refl
sees_nothing (b ∷ bs) = elim (cases_Bool (is_space b)) [ inl e ↦ rw e (behind_nothing bs) | inr e ↦ rw e refl ]
