-- Strings: what is read is spelled so, and what is spelled so is read.
use Rattle.std.proofs.Common.{◌≡◌, ℕ, zero, suc, ◌+◌, ◌*◌, ◌<◌, ◌≤◌, Bool, true, false, ◌&&◌, cond, leb, ltb, eqb, List, [], ◌∷◌, ◌++◌, length, drop, get_or, Option, Some, None, ◌⊎◌, refl, sym, ap, subst, ◌∙◌, arith, inl, inr, append_assoc, append-nil, encode_utf8}
use Rattle.std.proofs.lemmas.Bool.{cases_Bool, and_parts, leb-true, le-leb, eqb-true}
use Rattle.std.proofs.lemmas.Bool.Decides.{nat_tests}
use Rattle.std.proofs.lemmas.List.{length-append, drop_more}
use Rattle.std.specs.List.{list_all, concat}
use Rattle.xt_spec.specs.Reference.{is_hexadecimal_digit, digit_value, number_behind, AreDigits}
use Rattle.xt_scan.specs.Step.{◌>>=◌, take_while, drop_while}
use Rattle.xt_lex.specs.Scan.{after}
use Rattle.xt_scan.proofs.Theorems.{bind_some, take_while_split, take_while_passes}
use Rattle.xt_lex.proofs.Theorems.{after_takes}
use Rattle.bk_script.specs.Word.{is_scalar, is_plain, IsCodePoint, IsEscape, IsStringPart, IsString}
use Rattle.bk_script.specs.Reading.{Stops, ascii_at, scalar_of, code_point_at, escape_by, escape_at, string_part_at, parts_of, IsPushed, string_body_at, string_at}
use Rattle.bk_script.specs.declared.stop.Stop.{Stop}
use Rattle.bk_script.specs.declared.stop.Stop.TheVariants as stops
use Rattle.bk_script.proofs.Fronts.{StopsAt, run_whole, behind_whole, behind_stops}
use Rattle.bk_script.proofs.Parts.{Shrinks, parts_take, parts_again, parts_step, parts_stop}
use Rattle.bk_script.proofs.Places.{pair_parts}

-- which side a choice took
pub choose : {X : Type 0} (v : Bool) (a b : Option X) (y : X) → cond v a b ≡ Some y → ((v ≡ true) × (a ≡ Some y)) ⊎ (b ≡ Some y)
choose true a b y e = inl (refl, e)
choose false a b y e = inr e

record IsScalarOf (digits : List ℕ) (c : ℕ) : Type 0 where
  some : 1 ≤ length digits
  short : length digits ≤ 6
  scalar : is_scalar c ≡ true
  spell : number_behind 16 0 digits ≡ c

scalar_takes : (digits : List ℕ) (c : ℕ) → scalar_of digits ≡ Some c → IsScalarOf digits c
scalar_takes digits c e =
    let n = number_behind 16 0 digits in
    let test = leb 1 (length digits) && leb (length digits) 6 && is_scalar n in
    elim (cases_Bool test) [
      | inl yes_it ↦
          let outer = and_parts (leb 1 (length digits) && leb (length digits) 6) (is_scalar n) yes_it in
          let inner = and_parts (leb 1 (length digits)) (leb (length digits) 6) outer.0 in
          let found : Some n ≡ Some c = rw yes_it at e in
          let same : n ≡ c = cc in
          record { some = leb-true _ _ inner.0; short = leb-true _ _ inner.1; scalar = subst (λ (k : ℕ). is_scalar k ≡ true) same outer.1; spell = same }
      | inr no_it ↦ let none : None ≡ Some c = rw no_it at e in absurd cc
    ]

scalar_again : (digits : List ℕ) (c : ℕ) → IsScalarOf digits c → scalar_of digits ≡ Some c
scalar_again digits c is =
    let scalar : is_scalar (number_behind 16 0 digits) ≡ true = subst (λ (k : ℕ). is_scalar k ≡ true) (sym is.spell) is.scalar in
    rw (le-leb _ _ is.some, le-leb _ _ is.short, scalar) (ap (λ (k : ℕ). Some k) is.spell)

some_from_length : (digits : List ℕ) → 1 ≤ length digits → digits ≡ [] → ⊥
some_from_length digits le e = omega (arith, ap length e)

length_from_some : (digits : List ℕ) → (digits ≡ [] → ⊥) → 1 ≤ length digits
length_from_some [] some = absurd (some refl)
length_from_some (d ∷ ds) some = omega arith

code_point_takes : (s : List ℕ) (x : ℕ × List ℕ) → code_point_at s ≡ Some x → (t : List ℕ) × IsCodePoint (117 ∷ t) x.0 × (s ≡ t ++ x.1)
unfolding code_point_at
code_point_takes s x e =
    let a = bind_some (after 123 s) _ x e in
    let digits = take_while is_hexadecimal_digit a.0 in
    let b = bind_some (scalar_of digits) _ x a.2 in
    let d = bind_some (after 125 (drop_while is_hexadecimal_digit a.0)) _ x b.2 in
    let ends = pair_parts b.0 x.0 d.0 x.1 d.2 in
    let is = scalar_takes digits b.0 b.1 in
    let point : IsCodePoint (117 ∷ 123 ∷ (digits ++ 125 ∷ [])) b.0 = record {
      digits = digits;
      spelled = record { some = some_from_length digits is.some; all = take_while_passes is_hexadecimal_digit a.0; spell = is.spell };
      short = is.short;
      scalar = is.scalar;
      whole = refl;
    } in (
      123 ∷ (digits ++ 125 ∷ []),
      subst (λ (k : ℕ). IsCodePoint (117 ∷ 123 ∷ (digits ++ 125 ∷ [])) k) ends.0 point,
      after_takes 123 s a.0 a.1 ∙ ap (λ (t : List ℕ). 123 ∷ t) (take_while_split is_hexadecimal_digit a.0 ∙ ap (λ (t : List ℕ). digits ++ t) (after_takes 125 (drop_while is_hexadecimal_digit a.0) d.0 d.1 ∙ ap (λ (t : List ℕ). 125 ∷ t) ends.1) ∙ sym (append_assoc digits (125 ∷ []) x.1)),
    )

code_point_again : (digits r : List ℕ) (c : ℕ) → AreDigits 16 is_hexadecimal_digit digits c → length digits ≤ 6 → is_scalar c ≡ true → code_point_at (123 ∷ (digits ++ 125 ∷ r)) ≡ Some (c, r)
unfolding code_point_at
code_point_again digits r c are short scalar =
    let is = scalar_again digits c (record { some = length_from_some digits are.some; short = short; scalar = scalar; spell = are.spell }) in
    rw (run_whole is_hexadecimal_digit digits (125 ∷ r) are.all refl, behind_whole is_hexadecimal_digit digits (125 ∷ r) are.all refl, is) refl

abbrev IsTaken : ℕ → List ℕ → ℕ × List ℕ → Type 0
IsTaken b rest x = (t : List ℕ) × IsEscape t x.0 × (b ∷ rest ≡ t ++ x.1)

by_letter : (b letter c : ℕ) (rest : List ℕ) (x : ℕ × List ℕ) → (IsEscape (letter ∷ []) c) → eqb b letter ≡ true → ◌≡◌ {A = Option (ℕ × List ℕ)} (Some (c, rest)) (Some x) → IsTaken b rest x
by_letter b letter c rest x is e found =
    let ends = pair_parts c x.0 rest x.1 found in
    (letter ∷ [], subst (λ (k : ℕ). IsEscape (letter ∷ []) k) ends.0 is, ap (λ (k : ℕ). k ∷ rest) (eqb-true b letter e) ∙ ap (λ (t : List ℕ). letter ∷ t) ends.1)

by_code_point : (b : ℕ) (rest : List ℕ) (x : ℕ × List ℕ) → eqb b 117 ≡ true → code_point_at rest ≡ Some x → IsTaken b rest x
by_code_point b rest x e found =
    let t = code_point_takes rest x found in
    (117 ∷ t.0, inr (inr (inr (inr (inr t.1)))), ap (λ (k : ℕ). k ∷ rest) (eqb-true b 117 e) ∙ ap (λ (l : List ℕ). 117 ∷ l) t.2)

by_takes : (b : ℕ) (rest : List ℕ) (x : ℕ × List ℕ) → escape_by b rest ≡ Some x → IsTaken b rest x
by_takes b rest x e =
    elim (choose (eqb b 34) _ _ x e) [
      | inl h ↦ by_letter b 34 34 rest x (inl (refl, refl)) h.0 h.1
      | inr e1 ↦ elim (choose (eqb b 92) _ _ x e1) [
        | inl h ↦ by_letter b 92 92 rest x (inr (inl (refl, refl))) h.0 h.1
        | inr e2 ↦ elim (choose (eqb b 110) _ _ x e2) [
          | inl h ↦ by_letter b 110 10 rest x (inr (inr (inl (refl, refl)))) h.0 h.1
          | inr e3 ↦ elim (choose (eqb b 116) _ _ x e3) [
            | inl h ↦ by_letter b 116 9 rest x (inr (inr (inr (inl (refl, refl))))) h.0 h.1
            | inr e4 ↦ elim (choose (eqb b 114) _ _ x e4) [
              | inl h ↦ by_letter b 114 13 rest x (inr (inr (inr (inr (inl (refl, refl)))))) h.0 h.1
              | inr e5 ↦ elim (choose (eqb b 117) _ _ x e5) [
                | inl h ↦ by_code_point b rest x h.0 h.1
                | inr none ↦ absurd cc
              ]
            ]
          ]
        ]
      ]
    ]

ascii_takes : (s : List ℕ) (x : ℕ × List ℕ) → ascii_at s ≡ Some x → s ≡ x.0 ∷ x.1
ascii_takes [] x e = absurd cc
ascii_takes (b ∷ bs) x e =
    elim (choose (ltb b 128) _ _ x e) [
      | inl h ↦ let ends = pair_parts b x.0 bs x.1 h.1 in ap (λ (k : ℕ). k ∷ bs) ends.0 ∙ ap (λ (t : List ℕ). x.0 ∷ t) ends.1
      | inr none ↦ absurd cc
    ]

pub escape_takes : (s : List ℕ) (x : ℕ × List ℕ) → escape_at s ≡ Some x → (t : List ℕ) × IsEscape t x.0 × (s ≡ t ++ x.1)
unfolding escape_at
escape_takes s x e =
    let a = bind_some (ascii_at s) (λ y. escape_by y.0 y.1) x e in
    let t = by_takes a.0.0 a.0.1 x a.2 in
    (t.0, t.1, ascii_takes s a.0 a.1 ∙ t.2)

pub escape_again : (t r : List ℕ) (c : ℕ) → IsEscape t c → escape_at (t ++ r) ≡ Some (c, r)
unfolding escape_at
escape_again t r c (inl (e, f)) = rw (e, f) refl
escape_again t r c (inr (inl (e, f))) = rw (e, f) refl
escape_again t r c (inr (inr (inl (e, f)))) = rw (e, f) refl
escape_again t r c (inr (inr (inr (inl (e, f))))) = rw (e, f) refl
escape_again t r c (inr (inr (inr (inr (inl (e, f)))))) = rw (e, f) refl
escape_again t r c (inr (inr (inr (inr (inr is))))) =
    let regrouped : t ++ r ≡ 117 ∷ 123 ∷ (is.digits ++ 125 ∷ r) = ap (λ (u : List ℕ). u ++ r) is.whole ∙ ap (λ (u : List ℕ). 117 ∷ 123 ∷ u) (append_assoc is.digits (125 ∷ []) r) in
    rw regrouped (code_point_again is.digits r c is.spelled is.short is.scalar)

pub part_takes : (s : List ℕ) (x : List ℕ × List ℕ) → string_part_at s ≡ Some x → (t : List ℕ) × IsStringPart t x.0 × (s ≡ t ++ x.1)
part_takes [] x e = absurd cc
part_takes (b ∷ bs) x e =
    elim (choose (eqb b 92) _ _ x e) [
      | inl h ↦
          let a = bind_some (escape_at bs) _ x h.1 in
          let ends = pair_parts (encode_utf8 a.0.0) x.0 a.0.1 x.1 a.2 in
          let t = escape_takes bs a.0 a.1 in
          (92 ∷ t.0, inr (t.0, a.0.0, t.1, refl, sym ends.0), ap (λ (k : ℕ). k ∷ bs) (eqb-true b 92 h.0) ∙ ap (λ (l : List ℕ). 92 ∷ l) (t.2 ∙ ap (λ (l : List ℕ). t.0 ++ l) ends.1))
      | inr e1 ↦ elim (choose (is_plain b) _ _ x e1) [
        | inl h ↦ let ends = pair_parts (b ∷ []) x.0 bs x.1 h.1 in (b ∷ [], inl (b, h.0, refl, sym ends.0), ap (λ (l : List ℕ). b ∷ l) ends.1)
        | inr none ↦ absurd cc
      ]
    ]

pub plain_part : (b : ℕ) (r : List ℕ) → is_plain b ≡ true → string_part_at (b ∷ r) ≡ Some (b ∷ [], r)
plain_part b r plain =
    let other : eqb b 92 ≡ false = grind (arith, nat_tests) in
    rw (plain, other) refl

pub escaped_part : (c : ℕ) (s r : List ℕ) → escape_at s ≡ Some (c, r) → string_part_at (92 ∷ s) ≡ Some (encode_utf8 c, r)
escaped_part c s r e = rw e refl

abbrev Any : List ℕ → Type 0
Any r = Unit {0}

part_again : (t r v : List ℕ) → IsStringPart t v → Any r → string_part_at (t ++ r) ≡ Some (v, r)
part_again t r v (inl (b, plain, e, f)) any = rw (e, f) (plain_part b r plain)
part_again t r v (inr (escape, c, is, e, f)) any = rw (e, f) (escaped_part c (escape ++ r) r (escape_again escape r c is))

part_some : (t v : List ℕ) → IsStringPart t v → 1 ≤ length t
part_some t v (inl (b, plain, e, f)) = omega (arith, ap length e)
part_some t v (inr (escape, c, is, e, f)) = omega (arith, ap length e)

pub part_shrinks : Shrinks string_part_at
part_shrinks s x e =
    let t = part_takes s x e in
    omega (arith, ap length t.2, length-append t.0 x.1, part_some t.0 x.0 t.1)

pub string_takes : (s : List ℕ) (x : List ℕ × List ℕ) → string_at s ≡ Some x → (t : List ℕ) × IsString t x.0 × (s ≡ t ++ x.1)
unfolding string_at string_body_at
string_takes s x e =
    let a = bind_some (after 34 s) string_body_at x e in
    let read = parts_of string_part_at a.0 in
    let b = bind_some (after 34 read.1) (λ (rest : List ℕ). Some (concat read.0, rest)) x a.2 in
    let ends = pair_parts (concat read.0) x.0 b.0 x.1 b.2 in
    let spelled = parts_take string_part_at IsStringPart part_takes a.0 in (
      34 ∷ (spelled.0 ++ 34 ∷ []),
      (spelled.0, read.0, spelled.1, refl, sym ends.0),
      after_takes 34 s a.0 a.1 ∙ ap (λ (l : List ℕ). 34 ∷ l) (spelled.2 ∙ ap (λ (l : List ℕ). spelled.0 ++ l) (after_takes 34 read.1 b.0 b.1 ∙ ap (λ (l : List ℕ). 34 ∷ l) ends.1) ∙ sym (append_assoc spelled.0 (34 ∷ []) x.1)),
    )

pub string_again : (t r v : List ℕ) → IsString t v → string_at (t ++ r) ≡ Some (v, r)
unfolding string_at string_body_at
string_again t r v (body, parts, are, e, f) =
    let regrouped : t ++ r ≡ 34 ∷ (body ++ 34 ∷ r) = ap (λ (u : List ℕ). u ++ r) e ∙ ap (λ (u : List ℕ). 34 ∷ u) (append_assoc body (34 ∷ []) r) in
    let read : parts_of string_part_at (body ++ 34 ∷ r) ≡ (parts, 34 ∷ r) = parts_again string_part_at IsStringPart Any part_shrinks part_again (λ t r a is any. tt) parts body (34 ∷ r) are tt refl in
    rw (regrouped, read, f) refl

-- ---- the number of a code point

-- a bound of the number of so many digits
abbrev pub digits_bound : ℕ → ℕ
digits_bound zero = 0
digits_bound (suc k) = digits_bound k * 16 + 255

pub bound_small : (k : ℕ) → k < 6 → digits_bound k ≤ 17825775
bound_small zero lt = omega arith
bound_small (suc zero) lt = omega arith
bound_small (suc (suc zero)) lt = omega arith
bound_small (suc (suc (suc zero))) lt = omega arith
bound_small (suc (suc (suc (suc zero)))) lt = omega arith
bound_small (suc (suc (suc (suc (suc zero))))) lt = omega arith
bound_small (suc (suc (suc (suc (suc (suc k)))))) lt = absurd (omega arith)

pub bound_next : (n d k : ℕ) → n ≤ digits_bound k → d < 256 → n * 16 + d ≤ digits_bound (k + 1)
bound_next n d k le lt =
    let e : k + 1 ≡ suc k = omega arith in
    rw e (omega (arith, le, lt))

pub digit_more : (n k : ℕ) (ds : List ℕ) → k < length ds → number_behind 16 n (drop k ds) ≡ number_behind 16 (n * 16 + digit_value (get_or ds k 0)) (drop (k + 1) ds)
digit_more n k ds within = ap (number_behind 16 n) (drop_more ds k 0 within)

-- ---- reading a string from the front

abbrev pub with_value : List ℕ → Option (List ℕ × List ℕ) → Option (List ℕ × List ℕ)
with_value front read = read >>= λ x. Some (front ++ x.0, x.1)

with_part : (v : List ℕ) (vs : List (List ℕ)) (o : Option (List ℕ)) → (o >>= λ rest. Some (concat (v ∷ vs), rest)) ≡ with_value v (o >>= λ rest. Some (concat vs, rest))
with_part v vs None = refl
with_part v vs (Some r) = refl

with_both : (a b : List ℕ) (o : Option (List ℕ × List ℕ)) → with_value (a ++ b) o ≡ with_value a (with_value b o)
with_both a b None = refl
with_both a b (Some x) = ap (λ (l : List ℕ). Some (l, x.1)) (append_assoc a b x.0)

with_nothing : (o : Option (List ℕ × List ℕ)) → with_value [] o ≡ o
with_nothing None = refl
with_nothing (Some x) = refl

body_step : (s v r : List ℕ) → string_part_at s ≡ Some (v, r) → string_body_at s ≡ with_value v (string_body_at r)
unfolding string_body_at
body_step s v r e = rw (parts_step string_part_at part_shrinks s (v, r) e) (with_part v (parts_of string_part_at r).0 (after 34 (parts_of string_part_at r).1))

body_stop : (s : List ℕ) → string_part_at s ≡ None → string_body_at s ≡ (after 34 s >>= λ rest. Some ([], rest))
unfolding string_body_at
body_stop s e = rw (parts_stop string_part_at s e) refl

-- bytes that stand for themselves at the front
body_plain : (front rest : List ℕ) → list_all is_plain front ≡ true → string_body_at (front ++ rest) ≡ with_value front (string_body_at rest)
body_plain [] rest all = sym (with_nothing (string_body_at rest))
body_plain (b ∷ bs) rest all =
    let both = and_parts _ _ all in
    body_step (b ∷ (bs ++ rest)) (b ∷ []) (bs ++ rest) (plain_part b (bs ++ rest) both.0)
    ∙ ap (with_value (b ∷ [])) (body_plain bs rest both.1)
    ∙ sym (with_both (b ∷ []) bs (string_body_at rest))

pub body_front : (s : List ℕ) → with_value (take_while is_plain s) (string_body_at (drop_while is_plain s)) ≡ string_body_at s
body_front s = sym (body_plain (take_while is_plain s) (drop_while is_plain s) (take_while_passes is_plain s)) ∙ ap string_body_at (sym (take_while_split is_plain s))

escaped_body : (text c_rest : List ℕ) (c : ℕ) → escape_at text ≡ Some (c, c_rest) → string_body_at (92 ∷ text) ≡ with_value (encode_utf8 c) (string_body_at c_rest)
escaped_body text r c e = body_step (92 ∷ text) (encode_utf8 c) r (escaped_part c text r e)

-- one more escape, and what stands for itself behind it
pub body_pushed : (value rest text now after_it : List ℕ) (whole : Option (List ℕ × List ℕ)) → rest ≡ 92 ∷ text → IsPushed value text now after_it → with_value value (string_body_at rest) ≡ whole → with_value now (string_body_at after_it) ≡ whole
body_pushed value rest text now after_it whole is p so_far =
    let front = take_while is_plain p.behind_escape in
    let back = string_body_at (drop_while is_plain p.behind_escape) in
    let one : string_body_at rest ≡ with_value (encode_utf8 p.c) (string_body_at p.behind_escape) = ap string_body_at is ∙ escaped_body text p.behind_escape p.c p.escape in
    let two : string_body_at p.behind_escape ≡ with_value front back = sym (body_front p.behind_escape) in
    ap (λ (v : List ℕ). with_value v (string_body_at after_it)) p.value
    ∙ ap (λ (r : List ℕ). with_value ((value ++ encode_utf8 p.c) ++ front) (string_body_at r)) p.rest_is
    ∙ with_both (value ++ encode_utf8 p.c) front back
    ∙ ap (with_value (value ++ encode_utf8 p.c)) (sym two)
    ∙ with_both value (encode_utf8 p.c) (string_body_at p.behind_escape)
    ∙ ap (with_value value) (sym one)
    ∙ so_far

pub pushed_stops : (value text now after_it : List ℕ) → IsPushed value text now after_it → StopsAt is_plain after_it
pushed_stops value text now after_it p = subst (StopsAt is_plain) (sym p.rest_is) (behind_stops is_plain p.behind_escape)

pub pushed_less : (value rest text now after_it : List ℕ) → rest ≡ 92 ∷ text → IsPushed value text now after_it → length after_it < length rest
pushed_less value rest text now after_it is p =
    let t = escape_takes text (p.c, p.behind_escape) p.escape in
    omega (arith, ap length is, ap length t.2, length-append t.0 p.behind_escape, ap length p.rest_is, ap length (take_while_split is_plain p.behind_escape), length-append (take_while is_plain p.behind_escape) (drop_while is_plain p.behind_escape))

-- the second quote
pub body_ends : (value rest r : List ℕ) (whole : Option (List ℕ × List ℕ)) → after 34 rest ≡ Some r → with_value value (string_body_at rest) ≡ whole → whole ≡ Some (value, r)
body_ends value rest r whole e so_far =
    let is = after_takes 34 rest r e in
    let body : string_body_at rest ≡ Some ([], r) = ap string_body_at is ∙ body_stop (34 ∷ r) refl in
    sym so_far ∙ ap (with_value value) body ∙ ap (λ (l : List ℕ). Some (l, r)) (append-nil value)

no_part : (rest : List ℕ) → after 92 rest ≡ None → StopsAt is_plain rest → string_part_at rest ≡ None
no_part [] none stops = refl
no_part (b ∷ bs) none stops =
    elim (cases_Bool (eqb b 92)) [
      | inl e ↦ let both : ◌≡◌ {A = Option (List ℕ)} (Some bs) None = rw e at none in absurd cc
      | inr e ↦ rw (stops, e) refl
    ]

pub body_none : (value rest : List ℕ) (whole : Option (List ℕ × List ℕ)) → after 92 rest ≡ None → after 34 rest ≡ None → StopsAt is_plain rest → with_value value (string_body_at rest) ≡ whole → whole ≡ None
body_none value rest whole no_escape no_quote stops so_far =
    let body : string_body_at rest ≡ None = body_stop rest (no_part rest no_escape stops) ∙ rw no_quote refl in
    sym so_far ∙ ap (with_value value) body

pub body_no_escape : (value rest text : List ℕ) (whole : Option (List ℕ × List ℕ)) → rest ≡ 92 ∷ text → escape_at text ≡ None → with_value value (string_body_at rest) ≡ whole → whole ≡ None
body_no_escape value rest text whole is none so_far =
    let no : string_part_at (92 ∷ text) ≡ None = rw none refl in
    let body : string_body_at rest ≡ None = ap string_body_at is ∙ body_stop (92 ∷ text) no in
    sym so_far ∙ ap (with_value value) body

pub body_split : (s value rest : List ℕ) → value ≡ take_while is_plain s → rest ≡ drop_while is_plain s → with_value value (string_body_at rest) ≡ string_body_at s
body_split s value rest front back = ap (λ (v : List ℕ). with_value v (string_body_at rest)) front ∙ ap (λ (r : List ℕ). with_value (take_while is_plain s) (string_body_at r)) back ∙ body_front s

-- why an escape was not appended
pub body_stopped : (stop : Stop) (value rest text : List ℕ) (whole : Option (List ℕ × List ℕ)) → rest ≡ 92 ∷ text → (stop ≡ stops.NoReading → escape_at text ≡ None) → with_value value (string_body_at rest) ≡ whole → Stops stop whole
body_stopped stops.NoReading value rest text whole is none so_far = body_no_escape value rest text whole is (none refl) so_far
body_stopped stops.NoMemory value rest text whole is none so_far = tt
