-- Names: the tests of the code are the grammar's.
use Rattle.std.proofs.Common.{◌≡◌, ◌≢◌, ℕ, ◌+◌, ◌<◌, List, [], ◌∷◌, ◌++◌, length, get_or, take, drop, Bool, true, false, not, eqb, refl, ap, sym, ◌∙◌, arith, inl, inr, encode_utf8_all, eqb-true, eq-eqb, le-leb, IsTrue, ◌↔◌}
use Rattle.std.proofs.lemmas.Bool.{not_from_true, cases_lt, cases_Bool, not-false, or_left, or_right, and_parts, and_from, eqb-false, both_ways, ne_eqb}
use Rattle.std.proofs.lemmas.Bool.Decides.{nat_tests}
use Rattle.std.proofs.lemmas.List.{take_at, drop_at, length-append, drop-drop, drop_more, take-append-drop, get_or_at, get_or_append_left}
use Rattle.std.proofs.lemmas.List.Recursion.{and_from_places}
use Rattle.std.proofs.lemmas.List.Folds.{list_all-append}
use Rattle.std.proofs.lemmas.List.Sums.{position_or_len_is, passes_at_first, prefix_len-le-length}
use Rattle.std.proofs.lemmas.Str.{length-le-encodes, chars-encodes, encodes-chars, IsUtf8-take, IsUtf8-drop, IsCharBoundary-before_ascii, IsCharBoundary-after_ascii, NoCharPasses-byte}
use Rattle.std.specs.Str.{IsUtf8, chars, NonePass}
use Rattle.std.specs.List.{list_all, position_or_len}
use lib.Utf8.{scalars, scalar}
use Rattle.xt_spec.specs.Char.{is_name_char, is_name_start_char, is_not_colon}
use Rattle.xt_spec.specs.Name.{are_name_chars, are_ncname_chars, IsName, IsNCName, IsQName}
use Rattle.xt_lex.specs.NameTest.{is_name_byte, qname}

name_char_scalar : (c : ℕ) → is_name_char c ≡ true → scalar c ≡ true
name_char_scalar c h = grind (arith, nat_tests)

start_is_name_char : (c : ℕ) → is_name_start_char c ≡ true → is_name_char c ≡ true
start_is_name_char c h = rw h refl

pub all_scalars : (cs : List ℕ) → list_all is_name_char cs ≡ true → scalars cs ≡ true
all_scalars [] h = refl
all_scalars (c ∷ cs) h =
    let both = and_parts _ _ h in
    and_from _ _ (name_char_scalar c both.0) (all_scalars cs both.1)

pub name_all : (cs : List ℕ) → are_name_chars cs ≡ true → list_all is_name_char cs ≡ true
name_all (c ∷ cs) h =
    let both = and_parts _ _ h in
    and_from _ _ (start_is_name_char c both.0) both.1
name_all [] h = refl

none_fail : (p : ℕ → Bool) (cs : List ℕ) → list_all p cs ≡ true → NonePass (λ c. not (p c)) cs
none_fail p [] h = tt
none_fail p (c ∷ cs) h =
    let both = and_parts _ _ h in
    (not_from_true (p c) both.0, none_fail p cs both.1)

-- an ASCII byte of a text whose characters pass is one of them
ascii_passes : (p : ℕ → Bool) (cs text : List ℕ) → encode_utf8_all cs ≡ text → list_all p cs ≡ true → (i : ℕ) → i < length text → get_or text i 0 < 128 → p (get_or text i 0) ≡ true
ascii_passes p cs text e all i within small =
    not-false _ (NoCharPasses-byte (λ c. not (p c)) text i (cs, e, none_fail p cs all) within small)

abbrev ncname_parts : (text : List ℕ) → IsNCName text → (cs : List ℕ) × (encode_utf8_all cs ≡ text) × (are_name_chars cs ≡ true) × (list_all is_not_colon cs ≡ true)
ncname_parts text h =
    let both = and_parts _ _ h.2 in
    (h.0, h.1, both.0, both.1)

-- the test of the code, both ways
pub ncname_from_test : (text : List ℕ) → IsUtf8 text → are_ncname_chars (chars text) ≡ true → IsNCName text
ncname_from_test text u h = (chars text, encodes-chars text u, h)

pub test_from_ncname : (text : List ℕ) → IsNCName text → are_ncname_chars (chars text) ≡ true
test_from_ncname text h =
    let parts = ncname_parts text h in
    let e : chars text ≡ h.0 = ap chars (sym h.1) ∙ chars-encodes h.0 (all_scalars h.0 (name_all h.0 parts.2)) in
    rw e h.2

-- the bytes of a name
ncname_bytes : (text : List ℕ) → IsNCName text → (i : ℕ) → i < length text → (is_name_byte (get_or text i 0) ≡ true) × (get_or text i 0 ≢ 58)
ncname_bytes text h i within =
    let parts = ncname_parts text h in
    elim (cases_lt (get_or text i 0) 128) [
      | inl small ↦ (
        or_right _ _ (ascii_passes is_name_char parts.0 text parts.1 (name_all parts.0 parts.2) i within small),
        λ e. both_ways (is_not_colon (get_or text i 0)) (rw e refl) (ascii_passes is_not_colon parts.0 text parts.1 parts.3 i within small),
      )
      | inr large ↦ (or_left _ _ (le-leb 128 (get_or text i 0) large), λ e. absurd (omega arith))
    ]

no_colon : (text : List ℕ) → IsNCName text → position_or_len (λ b. eqb b 58) text ≡ length text
no_colon text h = position_or_len_is (λ b. eqb b 58) text (length text) 0 (omega arith) (λ k below. ne_eqb _ _ (ncname_bytes text h k below).1) (λ h. absurd (omega arith))

first_colon : (prefix rest : List ℕ) → IsNCName prefix → position_or_len (λ b. eqb b 58) (prefix ++ 58 ∷ rest) ≡ length prefix
first_colon prefix rest h =
    position_or_len_is (λ b. eqb b 58) (prefix ++ 58 ∷ rest) (length prefix) 0 (omega (arith, length-append prefix (58 ∷ rest)))
    (λ k below. rw (get_or_append_left prefix (58 ∷ rest) 0 k below) (ne_eqb _ _ (ncname_bytes prefix h k below).1))
    (λ _. rw (get_or_at prefix 58 rest 0 (length prefix) refl) refl)

drop_past : (xs : List ℕ) (y : ℕ) (ys : List ℕ) → drop (length xs + 1) (xs ++ y ∷ ys) ≡ ys
drop_past xs y ys = rw (← drop-drop 1 (length xs) (xs ++ y ∷ ys), drop_at xs (y ∷ ys) (length xs) refl) refl

pub test_from_qname : (text : List ℕ) → IsQName text → qname text ≡ true
test_from_qname text (inl h) =
    let e : eqb (position_or_len (λ b. eqb b 58) text) (length text) ≡ true = eq-eqb _ _ (no_colon text h) in
    rw e (test_from_ncname text h)
test_from_qname text (inr (prefix, local, p, l, e)) =
    let at = first_colon prefix local p in
    let unequal : eqb (length prefix) (length (prefix ++ 58 ∷ local)) ≡ false = ne_eqb _ _ (λ e. omega (arith, length-append prefix (58 ∷ local))) in
    let front : take (length prefix) (prefix ++ 58 ∷ local) ≡ prefix = take_at prefix (58 ∷ local) (length prefix) refl in
    let back : drop (length prefix + 1) (prefix ++ 58 ∷ local) ≡ local = drop_past prefix 58 local in
    rw (e, at, unequal, front, back) (and_from _ _ (test_from_ncname prefix p) (test_from_ncname local l))

pub qname_from_test : (text : List ℕ) → IsUtf8 text → qname text ≡ true → IsQName text
qname_from_test text u h =
    let at = position_or_len (λ b. eqb b 58) text in
    elim (cases_Bool (eqb at (length text))) [
      | inl e ↦ inl (ncname_from_test text u (rw e at h))
      | inr e ↦
          let ne = eqb-false _ _ e in
          let within : at < length text = omega (arith, prefix_len-le-length (λ b. not (eqb b 58)) text) in
          let byte : get_or text at 0 ≡ 58 = eqb-true _ _ (passes_at_first (λ b. eqb b 58) text 0 within) in
          let small : get_or text at 0 < 128 = omega arith in
          let both = and_parts _ _ (rw e at h) in
          let front = ncname_from_test (take at text) (IsUtf8-take text at u (IsCharBoundary-before_ascii text at within small)) both.0 in
          let back = ncname_from_test (drop (at + 1) text) (IsUtf8-drop text (at + 1) u (IsCharBoundary-after_ascii text at u within small)) both.1 in
          inr (take at text, drop (at + 1) text, front, back, sym (take-append-drop at text) ∙ ap (λ r. take at text ++ r) (drop_more text at 0 within ∙ ap (λ b. b ∷ drop (at + 1) text) byte))
    ]

pub ncname_passes : (text : List ℕ) → IsNCName text → list_all is_name_byte text ≡ true
ncname_passes text h = and_from_places (list_all is_name_byte) is_name_byte refl (λ _ _. refl) text 0 (λ i within. (ncname_bytes text h i within).0)

-- the bytes of a QName
pub qname_bytes : (text : List ℕ) → IsQName text → list_all is_name_byte text ≡ true
qname_bytes text (inl h) = ncname_passes text h
qname_bytes text (inr (prefix, local, p, l, e)) =
    rw (e, list_all-append) (and_from _ _ (ncname_passes prefix p) (ncname_passes local l))

pub ncname_nonempty : (text : List ℕ) → IsNCName text → 0 < length text
ncname_nonempty text ([], e, h) = absurd (cc)
ncname_nonempty text (c ∷ cs, e, h) = omega (arith, length-le-encodes (c ∷ cs), ap length e)

pub qname_nonempty : (text : List ℕ) → IsQName text → 0 < length text
qname_nonempty text (inl h) = ncname_nonempty text h
qname_nonempty text (inr (prefix, local, p, l, e)) = omega (arith, ap length e, length-append prefix (58 ∷ local))

pub test_from_name : (text : List ℕ) → IsName text → are_name_chars (chars text) ≡ true
test_from_name text h =
    let e : chars text ≡ h.0 = ap chars (sym h.1) ∙ chars-encodes h.0 (all_scalars h.0 (name_all h.0 h.2)) in
    rw e h.2

-- what the test answers is whether the grammar has it
pub name_exact : (text : List ℕ) (b : Bool) → IsUtf8 text → b ≡ are_name_chars (chars text) → IsTrue b ↔ IsName text
name_exact text b u e = (λ t. (chars text, encodes-chars text u, sym e ∙ t), λ n. e ∙ test_from_name text n)

pub ncname_exact : (text : List ℕ) (b : Bool) → IsUtf8 text → b ≡ are_ncname_chars (chars text) → IsTrue b ↔ IsNCName text
ncname_exact text b u e = (λ t. ncname_from_test text u (sym e ∙ t), λ n. e ∙ test_from_ncname text n)

pub qname_exact : (text : List ℕ) (b : Bool) → IsUtf8 text → b ≡ qname text → IsTrue b ↔ IsQName text
qname_exact text b u e = (λ t. qname_from_test text u (sym e ∙ t), λ n. e ∙ test_from_qname text n)
