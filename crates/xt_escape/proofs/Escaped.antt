-- What is written for a text: its parts, its bytes and its length.
use Rattle.std.proofs.Common.{◌≡◌, ◌≢◌, ◌∙◌, ℕ, ◌*◌, ◌≤◌, List, [], ◌∷◌, ◌++◌, length, refl, ap, arith, inl, inr, true, false, Bool, not, ◌==◌, ◌&&◌, ltb, ltb-true, eqb-true, codes, encode_utf8, encode_utf8_all, append-nil, length-append}
use Rattle.std.proofs.lemmas.Bool.{and_parts, and_from, cond_both}
use Rattle.std.proofs.lemmas.Bool.Decides.{nat_tests}
use Rattle.std.proofs.lemmas.List.Folds.{list_all-append}
use Rattle.std.proofs.lemmas.Str.{encode_ascii, encodes-append, length-encode, len_utf8_bounds}
use Rattle.std.specs.List.{list_all}
use lib.Utf8.{scalar, scalars}
use Rattle.xt_spec.specs.Char.{is_char}
use Rattle.xt_spec.specs.Reference.{StandsFor}
use Rattle.xt_spec.specs.Escape.{escape_char, escape_at, escape_from}
use Rattle.xt_escape.proofs.Parts.{has_no_cr, Written, nothing_written, reference_written, kept_written}

pub ascii_bytes : (cs : List ℕ) → list_all (λ c. ltb c 128) cs ≡ true → encode_utf8_all cs ≡ cs
ascii_bytes [] small = refl
ascii_bytes (c ∷ cs) small =
    let both = and_parts (ltb c 128) (list_all (λ c. ltb c 128) cs) small in
    rw (encode_ascii c (ltb-true c 128 both.0)) (ap (λ (l : List ℕ). c ∷ l) (ascii_bytes cs both.1))

-- the numbers of references
lf_stands : StandsFor (codes "&#10;") 0xA
lf_stands = inl (refl, inl (codes "10", record { some = λ e. absurd (cc); all = refl; spell = refl }, refl))

cr_stands : StandsFor (codes "&#13;") 0xD
cr_stands = inl (refl, inl (codes "13", record { some = λ e. absurd (cc); all = refl; spell = refl }, refl))

bracket_stands : StandsFor (codes "&#93;") 0x5D
bracket_stands = inl (refl, inl (codes "93", record { some = λ e. absurd (cc); all = refl; spell = refl }, refl))

mark_stands : StandsFor (codes "&#65279;") 0xFEFF
mark_stands = inl (refl, inl (codes "65279", record { some = λ e. absurd (cc); all = refl; spell = refl }, refl))

-- a reference in place of a character
instead : (reference : List ℕ) (d c : ℕ) (text value : List ℕ) → list_all (λ c. ltb c 128) reference ≡ true → StandsFor reference d → (c == d) ≡ true → Written text value → Written (encode_utf8_all reference ++ text) (encode_utf8 c ++ value)
instead reference d c text value small stands is after =
    rw (ascii_bytes reference small) (rw (eqb-true c d is) (reference_written reference d text value stands after))

isnt : (c d : ℕ) → (c == d) ≡ false → c ≢ d
isnt c d e same = absurd (grind (arith, nat_tests))

char_written : (c : ℕ) (text value : List ℕ) → is_char c ≡ true → Written text value → Written (encode_utf8_all (escape_char c) ++ text) (encode_utf8 c ++ value)
char_written c text value is after =
    let W = λ (cs : List ℕ). Written (encode_utf8_all cs ++ text) (encode_utf8 c ++ value) in
    cond_both (c == 0x26) (codes "&amp;") _ W (λ e. instead (codes "&amp;") 0x26 c text value refl (inr (inr (inr (inl (refl, refl))))) e after)
    (λ no_amp. cond_both (c == 0x3C) (codes "&lt;") _ W (λ e. instead (codes "&lt;") 0x3C c text value refl (inr (inl (refl, refl))) e after)
    (λ no_lt. cond_both (c == 0x3E) (codes "&gt;") _ W (λ e. instead (codes "&gt;") 0x3E c text value refl (inr (inr (inl (refl, refl)))) e after)
    (λ no_gt. cond_both (c == 0xD) (codes "&#13;") _ W (λ e. instead (codes "&#13;") 0xD c text value refl cr_stands e after)
    (λ no_cr. cond_both (c == 0xFEFF) (codes "&#65279;") (c ∷ []) W (λ e. instead (codes "&#65279;") 0xFEFF c text value refl mark_stands e after)
    (λ _. rw (append-nil (encode_utf8 c)) (kept_written c text value ((is, isnt c 0x3C no_lt, isnt c 0x26 no_amp), isnt c 0x3E no_gt, isnt c 0xD no_cr) after))))))

at_written : (first last : Bool) (c : ℕ) (text value : List ℕ) → is_char c ≡ true → Written text value → Written (encode_utf8_all (escape_at first last c) ++ text) (encode_utf8 c ++ value)
at_written first last c text value is after =
    let W = λ (cs : List ℕ). Written (encode_utf8_all cs ++ text) (encode_utf8 c ++ value) in
    cond_both (first && c == 0xA) (codes "&#10;") _ W (λ e. instead (codes "&#10;") 0xA c text value refl lf_stands (and_parts first (c == 0xA) e).1 after)
    (λ _. cond_both (last && c == 0x5D) (codes "&#93;") (escape_char c) W (λ e. instead (codes "&#93;") 0x5D c text value refl bracket_stands (and_parts last (c == 0x5D) e).1 after)
    (λ _. char_written c text value is after))

pub from_written : (first : Bool) (cs : List ℕ) → list_all is_char cs ≡ true → Written (encode_utf8_all (escape_from first cs)) (encode_utf8_all cs)
from_written first [] are = nothing_written
from_written first (c ∷ cs) are =
    let both = and_parts (is_char c) (list_all is_char cs) are in
    rw (encodes-append (escape_at first (length cs == 0) c) (escape_from false cs)) (at_written first (length cs == 0) c (encode_utf8_all (escape_from false cs)) (encode_utf8_all cs) both.0 (from_written false cs both.1))

-- a fact of what is written for each character
char_has : (P : List ℕ → Type 0) (c : ℕ) → P (codes "&amp;") → P (codes "&lt;") → P (codes "&gt;") → P (codes "&#13;") → ((c == 0xFEFF) ≡ true → P (codes "&#65279;")) → ((c == 0xD) ≡ false → P (c ∷ [])) → P (escape_char c)
char_has P c amp lt gt cr mark kept =
    cond_both (c == 0x26) (codes "&amp;") _ P (λ _. amp)
    (λ _. cond_both (c == 0x3C) (codes "&lt;") _ P (λ _. lt)
    (λ _. cond_both (c == 0x3E) (codes "&gt;") _ P (λ _. gt)
    (λ _. cond_both (c == 0xD) (codes "&#13;") _ P (λ _. cr)
    (λ no_cr. cond_both (c == 0xFEFF) (codes "&#65279;") (c ∷ []) P mark (λ _. kept no_cr)))))

at_has : (P : List ℕ → Type 0) (first last : Bool) (c : ℕ) → P (codes "&#10;") → P (codes "&#93;") → P (escape_char c) → P (escape_at first last c)
at_has P first last c lf bracket char =
    cond_both (first && c == 0xA) (codes "&#10;") _ P (λ _. lf)
    (λ _. cond_both (last && c == 0x5D) (codes "&#93;") (escape_char c) P (λ _. bracket) (λ _. char))

-- no CR is written
at_no_cr : (first last : Bool) (c : ℕ) → has_no_cr (escape_at first last c) ≡ true
at_no_cr first last c =
    let P = λ (cs : List ℕ). has_no_cr cs ≡ true in
    at_has P first last c refl refl (char_has P c refl refl refl refl (λ _. refl) (λ no_cr. rw no_cr refl))

pub from_no_cr : (first : Bool) (cs : List ℕ) → has_no_cr (escape_from first cs) ≡ true
from_no_cr first [] = refl
from_no_cr first (c ∷ cs) =
    list_all-append (λ b. not (b == 0xD)) (escape_at first (length cs == 0) c) (escape_from false cs) ∙ and_from _ _ (at_no_cr first (length cs == 0) c) (from_no_cr false cs)

-- what is written is characters
scalars-append : (xs ys : List ℕ) → scalars xs ≡ true → scalars ys ≡ true → scalars (xs ++ ys) ≡ true
scalars-append [] ys front back = back
scalars-append (x ∷ xs) ys front back =
    let both = and_parts (scalar x) (scalars xs) front in
    and_from (scalar x) (scalars (xs ++ ys)) both.0 (scalars-append xs ys both.1 back)

at_scalars : (first last : Bool) (c : ℕ) → scalar c ≡ true → scalars (escape_at first last c) ≡ true
at_scalars first last c is =
    let P = λ (cs : List ℕ). scalars cs ≡ true in
    at_has P first last c refl refl (char_has P c refl refl refl refl (λ _. refl) (λ _. rw is refl))

pub from_scalars : (first : Bool) (cs : List ℕ) → scalars cs ≡ true → scalars (escape_from first cs) ≡ true
from_scalars first [] are = refl
from_scalars first (c ∷ cs) are =
    let both = and_parts (scalar c) (scalars cs) are in
    scalars-append (escape_at first (length cs == 0) c) (escape_from false cs) (at_scalars first (length cs == 0) c both.0) (from_scalars false cs both.1)

pub chars_are_scalars : (cs : List ℕ) → list_all is_char cs ≡ true → scalars cs ≡ true
chars_are_scalars [] are = refl
chars_are_scalars (c ∷ cs) are =
    let both = and_parts (is_char c) (list_all is_char cs) are in
    and_from (scalar c) (scalars cs) (one c both.0) (chars_are_scalars cs both.1)
  where
    one : (c : ℕ) → is_char c ≡ true → scalar c ≡ true
    one c is = grind (arith, nat_tests)

-- at least a byte for each character, and at most five for each byte
at_some : (first last : Bool) (c : ℕ) → 1 ≤ length (escape_at first last c)
at_some first last c =
    let P = λ (cs : List ℕ). 1 ≤ length cs in
    at_has P first last c (omega arith) (omega arith) (char_has P c (omega arith) (omega arith) (omega arith) (omega arith) (λ _. omega arith) (λ _. omega arith))

pub from_some : (first : Bool) (c : ℕ) (cs : List ℕ) → 1 ≤ length (escape_from first (c ∷ cs))
from_some first c cs = omega (arith, at_some first (length cs == 0) c, length-append (escape_at first (length cs == 0) c) (escape_from false cs))

five : (reference : List ℕ) (c : ℕ) → list_all (λ c. ltb c 128) reference ≡ true → length reference ≤ 5 → length (encode_utf8_all reference) ≤ 5 * length (encode_utf8 c)
five reference c small fits =
    rw (ascii_bytes reference small) (omega (arith, length-encode c, (len_utf8_bounds c).0))

mark_length : (c : ℕ) → (c == 0xFEFF) ≡ true → length (encode_utf8_all (codes "&#65279;")) ≤ 5 * length (encode_utf8 c)
mark_length c is =
    let three : length (encode_utf8 0xFEFF) ≡ 3 = length-encode 0xFEFF in
    rw (ascii_bytes (codes "&#65279;") refl) (rw (eqb-true c 0xFEFF is) (omega arith))

at_length : (first last : Bool) (c : ℕ) → length (encode_utf8_all (escape_at first last c)) ≤ 5 * length (encode_utf8 c)
at_length first last c =
    let P = λ (cs : List ℕ). length (encode_utf8_all cs) ≤ 5 * length (encode_utf8 c) in
    at_has P first last c (five (codes "&#10;") c refl (omega arith)) (five (codes "&#93;") c refl (omega arith))
    (char_has P c (five (codes "&amp;") c refl (omega arith)) (five (codes "&lt;") c refl (omega arith)) (five (codes "&gt;") c refl (omega arith)) (five (codes "&#13;") c refl (omega arith)) (mark_length c)
    (λ _. rw (append-nil (encode_utf8 c)) (omega arith)))

pub from_length : (first : Bool) (cs : List ℕ) → length (encode_utf8_all (escape_from first cs)) ≤ 5 * length (encode_utf8_all cs)
from_length first [] = omega arith
from_length first (c ∷ cs) =
    let front = escape_at first (length cs == 0) c in
    let others = escape_from false cs in
    rw (encodes-append front others) (omega (arith, at_length first (length cs == 0) c, from_length false cs, length-append (encode_utf8_all front) (encode_utf8_all others), length-append (encode_utf8 c) (encode_utf8_all cs)))
