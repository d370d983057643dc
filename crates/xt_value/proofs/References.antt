-- A reference at the front of a text ends at the first `;`.
use Rattle.std.proofs.Common.{◌≡◌, ◌∙◌, ℕ, List, [], ◌∷◌, ◌++◌, not, true, Bool, codes, inl, inr, refl, sym, ap, subst, arith, append_assoc, encode_utf8}
use Rattle.std.proofs.lemmas.Bool.{and_parts, and_from}
use Rattle.std.proofs.lemmas.Bool.Decides.{nat_tests}
use Rattle.std.specs.List.{list_all}
use Rattle.xt_spec.specs.Reference.{StandsFor, is_decimal_digit, is_hexadecimal_digit}
use Rattle.xt_lex.proofs.Theorems.{stands_unique}
use Rattle.xt_value.specs.Parts.{is_semicolon, lacks_all, PutsReference}

digit_is_no_semicolon : (b : ℕ) → is_decimal_digit b ≡ true → not (is_semicolon b) ≡ true
digit_is_no_semicolon b is = grind (arith, nat_tests)

hexadecimal_is_no_semicolon : (b : ℕ) → is_hexadecimal_digit b ≡ true → not (is_semicolon b) ≡ true
hexadecimal_is_no_semicolon b is = grind (arith, nat_tests)

all_weaker : (p q : ℕ → Bool) → ((b : ℕ) → p b ≡ true → q b ≡ true) → (xs : List ℕ) → list_all p xs ≡ true → list_all q xs ≡ true
all_weaker p q weaker [] are = refl
all_weaker p q weaker (x ∷ xs) are =
    let both = and_parts (p x) (list_all p xs) are in
    and_from (q x) (list_all q xs) (weaker x both.0) (all_weaker p q weaker xs both.1)

-- a reference is `&`, what has no `;`, and `;`
pub wrapped : (text : List ℕ) (c : ℕ) → StandsFor text c → (body : List ℕ) × (lacks_all is_semicolon body ≡ true) × (text ≡ 0x26 ∷ (body ++ 0x3B ∷ []))
wrapped text c (inl (is, inl (digits, are, e))) = (0x23 ∷ digits, all_weaker is_decimal_digit (λ b. not (is_semicolon b)) digit_is_no_semicolon digits are.all, e)
wrapped text c (inl (is, inr (digits, are, e))) = (0x23 ∷ 0x78 ∷ digits, all_weaker is_hexadecimal_digit (λ b. not (is_semicolon b)) hexadecimal_is_no_semicolon digits are.all, e)
wrapped text c (inr (inl (e, is))) = (codes "lt", refl, e)
wrapped text c (inr (inr (inl (e, is)))) = (codes "gt", refl, e)
wrapped text c (inr (inr (inr (inl (e, is))))) = (codes "amp", refl, e)
wrapped text c (inr (inr (inr (inr (inl (e, is)))))) = (codes "apos", refl, e)
wrapped text c (inr (inr (inr (inr (inr (e, is)))))) = (codes "quot", refl, e)

-- what a cut behind the first `;` gives
abbrev pub CutsReference : List ℕ → List ℕ → List ℕ → Type 0
CutsReference text reference rest = (front behind : List ℕ) → lacks_all is_semicolon front ≡ true → text ≡ front ++ 0x3B ∷ behind → (reference ≡ front ++ 0x3B ∷ []) × (rest ≡ behind)

pub reference_cut : (text piece rest reference behind : List ℕ) (c : ℕ) → CutsReference text piece rest → StandsFor reference c → text ≡ reference ++ behind → (piece ≡ reference) × (rest ≡ behind)
reference_cut text piece rest reference behind c cuts stands is =
    let (body, none, shape) = wrapped reference c stands in
    let split : text ≡ (0x26 ∷ body) ++ 0x3B ∷ behind = is ∙ ap (λ (l : List ℕ). l ++ behind) shape ∙ append_assoc (0x26 ∷ body) (0x3B ∷ []) behind in
    let cut = cuts (0x26 ∷ body) behind none split in
    (cut.0 ∙ sym shape, cut.1)

pub puts_char : (text piece rest old new : List ℕ) (d : ℕ) → CutsReference text piece rest → StandsFor piece d → new ≡ old ++ encode_utf8 d → PutsReference text rest old new
puts_char text piece rest old new d cuts found is reference behind c stands spelled =
    let cut = reference_cut text piece rest reference behind c cuts stands spelled in
    let same : d ≡ c = stands_unique reference d c (subst (λ (l : List ℕ). StandsFor l d) cut.0 found) stands in
    (cut.1, is ∙ ap (λ (n : ℕ). old ++ encode_utf8 n) same)

pub puts_none : (text piece rest old new : List ℕ) → CutsReference text piece rest → ((c : ℕ) → ¬ StandsFor piece c) → PutsReference text rest old new
puts_none text piece rest old new cuts never reference behind c stands spelled =
    let cut = reference_cut text piece rest reference behind c cuts stands spelled in
    absurd (never c (subst (λ (l : List ℕ). StandsFor l c) (sym cut.0) stands))
