-- An empty value is that of empty CDATA sections alone.
use Rattle.std.proofs.Common.{◌≡◌, ◌∙◌, ◌==◌, ◌↔◌, ℕ, List, [], ◌∷◌, ◌++◌, Bool, true, false, ◌≤◌, ◌+◌, length, length-append, inl, inr, ◌⊎◌, refl, sym, ap, arith, codes, bytes_eq, encode_utf8}
use Rattle.std.proofs.lemmas.Bool.{and_parts}
use Rattle.std.proofs.lemmas.Str.{length-le-encodes}
use Rattle.std.proofs.lemmas.Slice.Eq.{bytes_eq-Decides}
use Rattle.xt_value.specs.Parts.{is_mark}
use Rattle.xt_spec.specs.Markup.{IsSectionOf}
use Rattle.xt_spec.specs.Text.{TextPart, data_part, reference_part, section_part, parts_text, parts_value, AreTextParts, HasTextValue, is_void}
use Rattle.xt_spec.specs.LineEnds.{lines_read, lines_read_behind}
use Rattle.xt_value.proofs.PartLemmas.{reference_begins, section_begins, data_begins, no_data, BeginsPlain}
use Rattle.xt_value.proofs.UniqueLemmas.{section_same}

-- a void text is empty, or begins with an empty section
void_front : (text : List ℕ) → is_void text ≡ true → (text ≡ []) ⊎ ((rest : List ℕ) × (text ≡ codes "<![CDATA[]]>" ++ rest) × (is_void rest ≡ true))
void_front [] is = inl refl
void_front (a ∷ []) is = absurd (cc)
void_front (a ∷ b ∷ []) is = absurd (cc)
void_front (a ∷ b ∷ c ∷ []) is = absurd (cc)
void_front (a ∷ b ∷ c ∷ d ∷ []) is = absurd (cc)
void_front (a ∷ b ∷ c ∷ d ∷ e ∷ []) is = absurd (cc)
void_front (a ∷ b ∷ c ∷ d ∷ e ∷ f ∷ []) is = absurd (cc)
void_front (a ∷ b ∷ c ∷ d ∷ e ∷ f ∷ g ∷ []) is = absurd (cc)
void_front (a ∷ b ∷ c ∷ d ∷ e ∷ f ∷ g ∷ h ∷ []) is = absurd (cc)
void_front (a ∷ b ∷ c ∷ d ∷ e ∷ f ∷ g ∷ h ∷ i ∷ []) is = absurd (cc)
void_front (a ∷ b ∷ c ∷ d ∷ e ∷ f ∷ g ∷ h ∷ i ∷ j ∷ []) is = absurd (cc)
void_front (a ∷ b ∷ c ∷ d ∷ e ∷ f ∷ g ∷ h ∷ i ∷ j ∷ k ∷ []) is = absurd (cc)
void_front (a ∷ b ∷ c ∷ d ∷ e ∷ f ∷ g ∷ h ∷ i ∷ j ∷ k ∷ l ∷ rest) is =
    let both = and_parts (bytes_eq (a ∷ b ∷ c ∷ d ∷ e ∷ f ∷ g ∷ h ∷ i ∷ j ∷ k ∷ l ∷ []) (codes "<![CDATA[]]>")) (is_void rest) is in
    let front : a ∷ b ∷ c ∷ d ∷ e ∷ f ∷ g ∷ h ∷ i ∷ j ∷ k ∷ l ∷ [] ≡ codes "<![CDATA[]]>" = (bytes_eq-Decides _ _).0 both.0 in
    inr (rest, ap (λ (t : List ℕ). t ++ rest) front, both.1)

-- the empty section
empty_section : IsSectionOf (codes "<![CDATA[]]>") []
empty_section = (([], refl, refl), refl, refl)

apart : ◌≡◌ {A = ℕ} 0x26 0x3C → ⊥
apart same = omega (arith, same)

first_byte : (b c : ℕ) (xs ys : List ℕ) → b ∷ xs ≡ c ∷ ys → b ≡ c
first_byte b c xs ys same = cc

marked : (b : ℕ) → b ≡ 0x3C → is_mark b ≡ false → ⊥
marked b is never = let bad : true ≡ false = rw is at never in absurd (cc)

abbrev IsVoidFront : List ℕ → Type 0
IsVoidFront text = (text ≡ []) ⊎ ((rest : List ℕ) × (text ≡ codes "<![CDATA[]]>" ++ rest) × (is_void rest ≡ true))

no_void_data : (text : List ℕ) → BeginsPlain text → IsVoidFront text → ⊥
no_void_data text b (inl none) = let bad = sym none ∙ b.begins in absurd (cc)
no_void_data text b (inr (rest, is, void)) = marked b.first (first_byte b.first 0x3C b.behind (codes "![CDATA[]]>" ++ rest) (sym b.begins ∙ is)) b.plain

no_void_reference : (text behind : List ℕ) → text ≡ 0x26 ∷ behind → IsVoidFront text → ⊥
no_void_reference text behind begins (inl none) = let bad = sym none ∙ begins in absurd (cc)
no_void_reference text behind begins (inr (rest, is, void)) = apart (first_byte 0x26 0x3C behind (codes "![CDATA[]]>" ++ rest) (sym begins ∙ is))

void_value : (list : List TextPart) → AreTextParts list → is_void (parts_text list) ≡ true → parts_value list ≡ []
void_value [] are void = refl
void_value (data_part text ∷ list) are void = absurd (no_void_data (text ++ parts_text list) (data_begins text (parts_text list) are.0) (void_front (text ++ parts_text list) void))
void_value (reference_part text c ∷ list) are void =
    let (behind, begins) = reference_begins text c (parts_text list) are.0 in
    absurd (no_void_reference (text ++ parts_text list) behind begins (void_front (text ++ parts_text list) void))
void_value (section_part text inner ∷ list) are void = by (void_front (text ++ parts_text list) void) (void_value list are.1)
  where
    by : IsVoidFront (text ++ parts_text list) → (is_void (parts_text list) ≡ true → parts_value list ≡ []) → lines_read inner ++ parts_value list ≡ []
    by (inl none) ih = let (behind, begins) = section_begins text inner (parts_text list) are.0 in let bad = sym none ∙ begins in absurd (cc)
    by (inr (rest, is, behind)) ih =
        let same = section_same (text ++ parts_text list) text (codes "<![CDATA[]]>") inner [] (parts_text list) rest are.0 empty_section refl is in
        ap (λ (l : List ℕ). lines_read l ++ parts_value list) same.0 ∙ ih (ap is_void same.1 ∙ behind)

-- the first byte of a text is read as some byte
lines_some : (b : ℕ) (text others : List ℕ) → lines_read (b ∷ text) ++ others ≡ [] → ⊥
lines_some b text others none = by (b == 0xD) refl (b == 0xA) refl
  where
    by : (s : Bool) → s ≡ (b == 0xD) → (t : Bool) → t ≡ (b == 0xA) → ⊥
    by true e t f = let bad : 0xA ∷ (lines_read_behind true text ++ others) ≡ [] = rw (← e) at none in absurd (cc)
    by false e true f = let bad : 0xA ∷ (lines_read_behind false text ++ others) ≡ [] = rw (← e, ← f) at none in absurd (cc)
    by false e false f = let bad : b ∷ (lines_read_behind false text ++ others) ≡ [] = rw (← e, ← f) at none in absurd (cc)

char_some : (c : ℕ) (others : List ℕ) → encode_utf8 c ++ others ≡ [] → ⊥
char_some c others none =
    let most : 1 ≤ length (encode_utf8 c ++ []) = length-le-encodes (c ∷ []) in
    let one : length (encode_utf8 c ++ []) ≡ length (encode_utf8 c) + 0 = length-append (encode_utf8 c) [] in
    let size : length (encode_utf8 c ++ others) ≡ length (encode_utf8 c) + length others = length-append (encode_utf8 c) others in
    let empty : length (encode_utf8 c ++ others) ≡ 0 = ap (λ (l : List ℕ). length l) none in
    omega arith

empty_void : (list : List TextPart) → AreTextParts list → parts_value list ≡ [] → is_void (parts_text list) ≡ true
empty_void [] are none = refl
empty_void (data_part [] ∷ list) are none = absurd (no_data are.0)
empty_void (data_part (b ∷ text) ∷ list) are none = absurd (lines_some b text (parts_value list) none)
empty_void (reference_part text c ∷ list) are none = absurd (char_some c (parts_value list) none)
empty_void (section_part text [] ∷ list) are none =
    let rest : is_void (parts_text list) ≡ true = empty_void list are.1 none in
    ap (λ (l : List ℕ). is_void (l ++ parts_text list)) are.0.2 ∙ rest
empty_void (section_part text (b ∷ inner) ∷ list) are none = absurd (lines_some b inner (parts_value list) none)

pub void_is_empty : (text value : List ℕ) → HasTextValue text value → (is_void text ≡ true) ↔ (value ≡ [])
void_is_empty text value (list, are, spelled, is) = (
  λ void. sym is ∙ void_value list are (ap is_void spelled ∙ void),
  λ none. sym (ap is_void spelled) ∙ empty_void list are (is ∙ none),
)
