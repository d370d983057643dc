-- A text item is void exactly where its value is empty.
use Rattle.std.proofs.Common.{◌≡◌, ◌∙◌, ◌++◌, ◌==◌, ◌↔◌, ℕ, List, [], ◌∷◌, length, refl, sym, ap, ap₂, arith, true, false, inl, inr, codes, bytes_eq, encode_utf8}
use Rattle.std.proofs.lemmas.Bool.{and_parts, cases_Bool}
use Rattle.std.specs.Cmp.Lexicographic.{bytes_decides}
use Rattle.xt_spec.specs.LineEnds.{lines_read, lines_read_behind}
use Rattle.xt_spec.specs.Markup.{IsSectionOf}
use Rattle.xt_spec.specs.Token.{char_data}
use Rattle.xt_spec.specs.Text.{TextPart, data_part, reference_part, section_part, parts_text, parts_value, AreTextParts, HasTextValue, is_void}
use Rattle.xt_lex.proofs.Theorems.{front_some, token_longest}
use Rattle.ed_laws.proofs.Values.{encode_some, one_value}

lines_some : (bytes : List ℕ) → lines_read bytes ≡ [] → bytes ≡ []
lines_some [] none = refl
lines_some (b ∷ bytes) none = elim (cases_Bool (b == 0xD)) [
  | inl e ↦ let bad : 0xA ∷ lines_read_behind true bytes ≡ [] = rw e at none in absurd (cc)
  | inr e ↦ elim (cases_Bool (b == 0xA)) [
    | inl f ↦ let bad : 0xA ∷ lines_read_behind false bytes ≡ [] = rw (e, f) at none in absurd (cc)
    | inr f ↦ let bad : b ∷ lines_read_behind false bytes ≡ [] = rw (e, f) at none in absurd (cc)
  ]
]

front_none : (xs ys : List ℕ) → xs ++ ys ≡ [] → xs ≡ []
front_none [] ys none = refl
front_none (x ∷ xs) ys none = absurd (cc)

back_none : (xs ys : List ℕ) → xs ++ ys ≡ [] → ys ≡ []
back_none [] ys none = none
back_none (x ∷ xs) ys none = absurd (cc)

empty_section : (text content rest : List ℕ) → IsSectionOf text content → content ≡ [] → is_void rest ≡ true → is_void (text ++ rest) ≡ true
empty_section text content rest section none is =
    let spelled : text ≡ codes "<![CDATA[]]>" = section.2 ∙ ap (λ (l : List ℕ). codes "<![CDATA[" ++ l ++ codes "]]>") none in
    rw spelled is

-- parts that count nothing are empty sections
none_void : (parts : List TextPart) → AreTextParts parts → parts_value parts ≡ [] → is_void (parts_text parts) ≡ true
none_void [] are none = refl
none_void (data_part text ∷ parts) are none =
    let empty : text ≡ [] = lines_some text (front_none (lines_read text) (parts_value parts) none) in
    let size = ap length empty in
    absurd (omega (arith, size, front_some (text ++ []) char_data (length text) (token_longest char_data text [] are.0 (λ _. tt)).front))
none_void (reference_part text c ∷ parts) are none = absurd (encode_some c (front_none (encode_utf8 c) (parts_value parts) none))
none_void (section_part text content ∷ parts) are none =
    empty_section text content (parts_text parts) are.0 (lines_some content (front_none (lines_read content) (parts_value parts) none)) (none_void parts are.1 (back_none (lines_read content) (parts_value parts) none))

-- .. and empty sections count nothing
void_none : (text : List ℕ) → is_void text ≡ true → HasTextValue text []
void_none [] is = ([], tt, refl, refl)
void_none (a ∷ b ∷ c ∷ d ∷ e ∷ f ∷ g ∷ h ∷ i ∷ j ∷ k ∷ l ∷ rest) is =
    let front = a ∷ b ∷ c ∷ d ∷ e ∷ f ∷ g ∷ h ∷ i ∷ j ∷ k ∷ l ∷ [] in
    let both = and_parts (bytes_eq front (codes "<![CDATA[]]>")) (is_void rest) is in
    let (parts, are, spell, value) = void_none rest both.1 in
    let first : front ≡ codes "<![CDATA[]]>" = (bytes_decides front (codes "<![CDATA[]]>")).0 both.0 in
    (section_part (codes "<![CDATA[]]>") [] ∷ parts, ((([], refl, refl), refl, refl), are), ap₂ (λ (x y : List ℕ). x ++ y) (sym first) spell, value)
void_none (a ∷ []) is = absurd (cc)
void_none (a ∷ b ∷ []) is = absurd (cc)
void_none (a ∷ b ∷ c ∷ []) is = absurd (cc)
void_none (a ∷ b ∷ c ∷ d ∷ []) is = absurd (cc)
void_none (a ∷ b ∷ c ∷ d ∷ e ∷ []) is = absurd (cc)
void_none (a ∷ b ∷ c ∷ d ∷ e ∷ f ∷ []) is = absurd (cc)
void_none (a ∷ b ∷ c ∷ d ∷ e ∷ f ∷ g ∷ []) is = absurd (cc)
void_none (a ∷ b ∷ c ∷ d ∷ e ∷ f ∷ g ∷ h ∷ []) is = absurd (cc)
void_none (a ∷ b ∷ c ∷ d ∷ e ∷ f ∷ g ∷ h ∷ i ∷ []) is = absurd (cc)
void_none (a ∷ b ∷ c ∷ d ∷ e ∷ f ∷ g ∷ h ∷ i ∷ j ∷ []) is = absurd (cc)
void_none (a ∷ b ∷ c ∷ d ∷ e ∷ f ∷ g ∷ h ∷ i ∷ j ∷ k ∷ []) is = absurd (cc)

-- a text item is void exactly where its value is empty
pub void_value : (text value : List ℕ) → HasTextValue text value → (is_void text ≡ true) ↔ (value ≡ [])
void_value text value has = ((λ is. one_value text value [] has (void_none text is)), (λ none. is_void_of value has none))
  where
    is_void_of : (value : List ℕ) → HasTextValue text value → value ≡ [] → is_void text ≡ true
    is_void_of value (parts, are, spell, is) none = ap is_void (sym spell) ∙ none_void parts are (is ∙ none)

pub some_not_void : (text value : List ℕ) (b : ℕ) → HasTextValue text (b ∷ value) → is_void text ≡ false
some_not_void text value b has = elim (cases_Bool (is_void text)) [
  | inl e ↦ let none : b ∷ value ≡ [] = (void_value text (b ∷ value) has).0 e in absurd (cc)
  | inr e ↦ e
]
