-- The parts of an attribute value: which one stands at the front, and what of the value was added.
use Rattle.std.proofs.Common.{not, ◌≡◌, ◌≢◌, ◌∙◌, ℕ, ◌<◌, ◌≤◌, List, [], ◌∷◌, ◌++◌, length, get_or, map, refl, sym, ap, arith, true, false, Bool, codes, inl, inr, encode_utf8, bytes_eq}
use Rattle.std.proofs.lemmas.Bool.{and_parts, cases_lt, not-true}
use Rattle.std.proofs.lemmas.Bool.Decides.{nat_tests}
use Rattle.std.proofs.lemmas.List.Sums.{list_all-from_AllPass}
use Rattle.std.proofs.lemmas.List.Elements.{All-from_get_or}
use Rattle.std.proofs.lemmas.Str.{NoCharPasses-byte}
use Rattle.std.specs.List.{list_all}
use Rattle.std.specs.Str.{NonePass, NoCharPasses}
use Rattle.xt_spec.specs.Name.{IsSpeltBy}
use Rattle.xt_spec.specs.Tag.{IsQuote, is_value_char}
use Rattle.xt_spec.specs.LineEnds.{lines_read}
use Rattle.xt_spec.specs.Value.{ValuePart, characters_part, character_part, value_parts_text, value_of_parts, begins_with_characters, AreValueParts, HasAttributeValue, spaced, tokenized}
use Rattle.xt_spec.specs.Content.{typed}
use Rattle.xt_value.specs.Parts.{is_ampersand, lacks_all, Stops, Adds, HasRawValue, PutsReference, PutsCharacters}
use Rattle.xt_value.proofs.PartLemmas.{reference_begins, add}

-- characters

value_char_lacks : (q c : ℕ) → is_value_char q c ≡ true → is_ampersand c ≡ false
value_char_lacks q c is = not-true (is_ampersand c) (and_parts _ _ (and_parts _ _ is).0).1

chars_pass : (q : ℕ) (cs : List ℕ) → list_all (is_value_char q) cs ≡ true → NonePass is_ampersand cs
chars_pass q [] are = tt
chars_pass q (c ∷ cs) are =
    let both = and_parts (is_value_char q c) (list_all (is_value_char q) cs) are in
    (value_char_lacks q c both.0, chars_pass q cs both.1)

big_lacks : (b : ℕ) → 128 ≤ b → is_ampersand b ≡ false
big_lacks b big = grind (arith, nat_tests)

byte_lacks : (text : List ℕ) (i : ℕ) → NoCharPasses is_ampersand text → i < length text → not (is_ampersand (get_or text i 0)) ≡ true
byte_lacks text i none below =
    elim (cases_lt (get_or text i 0) 128) [
      | inl small ↦ ap not (NoCharPasses-byte is_ampersand text i none below small)
      | inr big ↦ ap not (big_lacks (get_or text i 0) (omega arith))
    ]

-- no `&` is among characters that stand for themselves
pub characters_lack : (q : ℕ) (text : List ℕ) → IsSpeltBy (λ cs. list_all (is_value_char q) cs) text → lacks_all is_ampersand text ≡ true
characters_lack q text (cs, spelled, are) =
    let none : NoCharPasses is_ampersand text = (cs, spelled, chars_pass q cs are) in
    list_all-from_AllPass (λ b. not (is_ampersand b)) text (All-from_get_or (λ b. not (is_ampersand b) ≡ true) text 0 (λ i below. byte_lacks text i none below))

from_not : (b : Bool) → not b ≡ true → b ≡ false
from_not true is = let bad : false ≡ true = is in absurd (cc)
from_not false is = refl

pub first_lacks : (b : ℕ) (front : List ℕ) → lacks_all is_ampersand (b ∷ front) ≡ true → is_ampersand b ≡ false
first_lacks b front lacks = from_not (is_ampersand b) (and_parts _ _ lacks).0

pub value_parts_stop : (q : ℕ) (parts : List ValuePart) → AreValueParts q parts → begins_with_characters parts ≡ false → Stops is_ampersand (value_parts_text parts)
value_parts_stop q [] are apart = inl refl
value_parts_stop q (characters_part text ∷ parts) are apart = absurd (cc)
value_parts_stop q (character_part text c ∷ parts) are apart =
    let (behind, begins) = reference_begins text c (value_parts_text parts) are.0 in
    inr (0x26, behind, begins, refl)

both : (b : ℕ) → is_ampersand b ≡ true → is_ampersand b ≡ false → ⊥
both b is never = let bad = sym is ∙ never in absurd (cc)

first_same : (b c : ℕ) (xs ys : List ℕ) → b ∷ xs ≡ c ∷ ys → b ≡ c
first_same b c xs ys same = cc

-- what begins with `&` begins with a reference
pub reference_adds : (q : ℕ) (text rest old new behind : List ℕ) → text ≡ 0x26 ∷ behind → PutsReference text rest old new → Adds (HasRawValue q) text rest old new
reference_adds q text rest old new behind begins puts value (parts, are, spell, value_is) = by parts are spell value_is
  where
    by : (parts : List ValuePart) → AreValueParts q parts → value_parts_text parts ≡ text → value_of_parts parts ≡ value → (others : List ℕ) × HasRawValue q rest others × (old ++ value ≡ new ++ others)
    by [] are spell value_is = let bad = spell ∙ begins in absurd (cc)
    by (characters_part [] ∷ parts) are spell value_is = absurd (are.1 refl)
    by (characters_part (b ∷ front) ∷ parts) are spell value_is =
        let same : b ≡ 0x26 = first_same b 0x26 (front ++ value_parts_text parts) behind (spell ∙ begins) in
        absurd (both b (ap is_ampersand same) (first_lacks b front (characters_lack q (b ∷ front) are.0)))
    by (character_part reference c ∷ parts) are spell value_is =
        let put = puts reference (value_parts_text parts) c are.0 (sym spell) in
        (value_of_parts parts, (parts, are.1, sym put.0, refl), ap (λ (l : List ℕ). old ++ l) (sym value_is) ∙ add old (encode_utf8 c) (value_of_parts parts) new put.1)

-- .. with another byte, characters, which go on to the next `&`
pub characters_add : (q : ℕ) (text rest old new : List ℕ) (b : ℕ) (behind : List ℕ) → text ≡ b ∷ behind → is_ampersand b ≡ false → PutsCharacters text rest old new → Adds (HasRawValue q) text rest old new
characters_add q text rest old new b behind begins plain puts value (parts, are, spell, value_is) = by parts are spell value_is
  where
    by : (parts : List ValuePart) → AreValueParts q parts → value_parts_text parts ≡ text → value_of_parts parts ≡ value → (others : List ℕ) × HasRawValue q rest others × (old ++ value ≡ new ++ others)
    by [] are spell value_is = let bad = spell ∙ begins in absurd (cc)
    by (characters_part front ∷ parts) are spell value_is =
        let put = puts front (value_parts_text parts) (characters_lack q front are.0) (value_parts_stop q parts are.3 are.2) (sym spell) in
        (value_of_parts parts, (parts, are.3, sym put.0, refl), ap (λ (l : List ℕ). old ++ l) (sym value_is) ∙ add old (map spaced (lines_read front)) (value_of_parts parts) new put.1)
    by (character_part reference c ∷ parts) are spell value_is =
        let (others, starts) = reference_begins reference c (value_parts_text parts) are.0 in
        let same : b ≡ 0x26 = first_same b 0x26 behind others (sym begins ∙ sym spell ∙ starts) in
        absurd (both b (ap is_ampersand same) plain)

pub no_ampersand : (b : ℕ) → b ≢ 0x26 → is_ampersand b ≡ false
no_ampersand b is = grind (arith, nat_tests)

-- nothing has no value but the empty one
pub raw_end : (q : ℕ) (value : List ℕ) → HasRawValue q [] value → value ≡ []
raw_end q value (parts, are, spell, is) = sym is ∙ by parts are spell
  where
    by : (parts : List ValuePart) → AreValueParts q parts → value_parts_text parts ≡ [] → value_of_parts parts ≡ []
    by [] are spell = refl
    by (characters_part [] ∷ parts) are spell = absurd (are.1 refl)
    by (characters_part (b ∷ text) ∷ parts) are spell = absurd (cc)
    by (character_part text c ∷ parts) are spell =
        let (behind, begins) = reference_begins text c (value_parts_text parts) are.0 in
        let bad = sym spell ∙ begins in
        absurd (cc)

-- the value of the raw text is that of what stands between the quotes
abbrev pub IsRawValue : List ℕ → List ℕ → Type 0
IsRawValue raw out = (q : ℕ) (value : List ℕ) → HasRawValue q raw value → value ≡ out

abbrev pub Unquotes : List ℕ → List ℕ → Type 0
Unquotes quoted inner = (q : ℕ) (raw : List ℕ) → IsQuote q → quoted ≡ (q ∷ raw) ++ q ∷ [] → inner ≡ raw

pub quoted_value : (quoted inner out : List ℕ) → Unquotes quoted inner → IsRawValue inner out → (other : List ℕ) → HasAttributeValue quoted other → other ≡ out
quoted_value quoted inner out unquotes is other (q, parts, quote, are, spelled, value_is) =
    let raw = unquotes q (value_parts_text parts) quote spelled in
    is q other (parts, are, sym raw, sym value_is)

pub typed_id : (name value : List ℕ) → bytes_eq name (codes "xml:id") ≡ true → typed name value ≡ tokenized value
typed_id name value is = rw is refl

pub typed_cdata : (name value : List ℕ) → bytes_eq name (codes "xml:id") ≡ false → typed name value ≡ value
typed_cdata name value is = rw is refl
