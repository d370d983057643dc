-- A text item and an attribute have one value.
use Rattle.std.proofs.Common.{◌≡◌, ◌∙◌, ℕ, Bool, List, [], ◌∷◌, ◌++◌, true, map, inr, refl, sym, ap, subst, codes, append_assoc, encode_utf8}
use Rattle.std.proofs.lemmas.List.{append_cancel_left, append_cancel_right}
use Rattle.xt_spec.specs.Reference.{StandsFor}
use Rattle.xt_spec.specs.Markup.{IsSectionOf}
use Rattle.xt_spec.specs.Text.{TextPart, data_part, reference_part, section_part, parts_text, characters_in, parts_value_in, AreTextParts, HasValueIn}
use Rattle.xt_spec.specs.LineEnds.{lines_read}
use Rattle.xt_spec.specs.Value.{ValuePart, characters_part, character_part, value_parts_text, value_of_parts, AreValueParts, HasAttributeValue, spaced}
use Rattle.xt_lex.proofs.Theorems.{stands_unique}
use Rattle.xt_value.specs.Parts.{is_mark, is_ampersand, is_semicolon, lacks_all, Stops, HasRawValue, PutsReference, PutsSection, PutsData, PutsCharacters}
use Rattle.xt_value.proofs.Searches.{cut_unique}
use Rattle.xt_value.proofs.Sections.{section_cut, section_begins}
use Rattle.xt_value.proofs.References.{wrapped}
use Rattle.xt_value.proofs.PartLemmas as parts
use Rattle.xt_value.proofs.PartLemmas.{data_lacks, data_begins, parts_stop, reference_begins}
use Rattle.xt_value.proofs.ValueLemmas as values
use Rattle.xt_value.proofs.ValueLemmas.{characters_lack, value_parts_stop, first_lacks}

-- the part at the front is the only one

reference_same : (x y r s : List ℕ) (c d : ℕ) → StandsFor x c → StandsFor y d → x ++ r ≡ y ++ s → (x ≡ y) × (r ≡ s)
reference_same x y r s c d first second same =
    let (left, left_lacks, left_is) = wrapped x c first in
    let (right, right_lacks, right_is) = wrapped y d second in
    let whole : (0x26 ∷ left) ++ (0x3B ∷ r) ≡ (0x26 ∷ right) ++ (0x3B ∷ s) =
    sym (append_assoc (0x26 ∷ left) (0x3B ∷ []) r) ∙ ap (λ (l : List ℕ). l ++ r) (sym left_is) ∙ same ∙ ap (λ (l : List ℕ). l ++ s) right_is ∙ append_assoc (0x26 ∷ right) (0x3B ∷ []) s in
    let bodies = cut_unique is_semicolon (0x26 ∷ left) (0x26 ∷ right) (0x3B ∷ r) (0x3B ∷ s) left_lacks right_lacks (inr (0x3B, r, refl, refl)) (inr (0x3B, s, refl, refl)) whole in
    let fronts : x ≡ y = left_is ∙ ap (λ (l : List ℕ). l ++ 0x3B ∷ []) bodies.0 ∙ sym right_is in
    (fronts, append_cancel_left x r s (same ∙ ap (λ (l : List ℕ). l ++ s) (sym fronts)))

puts_reference : (reference rest : List ℕ) (c : ℕ) → StandsFor reference c → PutsReference (reference ++ rest) rest [] (encode_utf8 c)
puts_reference reference rest c stands other behind d is same =
    let fronts = reference_same reference other rest behind c d stands is same in
    (fronts.1, ap encode_utf8 (stands_unique other c d (subst (λ (l : List ℕ). StandsFor l c) fronts.0 stands) is))

puts_data : (inner : Bool) (front rest : List ℕ) → lacks_all is_mark front ≡ true → Stops is_mark rest → PutsData inner (front ++ rest) rest [] (characters_in inner front)
puts_data inner front rest lacks stops other behind lack stop same =
    let fronts = cut_unique is_mark front other rest behind lacks lack stops stop same in
    (fronts.1, ap (characters_in inner) fronts.0)

puts_characters : (front rest : List ℕ) → lacks_all is_ampersand front ≡ true → Stops is_ampersand rest → PutsCharacters (front ++ rest) rest [] (map spaced (lines_read front))
puts_characters front rest lacks stops other behind lack stop same =
    let fronts = cut_unique is_ampersand front other rest behind lacks lack stops stop same in
    (fronts.1, ap (λ (l : List ℕ). map spaced (lines_read l)) fronts.0)

pub section_same : (text x y i j r s : List ℕ) → IsSectionOf x i → IsSectionOf y j → text ≡ x ++ r → text ≡ y ++ s → (i ≡ j) × (r ≡ s)
section_same text x y i j r s first second left right =
    let begins = section_begins text x i r first left in
    let body = i ++ (codes "]]>" ++ r) in
    let one = section_cut text x i r body first left begins in
    let two = section_cut text y j s body second right begins in
    let both = sym one ∙ two in
    let same : ◌≡◌ {A = List ℕ × List ℕ} (i, r) (j, s) = cc in
    (ap (λ p. p.0) same, ap (λ p. p.1) same)

puts_section : (inner : Bool) (section content rest : List ℕ) → IsSectionOf section content → PutsSection inner (section ++ rest) rest [] (characters_in inner content)
puts_section inner section content rest is other characters behind also same =
    let fronts = section_same (section ++ rest) section other content characters rest behind is also refl same in
    (fronts.1, ap (characters_in inner) fronts.0)

-- so parts have one value

parts_value_is : (inner : Bool) (list : List TextPart) → AreTextParts list → (value : List ℕ) → HasValueIn inner (parts_text list) value → value ≡ parts_value_in inner list
parts_value_is inner [] are value has = parts.value_end inner value has
parts_value_is inner (data_part text ∷ list) are value has =
    let b = data_begins text (parts_text list) are.0 in
    let puts = puts_data inner text (parts_text list) (data_lacks text are.0) (parts_stop list are.2 are.1) in
    let (others, has_others, is) = parts.data_adds inner (text ++ parts_text list) (parts_text list) [] (characters_in inner text) b.first b.behind b.begins b.plain puts value has in
    is ∙ ap (λ (l : List ℕ). characters_in inner text ++ l) (parts_value_is inner list are.2 others has_others)
parts_value_is inner (reference_part text c ∷ list) are value has =
    let (behind, begins) = reference_begins text c (parts_text list) are.0 in
    let (others, has_others, is) = parts.reference_adds inner (text ++ parts_text list) (parts_text list) [] (encode_utf8 c) behind begins (puts_reference text (parts_text list) c are.0) value has in
    is ∙ ap (λ (l : List ℕ). encode_utf8 c ++ l) (parts_value_is inner list are.1 others has_others)
parts_value_is inner (section_part text content ∷ list) are value has =
    let (behind, begins) = parts.section_begins text content (parts_text list) are.0 in
    let (others, has_others, is) = parts.section_adds inner (text ++ parts_text list) (parts_text list) [] (characters_in inner content) behind begins (puts_section inner text content (parts_text list) are.0) value has in
    is ∙ ap (λ (l : List ℕ). characters_in inner content ++ l) (parts_value_is inner list are.1 others has_others)

pub text_value_unique : (inner : Bool) (text a b : List ℕ) → HasValueIn inner text a → HasValueIn inner text b → a ≡ b
text_value_unique inner text a b (list, are, spelled, is) has =
    sym (parts_value_is inner list are b (subst (λ (l : List ℕ). HasValueIn inner l b) (sym spelled) has) ∙ is)

raw_value_is : (q : ℕ) (list : List ValuePart) → AreValueParts q list → (value : List ℕ) → HasRawValue q (value_parts_text list) value → value ≡ value_of_parts list
raw_value_is q [] are value has = values.raw_end q value has
raw_value_is q (characters_part [] ∷ list) are value has = absurd (are.1 refl)
raw_value_is q (characters_part (b ∷ text) ∷ list) are value has =
    let lacks = characters_lack q (b ∷ text) are.0 in
    let puts = puts_characters (b ∷ text) (value_parts_text list) lacks (value_parts_stop q list are.3 are.2) in
    let (others, has_others, is) = values.characters_add q ((b ∷ text) ++ value_parts_text list) (value_parts_text list) [] (map spaced (lines_read (b ∷ text))) b (text ++ value_parts_text list) refl (first_lacks b text lacks) puts value has in
    is ∙ ap (λ (l : List ℕ). map spaced (lines_read (b ∷ text)) ++ l) (raw_value_is q list are.3 others has_others)
raw_value_is q (character_part text c ∷ list) are value has =
    let (behind, begins) = reference_begins text c (value_parts_text list) are.0 in
    let (others, has_others, is) = values.reference_adds q (text ++ value_parts_text list) (value_parts_text list) [] (encode_utf8 c) behind begins (puts_reference text (value_parts_text list) c are.0) value has in
    is ∙ ap (λ (l : List ℕ). encode_utf8 c ++ l) (raw_value_is q list are.1 others has_others)

first_byte : (b c : ℕ) (xs ys : List ℕ) → b ∷ xs ≡ c ∷ ys → (b ≡ c) × (xs ≡ ys)
first_byte b c xs ys same = (cc, cc)

pub attribute_value_unique : (quoted a b : List ℕ) → HasAttributeValue quoted a → HasAttributeValue quoted b → a ≡ b
attribute_value_unique quoted a b (q, list, quote, are, spelled, is) (p, others, other_quote, other_are, other_spelled, other_is) =
    let both = first_byte q p (value_parts_text list ++ q ∷ []) (value_parts_text others ++ p ∷ []) (sym spelled ∙ other_spelled) in
    let ends : value_parts_text list ++ q ∷ [] ≡ value_parts_text others ++ q ∷ [] = both.1 ∙ ap (λ (n : ℕ). value_parts_text others ++ n ∷ []) (sym both.0) in
    let raw : value_parts_text others ≡ value_parts_text list = sym (append_cancel_right (value_parts_text list) (value_parts_text others) (q ∷ []) ends) in
    let has : HasRawValue q (value_parts_text list) b = (others, subst (λ (n : ℕ). AreValueParts n others) (sym both.0) other_are, raw, sym other_is) in
    is ∙ sym (raw_value_is q list are b has)
