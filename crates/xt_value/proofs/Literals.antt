-- A text that has a value as an attribute's is [10] AttValue: the two definitions of what stands between the quotes agree
-- where both speak.
use Rattle.std.proofs.Common.{◌≡◌, ◌∙◌, ℕ, true, List, [], ◌∷◌, ◌++◌, refl, sym, ap, subst, inl, inr, encode_utf8, encode_utf8_all}
use Rattle.std.proofs.lemmas.Bool.{and_parts}
use Rattle.std.proofs.lemmas.List.Folds.{concat-append}
use Rattle.std.specs.List.{AllByRecursion, list_all, concat}
use Rattle.xt_spec.specs.Reference.{StandsFor}
use Rattle.xt_spec.specs.Tag.{is_value_char, IsReference, IsValuePart, IsAttValue}
use Rattle.xt_spec.specs.Value.{ValuePart, characters_part, character_part, value_parts_text, AreValueParts, HasAttributeValue}
use Rattle.xt_lex.proofs.Theorems.{stands_spells}

-- characters and references that together are the text
abbrev Singles : ℕ → List ℕ → Type 0
Singles q text = (singles : List (List ℕ)) × AllByRecursion (IsValuePart q) singles × (concat singles ≡ text)

all-append : (q : ℕ) (singles others : List (List ℕ)) → AllByRecursion (IsValuePart q) singles → AllByRecursion (IsValuePart q) others → AllByRecursion (IsValuePart q) (singles ++ others)
all-append q [] others are more = more
all-append q (single ∷ singles) others are more = (are.0, all-append q singles others are.1 more)

singles-append : (q : ℕ) (text behind : List ℕ) → Singles q text → Singles q behind → Singles q (text ++ behind)
singles-append q text behind (singles, are, is) (others, more, same) =
    (singles ++ others, all-append q singles others are more, concat-append singles others ∙ ap (λ t. t ++ concat others) is ∙ ap (λ t. text ++ t) same)

characters_single : (q : ℕ) (cs : List ℕ) → list_all (is_value_char q) cs ≡ true → Singles q (encode_utf8_all cs)
characters_single q [] all = ([], tt, refl)
characters_single q (c ∷ cs) all =
    let parts = and_parts (is_value_char q c) (list_all (is_value_char q) cs) all in
    let (singles, are, is) = characters_single q cs parts.1 in
    (encode_utf8 c ∷ singles, (inl (c, parts.0, refl), are), ap (λ t. encode_utf8 c ++ t) is)

reference_stands : (text : List ℕ) (c : ℕ) → StandsFor text c → IsReference text
reference_stands text c stands = elim (stands_spells text c stands) [ inl named ↦ inl named | inr entity ↦ inr entity ]

parts_single : (q : ℕ) (parts : List ValuePart) → AreValueParts q parts → Singles q (value_parts_text parts)
parts_single q [] are = ([], tt, refl)
parts_single q (characters_part text ∷ parts) ((cs, spelled, all), some, apart, are) =
    singles-append q text (value_parts_text parts) (subst (Singles q) spelled (characters_single q cs all)) (parts_single q parts are)
parts_single q (character_part text c ∷ parts) (stands, are) =
    let (singles, others, is) = parts_single q parts are in
    (text ∷ singles, (inr (reference_stands text c stands), others), ap (λ t. text ++ t) is)

pub has_value-is_literal : (quoted value : List ℕ) → HasAttributeValue quoted value → IsAttValue quoted
has_value-is_literal quoted value (q, parts, quote, are, spelled, is) =
    let (singles, all, same) = parts_single q parts are in
    (q, singles, quote, all, spelled ∙ ap (λ t. (q ∷ t) ++ q ∷ []) (sym same))
