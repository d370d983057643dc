-- Tokens and text items are not empty, and are UTF-8, so where one stands in a text no character is cut.
use Rattle.std.proofs.Common.{ℕ, ◌<◌, List, [], ◌∷◌, ◌++◌, length, refl, ap, subst, arith, length-append, inl, inr}
use Rattle.std.proofs.lemmas.Str.{IsUtf8-append, IsUtf8-nil}
use Rattle.std.specs.Str.{IsUtf8}
use Rattle.xt_spec.specs.Token.{TokenKind, char_data, char_ref, entity_ref, cdata_section, Spells}
use Rattle.xt_spec.specs.Markup.{IsSectionOf}
use Rattle.xt_spec.specs.Text.{TextPart, data_part, reference_part, section_part, part_text, parts_text, AreTextParts, IsTextItem}
use Rattle.xt_lex.proofs.Theorems.{token_longest, front_some, spells_utf8, stands_spells}

-- a token takes at least one byte
pub token_some : (kind : TokenKind) (text : List ℕ) → Spells kind text → 0 < length text
token_some kind text spells = front_some (text ++ []) kind (length text) (token_longest kind text [] spells (λ _. tt)).front

section_spells : (text content : List ℕ) → IsSectionOf text content → Spells cdata_section text
section_spells text content is = (content, is)

parts_utf8 : (parts : List TextPart) → AreTextParts parts → IsUtf8 (parts_text parts)
parts_utf8 [] are = IsUtf8-nil
parts_utf8 (data_part text ∷ parts) are = IsUtf8-append text (parts_text parts) (spells_utf8 char_data text are.0) (parts_utf8 parts are.2)
parts_utf8 (reference_part text c ∷ parts) are =
    let one : IsUtf8 text = elim (stands_spells text c are.0) [ inl s ↦ spells_utf8 char_ref text s | inr s ↦ spells_utf8 entity_ref text s ] in
    IsUtf8-append text (parts_text parts) one (parts_utf8 parts are.1)
parts_utf8 (section_part text content ∷ parts) are =
    IsUtf8-append text (parts_text parts) (spells_utf8 cdata_section text (section_spells text content are.0)) (parts_utf8 parts are.1)

part_some : (part : TextPart) (parts : List TextPart) → AreTextParts (part ∷ parts) → 0 < length (part_text part)
part_some (data_part text) parts are = token_some char_data text are.0
part_some (reference_part text c) parts are = elim (stands_spells text c are.0) [ inl s ↦ token_some char_ref text s | inr s ↦ token_some entity_ref text s ]
part_some (section_part text content) parts are = token_some cdata_section text (section_spells text content are.0)

pub text_item_utf8 : (text : List ℕ) → IsTextItem text → IsUtf8 text
text_item_utf8 text (parts, are, some, spell) = subst IsUtf8 spell (parts_utf8 parts are)

pub text_item_some : (text : List ℕ) → IsTextItem text → 0 < length text
text_item_some text ([], are, some, spell) = absurd (some refl)
text_item_some text (part ∷ parts, are, some, spell) = omega (arith, part_some part parts are, ap length spell, length-append (part_text part) (parts_text parts))
