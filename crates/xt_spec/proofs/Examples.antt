-- The definitions, computed on right and on wrong cases.
use Rattle.std.proofs.Common.{◌≡◌, ◌∙◌, refl, sym, ap, ap₂, subst, subst₂, ℕ, zero, suc, ◌+◌, ◌≤◌, List, [], ◌∷◌, ◌++◌, codes, get_or, length, take, drop, drop_of_length-le, Bool, true, false, bytes_eq, Option, Some, None, inl, inr, encode_utf8_all, append_assoc, eqb, eq-eqb, arith}
use Rattle.std.proofs.lemmas.Bool.{and_parts}
use Rattle.std.proofs.lemmas.List.{append_cancel_right, length-drop}
use Rattle.std.proofs.lemmas.Str.{encodes_same, encode_same, encodes-append}
use Rattle.std.proofs.Math.Utf8.{encode}
use Rattle.std.specs.List.{concat, list_all}
use Rattle.xt_spec.specs.Char.{is_char, is_space, is_name_start_char, is_name_char}
use Rattle.xt_spec.specs.Name.{are_name_chars, are_ncname_chars, IsSpeltBy, IsName, IsNCName, IsQName}
use Rattle.xt_spec.specs.Reference.{is_decimal_digit, number_behind, AreDigits, NamesChar, IsEntityRef, IsPredefined, StandsFor}
use Rattle.xt_spec.specs.Tag.{IsSpace, is_value_char, IsValuePart, IsAttValue, Attribute, IsAttribute, IsTag, IsEndTag}
use Rattle.xt_spec.specs.Declaration.{Declaration, IsDeclarationOf}
use Rattle.xt_spec.specs.Doctype.{is_pubid_char, IsSystemLiteral, IsPubidLiteral, IsExternalId, IsDoctype}
use Rattle.xt_spec.specs.Markup.{lacks, IsCDataSection, IsComment, IsPiTarget, IsPiOf, IsCommentOf}
use Rattle.xt_spec.specs.Token.{Spells, start_tag, empty_tag, end_tag, char_data, HoldsNoClose, MayStand}
use Rattle.xt_spec.specs.Tree.{Items, nil, element, leaf, text_item, reference_item, comment_item, pi_item, gap, leaf_item, source_text}
use Rattle.xt_spec.specs.Reading.{are_distinct, mark, document, entity, fragment, Closes, IsElementAt, IsOneText, IsReading}
use Rattle.xt_spec.specs.Front.{IsBody, form_of, NoDeclared, BeginsBody}
use Rattle.xt_spec.specs.FirstFault as first
use Rattle.xt_spec.specs.FirstFault.{not_well_formed, open_behind, begins_too_deep, no_tokens, IsFrontOf, IsStopped, no_token, misplaced, too_early, IsFirstFault}
use Rattle.xt_spec.specs.Escape.{escape_text}
use Rattle.xt_spec.specs.Paths.{item_at}
use Rattle.xt_spec.specs.LineEnds.{lines_read}
use Rattle.xt_spec.specs.Text.{TextPart, data_part, reference_part, section_part, parts_text, parts_value_in, HasTextValue, is_void}
use Rattle.xt_spec.specs.Value.{ValuePart, characters_part, character_part, value_parts_text, value_of_parts, AreValueParts, HasAttributeValue, tokenized}
use Rattle.xt_spec.specs.Namespace.{NamedValue, Binding, xml_namespace, xmlns_namespace, prefix_of, local_of, declared_prefix, is_allowed, xml_scope, scope_of, Expanded, expanded_name}
use Rattle.xt_spec.specs.Content.{Content, nothing_given, element_content, text_content, typed, HasContent}

-- a `]` is a reference at the end, and an LF in front
ends_in_a_bracket : escape_text (codes "a]") ≡ codes "a&#93;"
ends_in_a_bracket = refl

keeps_a_bracket_apart : bytes_eq (escape_text (codes "]a")) (codes "&#93;a") ≡ false
keeps_a_bracket_apart = refl

begins_with_a_line_end : escape_text (0xA ∷ 0xA ∷ []) ≡ codes "&#10;" ++ 0xA ∷ []
begins_with_a_line_end = refl

writes_markup : escape_text (codes "<&>\"'") ≡ codes "&lt;&amp;&gt;\"'"
writes_markup = refl

writes_a_mark : escape_text (0xFEFF ∷ 0xD ∷ []) ≡ codes "&#65279;&#13;"
writes_a_mark = refl

-- <a>x<b/>y</a>
tree : Items
tree = element (codes "<a>") (leaf text_item (codes "x") (element (codes "<b/>") nil None (leaf text_item (codes "y") nil))) (Some (codes "</a>")) nil

finds_a_text : item_at tree (0 ∷ 2 ∷ []) ≡ Some (leaf_item text_item (codes "y"))
unfolding tree
finds_a_text = refl

finds_nothing_behind : item_at tree (0 ∷ 3 ∷ []) ≡ None
unfolding tree
finds_nothing_behind = refl

finds_nothing_in_a_text : item_at tree (0 ∷ 0 ∷ 0 ∷ []) ≡ None
unfolding tree
finds_nothing_in_a_text = refl

-- ---- line ends and values

reads_line_ends : lines_read (0xD ∷ 0xA ∷ 0xD ∷ 0x61 ∷ 0xA ∷ []) ≡ 0xA ∷ 0xA ∷ 0x61 ∷ 0xA ∷ []
reads_line_ends = refl

-- a CR LF, and a CR in a CDATA section
parts : List TextPart
parts = data_part (0x61 ∷ 0xD ∷ 0xA ∷ []) ∷ section_part (codes "<![CDATA[" ++ 0xD ∷ codes "]]>") (0xD ∷ []) ∷ []

reads_line_ends_of_a_file : parts_value_in false parts ≡ 0x61 ∷ 0xA ∷ 0xA ∷ []
unfolding parts
reads_line_ends_of_a_file = refl

keeps_line_ends_of_a_replacement_text : parts_value_in true parts ≡ 0x61 ∷ 0xD ∷ 0xA ∷ 0xD ∷ []
unfolding parts
keeps_line_ends_of_a_replacement_text = refl

void_sections : is_void (codes "<![CDATA[]]><![CDATA[]]>") ≡ true
void_sections = refl

no_void_section : is_void (codes "<![CDATA[ ]]>") ≡ false
no_void_section = refl

tokenizes : tokenized (codes "  a   b ") ≡ codes "a b"
tokenizes = refl

keeps_other_space : tokenized (0x9 ∷ 0x61 ∷ []) ≡ 0x9 ∷ 0x61 ∷ []
keeps_other_space = refl

-- ---- namespaces

cuts_a_prefix : prefix_of (codes "p:a") ≡ Some (codes "p")
cuts_a_prefix = refl

cuts_a_local_part : local_of (codes "p:a") ≡ codes "a"
cuts_a_local_part = refl

declares_a_prefix : declared_prefix (codes "xmlns:p") ≡ Some (codes "p")
declares_a_prefix = refl

declares_the_default : declared_prefix (codes "xmlns") ≡ Some []
declares_the_default = refl

declares_nothing : declared_prefix (codes "xmlnsp") ≡ None
declares_nothing = refl

abbrev binding : List ℕ → List ℕ → Binding
binding prefix namespace = record { prefix = prefix; namespace = namespace }

undoes_the_default : is_allowed (binding [] []) ≡ true
undoes_the_default = refl

undoes_no_prefix : is_allowed (binding (codes "p") []) ≡ false
undoes_no_prefix = refl

binds_xml_again : is_allowed (binding (codes "xml") xml_namespace) ≡ true
binds_xml_again = refl

binds_xml_to_no_other : is_allowed (binding (codes "xml") (codes "u:1")) ≡ false
binds_xml_to_no_other = refl

binds_no_other_to_the_namespace_of_xml : is_allowed (binding (codes "p") xml_namespace) ≡ false
binds_no_other_to_the_namespace_of_xml = refl

never_declares_xmlns : is_allowed (binding (codes "xmlns") xmlns_namespace) ≡ false
never_declares_xmlns = refl

abbrev scope : List Binding
scope = binding [] (codes "u:1") ∷ binding (codes "p") (codes "u:2") ∷ xml_scope

abbrev expanded : List ℕ → List ℕ → Option Expanded
expanded space local = Some (record { space = space; local = local })

expands_an_element : expanded_name scope false (codes "a") ≡ expanded (codes "u:1") (codes "a")
expands_an_element = refl

leaves_an_attribute : expanded_name scope true (codes "a") ≡ expanded [] (codes "a")
leaves_an_attribute = refl

expands_a_prefix : expanded_name scope true (codes "p:a") ≡ expanded (codes "u:2") (codes "a")
expands_a_prefix = refl

expands_no_unbound_prefix : expanded_name scope false (codes "q:a") ≡ None
expands_no_unbound_prefix = refl

attribute : List ℕ → List ℕ → NamedValue
attribute name value = record { name = name; value = value }

puts_a_declaration_in_scope : scope_of xml_scope (attribute (codes "a") (codes "1") ∷ attribute (codes "xmlns:p") (codes "u:2") ∷ []) ≡ Some (binding (codes "p") (codes "u:2") ∷ xml_scope)
unfolding attribute
puts_a_declaration_in_scope = refl

refuses_a_declaration : scope_of xml_scope (attribute (codes "xmlns:p") [] ∷ []) ≡ None
unfolding attribute
refuses_a_declaration = refl

-- ---- characters and names

chars_of_documents : (is_char 0x9 ≡ true) × (is_char 0x10FFFF ≡ true) × (is_char 0 ≡ false) × (is_char 0xD800 ≡ false) × (is_char 0xFFFE ≡ false)
chars_of_documents = (refl, refl, refl, refl, refl)

-- a no-break space is none
spaces : (is_space 0x20 ≡ true) × (is_space 0xD ≡ true) × (is_space 0xA0 ≡ false)
spaces = (refl, refl, refl)

-- a `-` goes on in a name, and begins none
name_characters : (is_name_char 0x2D ≡ true) × (is_name_start_char 0x2D ≡ false) × (is_name_char 0x20 ≡ false)
name_characters = (refl, refl, refl)

-- a text is the UTF-8 of one list of characters
passes : (test : List ℕ → Bool) (cs : List ℕ) → IsSpeltBy test (encode_utf8_all cs) → test cs ≡ true
passes test cs (ds, same, is) = subst (λ l. test l ≡ true) (encodes_same ds cs same) is

spells_a_name : IsName (codes "a:b")
unfolding encode
spells_a_name = (codes "a:b", refl, refl)

begins_no_name : IsName (codes "1a") → ⊥
unfolding encode
begins_no_name is = let wrong : false ≡ true = passes are_name_chars (codes "1a") is in absurd (cc)

spells_an_ncname : IsNCName (codes "a-1")
unfolding encode
spells_an_ncname = (codes "a-1", refl, refl)

spells_no_ncname : IsNCName (codes "a:b") → ⊥
unfolding encode
spells_no_ncname is = let wrong : false ≡ true = passes are_ncname_chars (codes "a:b") is in absurd (cc)

spells_a_qname : IsQName (codes "a:b")
unfolding encode
spells_a_qname = inr (codes "a", codes "b", (codes "a", refl, refl), (codes "b", refl, refl), refl)

-- cut at either colon, a part has the other
three_parts : (ps ls : List ℕ) → ps ++ 0x3A ∷ ls ≡ codes "a:b:c" → are_ncname_chars ps ≡ true → are_ncname_chars ls ≡ true → ⊥
three_parts [] ls same first second = absurd (cc)
three_parts (p ∷ []) ls same first second =
    let rest : ls ≡ codes "b:c" = cc in
    let wrong : false ≡ true = subst (λ l. are_ncname_chars l ≡ true) rest second in
    absurd (cc)
three_parts (p ∷ q ∷ ps) ls same first second =
    let p_is : p ≡ 0x61 = cc in
    let q_is : q ≡ 0x3A = cc in
    let colon : are_ncname_chars (0x61 ∷ 0x3A ∷ ps) ≡ true = subst₂ (λ p q. are_ncname_chars (p ∷ q ∷ ps) ≡ true) p_is q_is first in
    let wrong : false ≡ true = (and_parts (are_name_chars (0x61 ∷ 0x3A ∷ ps)) false colon).1 in
    absurd (cc)

spells_no_qname : IsQName (codes "a:b:c") → ⊥
unfolding encode
spells_no_qname (inl is) = let wrong : false ≡ true = passes are_ncname_chars (codes "a:b:c") is in absurd (cc)
spells_no_qname (inr (prefix, local, (ps, p, first), (ls, l, second), spelled)) =
    let joined : encode_utf8_all (ps ++ 0x3A ∷ ls) ≡ codes "a:b:c" = encodes-append ps (0x3A ∷ ls) ∙ ap₂ (λ p l. p ++ 0x3A ∷ l) p l ∙ sym spelled in
    three_parts ps ls (encodes_same (ps ++ 0x3A ∷ ls) (codes "a:b:c") joined) first second

-- ---- references

names_an_ampersand : NamesChar (codes "&#38;") 0x26
names_an_ampersand = (refl, inl (codes "38", record { some = λ none. cc; all = refl; spell = refl }, refl))

names_it_in_hexadecimal : NamesChar (codes "&#x026;") 0x26
names_it_in_hexadecimal = (refl, inr (codes "026", record { some = λ none. cc; all = refl; spell = refl }, refl))

-- the digits of `&#0;`
only_a_zero : (digits : List ℕ) (c : ℕ) → codes "&#0;" ≡ codes "&#" ++ digits ++ codes ";" → AreDigits 10 is_decimal_digit digits c → c ≡ 0
only_a_zero [] c same are = absurd (cc)
only_a_zero (d ∷ []) c same are =
    let zero_is : d ≡ 0x30 = cc in
    sym are.spell ∙ ap (λ d. number_behind 10 0 (d ∷ [])) zero_is
only_a_zero (d ∷ e ∷ []) c same are = absurd (cc)
only_a_zero (d ∷ e ∷ f ∷ digits) c same are = absurd (cc)

no_hexadecimal : (digits : List ℕ) → codes "&#0;" ≡ codes "&#x" ++ digits ++ codes ";" → ⊥
no_hexadecimal digits same = cc

names_no_character : (c : ℕ) → NamesChar (codes "&#0;") c → ⊥
names_no_character c is = elim is.1 [
  | inl digits ↦ let wrong : false ≡ true = subst (λ c. is_char c ≡ true) (only_a_zero digits.0 c digits.2 digits.1) is.0 in absurd (cc)
  | inr digits ↦ no_hexadecimal digits.0 digits.2
]

refers_to_an_entity : IsEntityRef (codes "&e;")
unfolding encode
refers_to_an_entity = (codes "e", (codes "e", refl, refl), refl)

refers_to_nothing : IsEntityRef (codes "&;") → ⊥
unfolding encode
refers_to_nothing ([], is, spelled) = let wrong : false ≡ true = passes are_ncname_chars [] is in absurd (cc)
refers_to_nothing (b ∷ [], is, spelled) = absurd (cc)
refers_to_nothing (b ∷ c ∷ name, is, spelled) = absurd (cc)

is_predefined : IsPredefined (codes "&lt;") 0x3C
is_predefined = inl (refl, refl)

is_not_predefined : (c : ℕ) → IsPredefined (codes "&e;") c → ⊥
is_not_predefined c (inl is) = let e = is.0 in absurd (cc)
is_not_predefined c (inr (inl is)) = let e = is.0 in absurd (cc)
is_not_predefined c (inr (inr (inl is))) = let e = is.0 in absurd (cc)
is_not_predefined c (inr (inr (inr (inl is)))) = let e = is.0 in absurd (cc)
is_not_predefined c (inr (inr (inr (inr is)))) = let e = is.0 in absurd (cc)

stands_for_no_other : IsPredefined (codes "&lt;") 0x3E → ⊥
stands_for_no_other is = grind arith

-- ---- tags

-- texts whose first bytes differ
unlike : (a b : ℕ) (xs ys : List ℕ) → eqb a b ≡ false → a ∷ xs ≡ b ∷ ys → ⊥
unlike a b xs ys apart same = let first : a ≡ b = cc in let wrong = eq-eqb a b first in cc

-- a character, a reference, and the other quote
holds_a_reference : IsAttValue (codes "'a&lt;\"'")
unfolding encode
holds_a_reference = (
  0x27,
  codes "a" ∷ codes "&lt;" ∷ codes "\"" ∷ [],
  inr refl,
  (inl (0x61, refl, refl), (inr (inr (codes "lt", (codes "lt", refl, refl), refl)), (inl (0x22, refl, refl), tt))),
  refl,
)

-- a reference begins with `&`
named_begins : (text : List ℕ) (c : ℕ) → NamesChar text c → (rest : List ℕ) × (text ≡ 0x26 ∷ rest)
named_begins text c is = elim is.1 [
  | inl digits ↦ (codes "#" ++ digits.0 ++ codes ";", digits.2)
  | inr digits ↦ (codes "#x" ++ digits.0 ++ codes ";", digits.2)
]

stands_begins : (text : List ℕ) (c : ℕ) → StandsFor text c → (rest : List ℕ) × (text ≡ 0x26 ∷ rest)
stands_begins text c (inl is) = named_begins text c is
stands_begins text c (inr (inl is)) = (codes "lt;", is.0)
stands_begins text c (inr (inr (inl is))) = (codes "gt;", is.0)
stands_begins text c (inr (inr (inr (inl is)))) = (codes "amp;", is.0)
stands_begins text c (inr (inr (inr (inr (inl is))))) = (codes "apos;", is.0)
stands_begins text c (inr (inr (inr (inr (inr is))))) = (codes "quot;", is.0)

-- no part of a value begins with `<`
no_part : (q : ℕ) (part rest : List ℕ) → IsValuePart q part → codes "<'" ≡ part ++ rest → ⊥
unfolding encode
no_part q part rest (inl (c, is, spelled)) same =
    let here : encode c ++ rest ≡ encode 0x3C ++ codes "'" = sym (same ∙ ap (λ p. p ++ rest) spelled) in
    let wrong : false ≡ true = subst (λ c. is_value_char q c ≡ true) (encode_same c 0x3C rest (codes "'") here).0 is in
    absurd (cc)
no_part q part rest (inr (inl (c, is))) same = let begins = named_begins part c is in unlike 0x3C 0x26 _ _ refl (same ∙ ap (λ p. p ++ rest) begins.1)
no_part q part rest (inr (inr (name, is, spelled))) same = unlike 0x3C 0x26 _ _ refl (same ∙ ap (λ p. p ++ rest) spelled)

-- a value holds no `<`
holds_no_tag : IsAttValue (codes "'<'") → ⊥
holds_no_tag (q, [], quote, all, spelled) = absurd (cc)
holds_no_tag (q, part ∷ parts, quote, (first, others), spelled) =
    let rest : codes "<'" ≡ (part ++ concat parts) ++ q ∷ [] = cc in
    no_part q part (concat parts ++ q ∷ []) first (rest ∙ append_assoc part (concat parts) (q ∷ []))

abbrev attribute_of : List ℕ → List ℕ → Attribute
attribute_of space name = record { space = space; name = name; equals = codes "="; quoted = codes "'v'" }

spells_an_attribute : IsAttribute (attribute_of (codes "  ") (codes "a:b"))
unfolding encode
spells_an_attribute = record {
  space = (refl, λ none. cc);
  name = inr (codes "a", codes "b", (codes "a", refl, refl), (codes "b", refl, refl), refl);
  equals = ([], [], refl, refl, refl);
  quoted = (0x27, codes "v" ∷ [], inr refl, (inl (0x76, refl, refl), tt), refl);
}

needs_space_before : IsAttribute (attribute_of [] (codes "a")) → ⊥
needs_space_before is = is.space.1 refl

spells_a_tag : IsTag (record { name = codes "a"; attributes = attribute_of (codes "  ") (codes "a:b") ∷ []; blank = codes " " })
unfolding encode
spells_a_tag = record { name = inl (codes "a", refl, refl); attributes = (spells_an_attribute, tt); blank = refl }

spells_no_tag : IsTag (record { name = codes "a:b:c"; attributes = []; blank = [] }) → ⊥
spells_no_tag is = spells_no_qname is.name

spells_an_end_tag : IsEndTag (codes "a") (codes "</a >")
spells_an_end_tag = (codes " ", refl, refl)

spells_no_end_tag : IsEndTag (codes "a") (codes "</b>") → ⊥
spells_no_end_tag (blank, is, spelled) = unlike 0x62 0x61 _ _ refl (ap (drop 2) spelled)

-- ---- character data

holds_no_close : HoldsNoClose (codes " ]")
holds_no_close zero (rest, same) = unlike 0x20 0x5D _ _ refl same
holds_no_close (suc zero) (rest, same) = cc
holds_no_close (suc (suc k)) (rest, same) =
    let far : length (codes " ]") ≤ suc (suc k) = omega arith in
    let none : [] ≡ codes "]]>" ++ rest = sym (drop_of_length-le (codes " ]") far) ∙ same in
    absurd (cc)

spells_character_data : Spells char_data (codes " ]")
unfolding encode
spells_character_data = (
  codes " ]",
  λ none. cc,
  ((refl, λ e. omega (arith, e), λ e. omega (arith, e)), ((refl, λ e. omega (arith, e), λ e. omega (arith, e)), tt)),
  refl,
  holds_no_close,
)

spells_no_character_data : Spells char_data (codes "a]]>b") → ⊥
spells_no_character_data (cs, some, plain, spelled, none) = none 1 (codes "b", refl)

-- it ends where a `]]>` begins
stands_before_a_close : MayStand char_data 1 (codes "a]]>")
stands_before_a_close zero less (rest, same) = unlike 0x61 0x5D _ _ refl same
stands_before_a_close (suc k) less begins = omega (arith, less)

stands_in_no_close : MayStand char_data 2 (codes "a]]>") → ⊥
stands_in_no_close stands = stands 1 (omega arith) ([], refl)

-- all white space of content is kept
keeps_white_space : HasTextValue (codes " ]") (codes " ]")
keeps_white_space = (data_part (codes " ]") ∷ [], (spells_character_data, refl, tt), refl, refl)

drops_no_white_space : HasTextValue (codes " ]") (codes "]") → ⊥
unfolding encode
drops_no_white_space ([], are, spelled, value) = absurd (cc)
drops_no_white_space (data_part [] ∷ others, are, spelled, value) = absurd (are.0.1 (sym (encodes_same [] are.0.0 are.0.3)))
drops_no_white_space (data_part (b ∷ text) ∷ others, are, spelled, value) =
    let space : b ≡ 0x20 = ap (λ l. get_or l 0 0) spelled in
    unlike 0x20 0x5D _ _ refl (subst (λ b. parts_value_in false (data_part (b ∷ text) ∷ others) ≡ codes "]") space value)
drops_no_white_space (reference_part text c ∷ others, are, spelled, value) =
    let begins = stands_begins text c are.0 in
    unlike 0x26 0x20 _ _ refl (sym (ap (λ t. t ++ parts_text others) begins.1) ∙ spelled)
drops_no_white_space (section_part text inner ∷ others, are, spelled, value) = unlike 0x3C 0x20 _ _ refl (sym (ap (λ t. t ++ parts_text others) are.0.2) ∙ spelled)

includes_a_reference : HasTextValue (codes "&lt;") (codes "<")
unfolding encode
includes_a_reference = (reference_part (codes "&lt;") 0x3C ∷ [], (inr is_predefined, tt), refl, refl)

-- ---- other markup

holds_one_dash : IsComment (codes "<!--a-b-->")
unfolding encode
holds_one_dash = (codes "a-b", (codes "a-b", refl, refl), refl, refl)

holds_no_two_dashes : IsComment (codes "<!--a--b-->") → ⊥
holds_no_two_dashes (inner, are, lacking, spelled) =
    let is : inner ≡ codes "a--b" = sym (append_cancel_right (codes "a--b") inner (codes "-->") (ap (drop 4) spelled)) in
    let wrong : false ≡ true = subst (λ t. lacks (codes "--") (t ++ codes "-") ≡ true) is lacking in
    absurd (cc)

holds_a_bracket : IsCDataSection (codes "<![CDATA[a]]]>")
unfolding encode
holds_a_bracket = (codes "a]", ((codes "a]", refl, refl), refl, refl))

ends_at_the_first_close : IsCDataSection (codes "<![CDATA[]]>a]]>") → ⊥
ends_at_the_first_close (inner, (are, lacking, spelled)) =
    let is : inner ≡ codes "]]>a" = sym (append_cancel_right (codes "]]>a") inner (codes "]]>") (ap (drop 9) spelled)) in
    let wrong : false ≡ true = subst (λ t. lacks (codes "]]>") t ≡ true) is lacking in
    absurd (cc)

spells_a_target : IsPiTarget (codes "a")
unfolding encode
spells_a_target = ((codes "a", refl, refl), refl)

spells_no_target_with_a_colon : IsPiTarget (codes "a:b") → ⊥
spells_no_target_with_a_colon is = spells_no_ncname is.0

spells_no_reserved_target : IsPiTarget (codes "XML") → ⊥
spells_no_reserved_target is = let wrong = is.1 in cc

spells_a_system_literal : IsSystemLiteral (codes "'a\"'")
unfolding encode
spells_a_system_literal = (codes "a\"", (codes "a\"", refl, refl), (0x27, inr refl, refl, refl))

spells_no_system_literal : IsSystemLiteral (codes "a") → ⊥
spells_no_system_literal (inner, are, (q, inl quote, lacking, spelled)) = unlike 0x61 0x22 _ _ refl (spelled ∙ ap (λ q. (q ∷ inner) ++ q ∷ []) quote)
spells_no_system_literal (inner, are, (q, inr quote, lacking, spelled)) = unlike 0x61 0x27 _ _ refl (spelled ∙ ap (λ q. (q ∷ inner) ++ q ∷ []) quote)

spells_a_public_literal : IsPubidLiteral (codes "'-//a'")
spells_a_public_literal = (codes "-//a", refl, (0x27, inr refl, refl, refl))

spells_no_public_literal : IsPubidLiteral (codes "'<'") → ⊥
spells_no_public_literal ([], are, (q, quote, lacking, spelled)) = cc
spells_no_public_literal (b ∷ inner, are, (q, quote, lacking, spelled)) =
    let first : b ≡ 0x3C = sym (ap (λ l. get_or l 1 0) spelled) in
    let wrong : false ≡ true = subst (λ b. list_all is_pubid_char (b ∷ inner) ≡ true) first are in
    absurd (cc)

spells_an_external_id : IsExternalId (codes "SYSTEM 'a'")
unfolding encode
spells_an_external_id = inl (codes " ", codes "'a'", (refl, λ none. cc), (codes "a", (codes "a", refl, refl), (0x27, inr refl, refl, refl)), refl)

spells_no_external_id : IsExternalId (codes "'a'") → ⊥
spells_no_external_id (inl (space, system, is, literal, spelled)) = unlike 0x27 0x53 _ _ refl spelled
spells_no_external_id (inr (space, public, between, system, is, literal, is_between, is_system, spelled)) = unlike 0x27 0x50 _ _ refl spelled

-- white space begins with a space
begins_with_space : (space : List ℕ) → IsSpace space → (b : ℕ) × (rest : List ℕ) × (space ≡ b ∷ rest) × (is_space b ≡ true)
begins_with_space [] is = absurd (is.1 refl)
begins_with_space (b ∷ space) is = (b, space, refl, (and_parts (is_space b) (list_all is_space space) is.0).0)

spells_a_doctype : IsDoctype (codes "<!DOCTYPE a SYSTEM 'a'[]>")
unfolding encode
spells_a_doctype = record {
  space = codes " ";
  name = codes "a";
  external = codes " SYSTEM 'a'";
  blank = [];
  brackets = codes "[]";
  is_space = (refl, λ none. cc);
  is_name = inl (codes "a", refl, refl);
  is_external = inr (codes " ", codes "SYSTEM 'a'", (refl, λ none. cc), spells_an_external_id, refl);
  is_blank = refl;
  is_brackets = inr ([], [], ([], tt, ([], (refl, refl)), refl), refl, refl);
  spelled = refl;
}

spells_no_doctype : IsDoctype (codes "<!DOCTYPE>") → ⊥
spells_no_doctype is =
    let begins = begins_with_space is.space is.is_space in
    let first : 0x3E ≡ begins.0 = ap (λ l. get_or l 9 0) (is.spelled ∙ ap (λ space. codes "<!DOCTYPE" ++ space ++ is.name ++ is.external ++ is.blank ++ is.brackets ++ codes ">") begins.2) in
    let wrong : false ≡ true = ap is_space first ∙ begins.3 in
    cc

abbrev one_zero : Declaration
one_zero = record { version = Some (codes "1.0"); encoding = None; standalone = None }

declares_a_version : IsDeclarationOf one_zero (codes "<?xml version='1.0'?>")
declares_a_version = record {
  version = codes " version='1.0'";
  encoding = [];
  standalone = [];
  blank = [];
  has_version = (refl, record { space = codes " "; equals = codes "="; quoted = codes "'1.0'"; is_space = (refl, λ none. cc); is_eq = ([], [], refl, refl, refl); is_quoted = (0x27, inr refl, refl, refl); spelled = refl });
  has_encoding = refl;
  has_standalone = refl;
  is_blank = refl;
  form = refl;
  spelled = refl;
}

declares_no_version : IsDeclarationOf one_zero (codes "<?xml?>") → ⊥
declares_no_version is =
    let word = is.has_version.1 in
    let begins = begins_with_space word.space word.is_space in
    let version : is.version ≡ (begins.0 ∷ begins.1) ++ codes "version" ++ word.equals ++ word.quoted =
    word.spelled ∙ ap (λ space. space ++ codes "version" ++ word.equals ++ word.quoted) begins.2 in
    let first : 0x3F ≡ begins.0 = ap (λ l. get_or l 5 0) (is.spelled ∙ ap (λ version. codes "<?xml" ++ version ++ is.encoding ++ is.standalone ++ is.blank ++ codes "?>") version) in
    let wrong : false ≡ true = ap is_space first ∙ begins.3 in
    cc

-- ---- readings

-- `<a/>`
lone : Items
lone = element (codes "<a/>") nil None nil

is_the_element : IsElementAt 0 (codes "<a/>") nil None
unfolding encode
is_the_element = record {
  within = omega arith;
  element = record {
    tag = record { name = codes "a"; attributes = []; blank = [] };
    parts = record { name = inl (codes "a", refl, refl); attributes = tt; blank = refl };
    spelled = refl;
    unique = refl;
    closes = refl;
  };
}

stands_no_deeper : IsElementAt 128 (codes "<a/>") nil None → ⊥
stands_no_deeper is = omega (arith, is.within)

-- an end-tag of its name closes an element, and no other
closes_its_element : Closes (codes "a") lone (Some (codes "</a >"))
closes_its_element = spells_an_end_tag

closes_no_other : Closes (codes "a") lone (Some (codes "</b>")) → ⊥
closes_no_other = spells_no_end_tag

keeps_names_apart : (are_distinct (codes "a" ∷ codes "b" ∷ []) ≡ true) × (are_distinct (codes "a" ∷ codes "b" ∷ codes "a" ∷ []) ≡ false)
keeps_names_apart = (refl, refl)

reads_an_element : IsReading document (codes "<a/>") lone
unfolding lone encode
reads_an_element = record { utf8 = (codes "<a/>", (refl, refl)); joined = refl; ordered = inr (refl, inr (refl, is_the_element, tt, refl)) }

-- one element stands at the top
reads_no_second : IsReading document (codes "<a/><a/>") (element (codes "<a/>") nil None lone) → ⊥
unfolding lone
reads_no_second is = elim is.ordered [
  | inl marked ↦ let wrong = marked.1 in absurd (cc)
  | inr (plain, inl (text, rest, same, declares, main)) ↦ absurd (cc)
  | inr (plain, inr (before, first, inside, (second, others, none, last))) ↦ absurd (cc)
]

-- an entity may be a text, and a document may not
reads_a_text : IsReading entity (codes " ]") (leaf text_item (codes " ]") nil)
unfolding encode
reads_a_text = record {
  utf8 = (codes " ]", (refl, refl));
  joined = refl;
  ordered = inr (refl, inr ((data_part (codes " ]") ∷ [], (spells_character_data, refl, tt), λ none. cc, refl), refl, tt));
}

reads_behind_a_mark : IsReading entity (mark ++ codes " ]") (leaf gap mark (leaf text_item (codes " ]") nil))
unfolding encode
reads_behind_a_mark = record {
  utf8 = (0xFEFF ∷ codes " ]", (refl, refl));
  joined = refl;
  ordered = inl (leaf text_item (codes " ]") nil, refl, inr ((data_part (codes " ]") ∷ [], (spells_character_data, refl, tt), λ none. cc, refl), refl, tt));
}

reads_no_text : IsReading document (codes " ]") (leaf text_item (codes " ]") nil) → ⊥
reads_no_text is = elim is.ordered [
  | inl marked ↦ let wrong = marked.1 in absurd (cc)
  | inr (plain, inl (text, rest, same, declares, main)) ↦ absurd (cc)
  | inr (plain, inr none) ↦ none
]

-- white space is a gap at the top of a document alone
reads_no_gap : IsReading entity (codes " ") (leaf gap (codes " ") nil) → ⊥
reads_no_gap is = elim is.ordered [
  | inl marked ↦ let wrong = marked.1 in absurd (cc)
  | inr (plain, inl (text, rest, same, (d, declares, form, encoding), main)) ↦ let is : codes " " ≡ text = cc in unlike 0x20 0x3C _ _ refl (is ∙ declares.spelled)
  | inr (plain, inr none) ↦ none
]

-- what is no XML is one text, which isn't empty
is_one_text : IsOneText (leaf text_item (codes "<") nil)
unfolding encode
is_one_text = ((codes "<", refl, refl), λ none. cc)

is_no_text : IsOneText (leaf text_item [] nil) → ⊥
is_no_text is = is.1 refl

-- ---- values of attributes

-- a tab is a space, and a tab by a reference stays
normalizes_a_tab : HasAttributeValue (0x27 ∷ 0x9 ∷ codes "&#9;'") (0x20 ∷ 0x9 ∷ [])
unfolding encode
normalizes_a_tab = (
  0x27,
  characters_part (0x9 ∷ []) ∷ character_part (codes "&#9;") 0x9 ∷ [],
  inr refl,
  ((0x9 ∷ [], refl, refl), λ none. cc, refl, (inl (refl, inl (codes "9", record { some = λ none. cc; all = refl; spell = refl }, refl)), tt)),
  refl,
  refl,
)

-- no part begins with a tab and stands for one
no_tab : (q : ℕ) (others : List ValuePart) → AreValueParts q others → codes "\t'" ≡ value_parts_text others ++ q ∷ [] → 0x9 ∷ [] ≡ value_of_parts others → ⊥
no_tab q [] are spelled value = absurd (cc)
no_tab q (characters_part [] ∷ others) are spelled value = absurd (are.1 refl)
no_tab q (characters_part (b ∷ text) ∷ others) are spelled value =
    let tab : 0x9 ≡ b = ap (λ l. get_or l 0 0) spelled in
    unlike 0x9 0x20 _ _ refl (subst (λ b. 0x9 ∷ [] ≡ value_of_parts (characters_part (b ∷ text) ∷ others)) (sym tab) value)
no_tab q (character_part text c ∷ others) are spelled value =
    let begins = stands_begins text c are.0 in
    unlike 0x9 0x26 _ _ refl (spelled ∙ ap (λ t. (t ++ value_parts_text others) ++ q ∷ []) begins.1)

keeps_no_tab : HasAttributeValue (0x27 ∷ 0x9 ∷ 0x27 ∷ []) (0x9 ∷ []) → ⊥
keeps_no_tab (q, parts, quote, are, spelled, value) = no_tab q parts are (ap (drop 1) spelled) value

-- ---- content

types_an_id : typed (codes "xml:id") (codes " a ") ≡ codes "a"
types_an_id = refl

types_no_other : typed (codes "id") (codes " a ") ≡ codes " a "
types_no_other = refl

gives_a_comment : IsCommentOf (codes "<!--a-->") (codes "a")
gives_a_comment = refl

gives_no_other_comment : IsCommentOf (codes "<!--a-->") (codes "b") → ⊥
gives_no_other_comment is = unlike 0x61 0x62 _ _ refl (ap (drop 4) is)

-- the data begin behind all the white space
gives_data : IsPiOf (codes "<?a  b?>") (codes "a") (codes "b")
unfolding encode
gives_data = record { space = codes "  "; is_target = ((codes "a", refl, refl), refl); is_space = refl; apart = λ none. cc; begins = refl; spelled = refl }

gives_no_space : IsPiOf (codes "<?a  b?>") (codes "a") (codes " b") → ⊥
gives_no_space is = let wrong = is.begins in cc

spells_b : IsAttribute (attribute_of (codes " ") (codes "b"))
unfolding encode
spells_b = record { space = (refl, λ none. cc); name = inl (codes "b", refl, refl); equals = spells_an_attribute.equals; quoted = spells_an_attribute.quoted }

-- `<a b='v'> ]</a>`
with_text : Items
with_text = element (codes "<a b='v'>") (leaf text_item (codes " ]") nil) (Some (codes "</a>")) nil

gives_content : HasContent with_text (element_content (codes "a") (attribute (codes "b") (codes "v") ∷ []) (text_content (codes " ]") nothing_given) nothing_given)
unfolding with_text attribute encode
gives_content = (
  record { name = codes "a"; attributes = attribute_of (codes " ") (codes "b") ∷ []; blank = [] },
  attribute (codes "b") (codes "v") ∷ [],
  text_content (codes " ]") nothing_given,
  nothing_given,
  record { name = inl (codes "a", refl, refl); attributes = (spells_b, tt); blank = refl },
  refl,
  (codes "v", [], (0x27, characters_part (codes "v") ∷ [], inr refl, ((codes "v", refl, refl), λ none. cc, refl, tt), refl, refl), refl, refl),
  (codes " ]", nothing_given, keeps_white_space, refl, refl),
  refl,
  refl,
)

-- a reference that stands for no character gives none
gives_no_content : (content : Content) → HasContent (leaf reference_item (codes "&e;") nil) content → ⊥
gives_no_content content none = none

-- ---- first faults

none_in_nothing : (form : Declaration → Bool) → NoDeclared form []
none_in_nothing form d = let h = d.stands ∙ ap (λ t. t ++ d.rest) d.is.spelled in cc

none_in_tag : (form : Declaration → Bool) → NoDeclared form (codes "<a/>")
none_in_tag form d = let h = d.stands ∙ ap (λ t. t ++ d.rest) d.is.spelled in cc

-- a body begins at 0 where nothing stands in front, and behind a byte order mark
begins_at_once : BeginsBody (form_of document) [] 0
begins_at_once = record { len = 0; takes = inr (none_in_nothing _, refl); to_is = refl }

begins_behind_a_mark : BeginsBody (form_of entity) (mark ++ codes "<a/>") 3
begins_behind_a_mark = record { len = 0; takes = inr (none_in_tag _, refl); to_is = refl }

-- .. and not before it
begins_not_before_a_mark : BeginsBody (form_of entity) (mark ++ codes "<a/>") 0 → ⊥
begins_not_before_a_mark is = omega (arith, is.to_is)

nothing_first : (first rest : List ℕ) → first ++ rest ≡ [] → first ≡ []
nothing_first [] rest is = refl
nothing_first (b ∷ bs) rest is = absurd (cc)

-- no document is empty
some_document : (items : Items) → IsBody document items → source_text items ≡ [] → ⊥
some_document nil is joined = cc
some_document (element open_tag kids close rest) is joined =
    let none : open_tag ≡ [] = nothing_first open_tag _ (nothing_first _ _ (nothing_first _ _ joined)) in
    let wrong = sym none ∙ is.1.element.spelled in cc
some_document (leaf comment_item text rest) is joined = let wrong = sym (nothing_first text _ joined) ∙ is.0.3 in cc
some_document (leaf pi_item text rest) is joined = let wrong = sym (nothing_first text _ joined) ∙ is.0.4.spelled in cc
some_document (leaf gap text rest) (inl (first, doctype, others)) joined = let wrong = sym (nothing_first text _ joined) ∙ doctype.spelled in cc
some_document (leaf gap text rest) (inr (space, apart, others)) joined = space.1 (nothing_first text _ joined)
some_document (leaf text_item text rest) is joined = is
some_document (leaf reference_item text rest) is joined = is

-- an empty file ends too early for a document, at its beginning
ends_too_early : IsFirstFault document [] (not_well_formed 0)
unfolding lone encode
ends_too_early = (
  ([], (refl, refl)),
  record {
    to = 0;
    body = record { known = λ foreign. none_in_nothing _ foreign.0; begins = begins_at_once };
    n = 0;
    at_is = refl;
    fault = record {
      opened = 0;
      read = record { within = omega arith; tokens = no_tokens [] 0; front = (codes "<a/>", lone, (refl, is_the_element, tt, refl), refl) };
      stopped = too_early refl some_document;
    };
  },
)

-- .. at no other place, and for no encoding
ends_nowhere_else : IsFirstFault document [] (not_well_formed 1) → ⊥
ends_nowhere_else is = omega (arith, is.1.at_is, is.1.fault.read.within, length-drop {A = ℕ} is.1.to [], begins_only is.1.body.begins)
  where
    begins_only : BeginsBody (form_of document) [] is.1.to → is.1.to ≡ 0
    begins_only begins = elim begins.takes [
      | inl (d, size) ↦ absurd (none_in_nothing _ d)
      | inr (none, size) ↦ omega (arith, begins.to_is, size)
    ]

declares_no_encoding : IsFirstFault document [] first.encoding → ⊥
declares_no_encoding is = none_in_nothing _ is.1.0

take_nil : (n : ℕ) → ◌≡◌ {A = List ℕ} (take n []) []
take_nil zero = refl
take_nil (suc n) = refl

-- nothing is content, so as a fragment it doesn't end too early
no_end_of_a_fragment : IsStopped (IsBody fragment) [] 0 0 → ⊥
no_end_of_a_fragment (no_token some never) = some refl
no_end_of_a_fragment (misplaced kind n longest shallow never) = never (subst (IsFrontOf (IsBody fragment)) (sym (take_nil (0 + n))) ([], nil, tt, refl))
no_end_of_a_fragment (too_early end never) = never nil tt refl

-- a tag begins an element at level 128, and at no deeper one
begins_no_deeper : (begins_too_deep empty_tag 127 ≡ false) × (begins_too_deep empty_tag 128 ≡ true) × (begins_too_deep end_tag 128 ≡ false)
begins_no_deeper = (refl, refl, refl)

-- an element is open behind its start-tag, and no more behind its end-tag
opens_and_closes : (open_behind start_tag 1 ≡ 2) × (open_behind end_tag 2 ≡ 1) × (open_behind char_data 1 ≡ 1)
opens_and_closes = (refl, refl, refl)
