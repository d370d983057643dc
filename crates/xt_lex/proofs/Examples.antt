-- The definitions computed on right and on wrong cases.
use Rattle.std.proofs.Common.{◌≡◌, ℕ, true, false, refl, ◌∷◌, ◌++◌, inl, inr, [], Some, None, codes, arith}
use Rattle.xt_lex.specs.DoctypeDecl.{system_literal, pubid_literal, system_id, public_id, external_id, external, bracketed, brackets, doctype_decl}
use Rattle.xt_lex.specs.QName.{q_name}
use Rattle.xt_lex.specs.Tag.{att_value, attribute, open_end, open_tag, closing_tag, tag}
use Rattle.xt_lex.specs.XmlDecl.{version, encoding, standalone, declared_values}
use Rattle.std.specs.Str.{chars}
use Rattle.xt_spec.specs.Declaration.{is_version_num, is_enc_name, is_yes_or_no, is_utf8_or_absent, Declaration, IsDeclarationOf, is_xml_declaration, is_text_declaration}
use Rattle.xt_spec.specs.Doctype.{is_pubid_char, literal_part, comment_part, pi_part, other_part, AreSubsetParts, IsSubset, IsDoctype}
use Rattle.xt_spec.specs.Markup.{lacks, IsCDataSection, IsComment, is_reserved, IsPi}
use Rattle.xt_spec.specs.Char.{is_char}
use Rattle.xt_spec.specs.Tag.{Attribute}
use Rattle.xt_spec.specs.Token.{char_data, empty_tag, end_tag, IsFront, IsLongestFront}
use Rattle.xt_lex.specs.Fast.{is_plain_name}
use Rattle.xt_scan.specs.Step.{many_read}
use Rattle.xt_lex.specs.NameTest.{is_name_byte}
use Rattle.xt_lex.specs.Place.{Follows, EndsName, EndsTag, AreSpansOf}
use Rattle.xt_lex.specs.Scan.{take_while, drop_while, many, after_marked, after_less}
use Rattle.xt_lex.proofs.Utf8.{ascii}
use Rattle.xt_lex.proofs.Spelling.{spelt_ascii}
use Rattle.xt_lex.proofs.Spelled.{plain_is_ncname, space_spells}
use Rattle.xt_lex.proofs.Longest.{token_longest}

-- behind a name may stand `=`, and no letter
equals_ends_a_name : EndsName (codes "='v'")
equals_ends_a_name = refl

no_letter_ends_a_name : EndsName (codes "a") → ⊥
no_letter_ends_a_name e = absurd (cc)

-- behind character data may stand a reference, and no further character
reference_follows : Follows (codes "&a;")
reference_follows = inr refl

no_character_follows : Follows (codes "a") → ⊥
no_character_follows (inl e) = absurd (omega arith)
no_character_follows (inr e) = absurd (omega arith)

-- character data goes on to the next markup, and no shorter front of it is the token
blank_before_a_tag : IsLongestFront (codes "  <") char_data 2
blank_before_a_tag = token_longest char_data (codes "  ") (codes "<") (space_spells (codes "  ") (refl, λ e. cc)) (λ _. inl refl)

no_shorter_blank : IsLongestFront (codes "  <") char_data 1 → ⊥
no_shorter_blank is = let more = (is.longest char_data 2 blank_before_a_tag.front).1 in omega (arith, more)

-- no other kind of token stands there
no_tag_at_a_blank : (n : ℕ) → IsFront end_tag n (codes "  <") → ⊥
no_tag_at_a_blank n front = let same = (blank_before_a_tag.longest end_tag n front).0 in cc

-- a tag ends so, and no attribute does
empty_tag_ends : EndsTag (codes "/>")
empty_tag_ends = inr refl

no_name_ends_a_tag : EndsTag (codes "a='v'>") → ⊥
no_name_ends_a_tag (inl e) = absurd (omega arith)
no_name_ends_a_tag (inr e) = absurd (omega arith)

-- the name that the bytes of names make, and what follows it
name_and_rest : (take_while is_name_byte (codes "a:b c") ≡ codes "a:b") × (drop_while is_name_byte (codes "a:b c") ≡ codes " c")
name_and_rest = (refl, refl)

-- a plain name, one with a colon, and none
plain_names : (is_plain_name (codes "para-1") ≡ true) × (is_plain_name (codes "a:b") ≡ false) × (is_plain_name (codes "1a") ≡ false)
plain_names = (refl, refl, refl)

-- `  n = "v"` from the place 2 of a text on
abbrev spaced : Attribute
spaced = record { space = codes "  "; name = codes "n"; equals = codes " = "; quoted = codes "'v'" }

spans_of_spaced : AreSpansOf spaced 2 (record {
  name = record { from = 4; to = 5 };
  value = record { from = 8; to = 11 };
  whole = record { from = 2; to = 11 };
})
spans_of_spaced = record { whole_from = refl; name_from = refl; name_to = refl; value_from = refl; value_to = refl; whole_to = refl }

-- a span of the value that lacks its last quote is wrong
no_short_value : AreSpansOf spaced 2 (record {
  name = record { from = 4; to = 5 };
  value = record { from = 8; to = 10 };
  whole = record { from = 2; to = 11 };
}) → ⊥
no_short_value spans = let e = spans.value_to in absurd (omega arith)

-- a CDATA section holds markup as text, and no `]]>`
cdata_holds_tags : IsCDataSection (codes "<![CDATA[<a>&]]]>")
cdata_holds_tags = (codes "<a>&]", (spelt_ascii is_char (codes "<a>&]") refl refl, refl, refl))

cdata_ends_at_the_first : (lacks (codes "]]>") (codes "a]]b") ≡ true) × (lacks (codes "]]>") (codes "a]]>b") ≡ false)
cdata_ends_at_the_first = (refl, refl)

-- a comment may hold a `-`, and no two; so none ends in `--->`
comment_holds_a_dash : IsComment (codes "<!-- a-b -->")
comment_holds_a_dash = (codes " a-b ", spelt_ascii is_char (codes " a-b ") refl refl, refl, refl)

no_dash_ends_a_comment : (lacks (codes "--") (codes " a-" ++ codes "-") ≡ false) × (lacks (codes "--") (codes "a--b" ++ codes "-") ≡ false)
no_dash_ends_a_comment = (refl, refl)

-- `xml` in any letter case is no target of a PI, and what begins with it may be one
reserved_targets : (is_reserved (codes "xml") ≡ true) × (is_reserved (codes "XmL") ≡ true) × (is_reserved (codes "xml-stylesheet") ≡ false)
reserved_targets = (refl, refl, refl)

pi_with_data : IsPi (codes "<?sort  by=\"a?\"?>")
pi_with_data = (
  codes "sort",
  codes "by=\"a?\"",
  spelt_ascii is_char (codes "by=\"a?\"") refl refl,
  refl,
  record { space = codes "  "; is_target = (plain_is_ncname (codes "sort") refl, refl); is_space = refl; apart = λ none. cc; begins = refl; spelled = refl },
)

pi_without_data : IsPi (codes "<?page?>")
pi_without_data = (
  codes "page",
  [],
  spelt_ascii is_char [] refl refl,
  refl,
  record { space = []; is_target = (plain_is_ncname (codes "page") refl, refl); is_space = refl; apart = λ none. refl; begins = refl; spelled = refl },
)

versions : (is_version_num (codes "1.0") ≡ true) × (is_version_num (codes "1.") ≡ false) × (is_version_num (codes "2.0") ≡ false)
versions = (refl, refl, refl)

encodings : (is_enc_name (codes "ISO-8859-1") ≡ true) × (is_enc_name (codes "8-UTF") ≡ false) × (is_enc_name (codes "") ≡ false)
encodings = (refl, refl, refl)

standalone_is_yes_or_no : (is_yes_or_no (codes "no") ≡ true) × (is_yes_or_no (codes "maybe") ≡ false) × (is_yes_or_no (codes "Yes") ≡ false)
standalone_is_yes_or_no = (refl, refl, refl)

utf8_in_any_case : (is_utf8_or_absent (Some (codes "utf-8")) ≡ true) × (is_utf8_or_absent None ≡ true) × (is_utf8_or_absent (Some (codes "UTF-16")) ≡ false)
utf8_in_any_case = (refl, refl, refl)

-- without a version it is a text declaration, and no XML declaration
abbrev utf8_alone : Declaration
utf8_alone = record { version = None; encoding = Some (codes "UTF-8"); standalone = None }

text_declaration : IsDeclarationOf utf8_alone (codes "<?xml encoding=\"UTF-8\"?>")
text_declaration = record {
  version = [];
  encoding = codes " encoding=\"UTF-8\"";
  standalone = [];
  blank = [];
  has_version = refl;
  has_encoding = (
    refl,
    record {
      space = codes " ";
      equals = codes "=";
      quoted = codes "\"UTF-8\"";
      is_space = (refl, λ e. cc);
      is_eq = ([], [], refl, refl, refl);
      is_quoted = (34, inl refl, refl, refl);
      spelled = refl;
    },
  );
  has_standalone = refl;
  is_blank = refl;
  form = refl;
  spelled = refl;
}

no_xml_declaration : (is_xml_declaration utf8_alone ≡ false) × (is_text_declaration utf8_alone ≡ true)
no_xml_declaration = (refl, refl)

-- a `]` in a literal, a comment or a PI doesn't end a subset
subset_goes_on : IsSubset (codes "<']'<!-- ] --><?a ]?>")
subset_goes_on = (
  other_part 60 ∷ literal_part 39 (codes "]") ∷ comment_part (codes " ] ") ∷ pi_part (codes "a ]") ∷ [],
  ((refl, refl, refl), ((inr refl, refl), (refl, (refl, tt)))),
  ascii (codes "<']'<!-- ] --><?a ]?>") refl,
  refl,
)

-- .. and one outside of them is no part of it
no_bracket_in_a_subset : AreSubsetParts (other_part 93 ∷ []) → ⊥
no_bracket_in_a_subset h = let wrong = h.0.0 in absurd (cc)

-- the `<` that begins a comment is not read alone
no_lone_comment : AreSubsetParts (other_part 60 ∷ other_part 33 ∷ other_part 45 ∷ other_part 45 ∷ []) → ⊥
no_lone_comment h = let wrong = h.0.1 in absurd (cc)

public_characters : (is_pubid_char 39 ≡ true) × (is_pubid_char 34 ≡ false) × (is_pubid_char 9 ≡ false)
public_characters = (refl, refl, refl)

shortest_doctype : IsDoctype (codes "<!DOCTYPE a>")
shortest_doctype = record {
  space = codes " ";
  name = codes "a";
  external = [];
  blank = [];
  brackets = [];
  is_space = (refl, λ e. cc);
  is_name = inl (plain_is_ncname (codes "a") refl);
  is_external = inl refl;
  is_blank = refl;
  is_brackets = inl refl;
  spelled = refl;
}

-- the forms of a declaration: a version alone; the parts in another order, and neither form
reads_a_version : declared_values.read (codes " version='1.0' ?>a") ≡ Some (record { version = Some (codes "1.0"); encoding = None; standalone = None }, codes "a")
unfolding declared_values version encoding standalone
reads_a_version = refl

reads_no_encoding_before_a_version : declared_values.read (codes " encoding='UTF-8' version='1.0'?>") ≡ None
unfolding declared_values version encoding standalone
reads_no_encoding_before_a_version = refl

reads_no_standalone_alone : declared_values.read (codes " standalone=\"yes\"?>") ≡ None
unfolding declared_values version encoding standalone
reads_no_standalone_alone = refl

-- the form of a name: it takes the name alone, and none begins with a digit
reads_a_name : q_name.read (codes "a:b c") ≡ Some (codes "a:b", codes " c")
unfolding q_name chars
reads_a_name = refl

reads_no_name : q_name.read (codes "1a") ≡ None
unfolding q_name chars
reads_no_name = refl

-- the forms of tags: one with an attribute, and an end-tag with one
reads_an_empty_tag : tag.read (codes "<a n='v' />b") ≡ Some (empty_tag, codes "b")
unfolding tag open_tag closing_tag open_end attribute att_value q_name chars many_read
reads_an_empty_tag = refl

reads_no_end_tag_with_an_attribute : tag.read (codes "</a n='v'>") ≡ None
unfolding tag open_tag closing_tag open_end attribute att_value q_name chars many_read
reads_no_end_tag_with_an_attribute = refl

-- the form of a DOCTYPE declaration: its name, and none with an external identifier that has no literal
reads_a_doctype : doctype_decl.read (codes " a SYSTEM 'b' [<]>c") ≡ Some (codes "a", codes "c")
unfolding doctype_decl external external_id system_id public_id system_literal pubid_literal brackets bracketed q_name chars many after_marked after_less
reads_a_doctype = refl

reads_no_doctype_without_a_literal : doctype_decl.read (codes " a SYSTEM>") ≡ None
unfolding doctype_decl external external_id system_id public_id system_literal pubid_literal brackets bracketed q_name chars many after_marked after_less
reads_no_doctype_without_a_literal = refl
