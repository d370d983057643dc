-- The XML declaration and the text declaration, after XML 1.0 (Fifth Edition), sections 2.3, 2.8, 2.9, 4.3.1 and 4.3.3.
-- A text is the list of its bytes, as written. Where a declaration may stand is asked of the reading.
--
--   Declaration     what a declaration declares: a version, an encoding, whether it stands alone
--   IsDeclarationOf the text is [23] XMLDecl or [77] TextDecl, and declares this
--   is_utf8_or_absent  no encoding is declared, or UTF-8
use Rattle.std.specs.Prelude.{◌≡◌, ℕ, Bool, true, false, not, ◌&&◌, ◌||◌, ◌==◌, IsTrue, List, [], ◌∷◌, ◌++◌, codes, bytes_eq, Option, None, Some}
use Rattle.std.specs.List.{list_all}
use Rattle.std.specs.Str.{str_eq_ignore_ascii_case}
use Rattle.xt_spec.specs.Char.{is_within}
use Rattle.xt_spec.specs.Reference.{is_decimal_digit}
use Rattle.xt_spec.specs.Tag.{IsBlank, IsSpace, IsEq, IsQuote}

-- [26] VersionNum: `1.` and one or more digits
abbrev pub is_version_num : List ℕ → Bool
is_version_num (a ∷ b ∷ c ∷ digits) = a == 0x31 && b == 0x2E && list_all is_decimal_digit (c ∷ digits)
is_version_num (a ∷ b ∷ []) = false
is_version_num (a ∷ []) = false
is_version_num [] = false

abbrev pub is_latin_letter : ℕ → Bool
is_latin_letter b = is_within 0x41 0x5A b || is_within 0x61 0x7A b

abbrev pub is_encoding_char : ℕ → Bool
is_encoding_char b = is_latin_letter b || is_decimal_digit b || b == 0x2E || b == 0x5F || b == 0x2D

-- [81] EncName: a Latin letter, then letters, digits, `.`, `_` and `-`
abbrev pub is_enc_name : List ℕ → Bool
is_enc_name [] = false
is_enc_name (b ∷ bs) = is_latin_letter b && list_all is_encoding_char bs

abbrev pub is_yes_or_no : List ℕ → Bool
is_yes_or_no text = bytes_eq text (codes "yes") || bytes_eq text (codes "no")

-- the text is another one between quotes that don't stand in it
abbrev pub IsQuoted : List ℕ → List ℕ → Type 0
IsQuoted inner text = (q : ℕ) × IsQuote q × IsTrue (list_all (λ b. not (b == q)) inner) × (text ≡ (q ∷ inner) ++ q ∷ [])

-- S, a word, Eq, and a value in quotes: the form of [24] VersionInfo, [80] EncodingDecl and [32] SDDecl
pub record IsWordAndValue (word value text : List ℕ) : Type 0 where
  pub space : List ℕ
  pub equals : List ℕ
  pub quoted : List ℕ
  pub is_space : IsSpace space
  pub is_eq : IsEq equals
  pub is_quoted : IsQuoted value quoted
  pub spelled : text ≡ space ++ word ++ equals ++ quoted

-- the word with a value that passes the test; or nothing
abbrev pub IsPart : List ℕ → (List ℕ → Bool) → Option (List ℕ) → List ℕ → Type 0
IsPart word test None text = text ≡ []
IsPart word test (Some value) text = IsTrue (test value) × IsWordAndValue word value text

-- the values that are written
pub record Declaration : Type 0 where
  pub version : Option (List ℕ)
  pub encoding : Option (List ℕ)
  pub standalone : Option (List ℕ)

abbrev pub is_some : Option (List ℕ) → Bool
is_some None = false
is_some (Some x) = true

-- [23] XMLDecl has a version
abbrev pub is_xml_declaration : Declaration → Bool
is_xml_declaration d = is_some d.version

-- [77] TextDecl has an encoding, and nothing of standalone
abbrev pub is_text_declaration : Declaration → Bool
is_text_declaration d = is_some d.encoding && not (is_some d.standalone)

-- [23] XMLDecl or [77] TextDecl; both, where it has a version and an encoding alone
pub record IsDeclarationOf (d : Declaration) (text : List ℕ) : Type 0 where
  pub version : List ℕ
  pub encoding : List ℕ
  pub standalone : List ℕ
  pub blank : List ℕ
  pub has_version : IsPart (codes "version") is_version_num d.version version
  pub has_encoding : IsPart (codes "encoding") is_enc_name d.encoding encoding
  pub has_standalone : IsPart (codes "standalone") is_yes_or_no d.standalone standalone
  pub is_blank : IsBlank blank
  pub form : IsTrue (is_xml_declaration d || is_text_declaration d)
  pub spelled : text ≡ codes "<?xml" ++ version ++ encoding ++ standalone ++ blank ++ codes "?>"

abbrev pub IsDeclaration : List ℕ → Type 0
IsDeclaration text = (d : Declaration) × IsDeclarationOf d text

-- no encoding is declared, or UTF-8, in any letter case (4.3.3)
abbrev pub is_utf8_or_absent : Option (List ℕ) → Bool
is_utf8_or_absent None = true
is_utf8_or_absent (Some name) = str_eq_ignore_ascii_case name (codes "UTF-8")
