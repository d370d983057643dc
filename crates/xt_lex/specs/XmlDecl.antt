-- The XML declaration and the text declaration as forms: XML 1.0 (Fifth Edition), [23] to [26], [32], [77], [80], [81].
-- That they say what `xt_spec::Declaration` says is proved.
--
--   declared_values  what a declaration declares, behind `<?xml`
--   xml_decl         [23] XMLDecl or [77] TextDecl
use Rattle.std.specs.Prelude.{ℕ, Bool, ◌||◌, List, Option, codes}
use Rattle.xt_spec.specs.Declaration.{is_version_num, is_enc_name, is_yes_or_no, Declaration, is_xml_declaration, is_text_declaration}
use Rattle.xt_scan.specs.Form.{Form, word, blank, space, quoted_ascii, ◌>>>◌, ◌<<<◌, ◌&◌, given, such, maybe}

-- [25] Eq
abbrev pub equals : Form (Unit {0})
equals = blank >>> word (codes "=") >>> blank

-- S, a word, Eq, and a value in quotes that passes the test
abbrev pub word_value : List ℕ → (List ℕ → Bool) → Form (List ℕ)
word_value w test = space >>> word w >>> equals >>> quoted_ascii test

-- [24] VersionInfo
unfoldable pub version : Form (List ℕ)
version = word_value (codes "version") is_version_num

-- [80] EncodingDecl
unfoldable pub encoding : Form (List ℕ)
encoding = word_value (codes "encoding") is_enc_name

-- [32] SDDecl
unfoldable pub standalone : Form (List ℕ)
standalone = word_value (codes "standalone") is_yes_or_no

-- one of the two forms
abbrev pub has_form : Declaration → Bool
has_form d = is_xml_declaration d || is_text_declaration d

abbrev pub declaration_of : Option (List ℕ) × (Option (List ℕ) × Option (List ℕ)) → Declaration
declaration_of x = record { version = x.0; encoding = x.1.0; standalone = x.1.1 }

-- [23] XMLDecl or [77] TextDecl, behind `<?xml`
unfoldable pub declared_values : Form Declaration
declared_values = such has_form (given declaration_of (maybe version & maybe encoding & maybe standalone <<< (blank >>> word (codes "?>"))))

unfoldable pub xml_decl : Form Declaration
xml_decl = word (codes "<?xml") >>> declared_values
