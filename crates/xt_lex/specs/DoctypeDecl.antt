-- The DOCTYPE declaration as forms: XML 1.0 (Fifth Edition), [11], [12], [28], [75]; Namespaces in XML 1.0, [16].
-- A subset is no sequence, and enters as a step. That they say what `xt_spec::Doctype` says is proved.
--
--   external_id   [75] ExternalID
--   external      S and an external identifier, or nothing
--   brackets      a subset in brackets and S?, or nothing
--   doctype_decl  [28] doctypedecl behind `<!DOCTYPE`, with its name
use Rattle.std.specs.Prelude.{◌≡◌, ℕ, List, [], ◌∷◌, ◌++◌, codes}
use Rattle.std.specs.List.{list_all}
use Rattle.xt_spec.specs.Doctype.{is_pubid_char, IsSubset}
use Rattle.xt_spec.specs.Markup.{AreChars}
use Rattle.xt_scan.specs.Look.{from_to}
use Rattle.xt_scan.specs.Form.{Form, word, blank, space, quoted, quoted_ascii, step, ◌>>>◌, ◌<<<◌, given, either_of, maybe}
use Rattle.xt_lex.specs.QName.{q_name}
use Rattle.xt_lex.specs.Scan.{are_chars, after_bracketed}

-- [11] SystemLiteral
unfoldable pub system_literal : Form (List ℕ)
system_literal = quoted are_chars AreChars

-- [12] PubidLiteral
unfoldable pub pubid_literal : Form (List ℕ)
pubid_literal = quoted_ascii (list_all is_pubid_char)

unfoldable pub system_id : Form (Unit {0})
system_id = word (codes "SYSTEM") >>> space <<< system_literal

unfoldable pub public_id : Form (Unit {0})
public_id = word (codes "PUBLIC") >>> space >>> pubid_literal >>> space <<< system_literal

-- [75] ExternalID
unfoldable pub external_id : Form (Unit {0})
external_id = either_of system_id public_id

-- S and an external identifier, or nothing
unfoldable pub external : Form (Unit {0})
external = given (λ x. tt) (maybe (space >>> external_id))

abbrev pub IsBracketed : List ℕ → Type 0
IsBracketed text = (subset : List ℕ) × IsSubset subset × (text ≡ codes "[" ++ subset ++ codes "]")

-- a subset in brackets
unfoldable pub bracketed : Form (Unit {0})
bracketed = step IsBracketed after_bracketed (from_to 0x5B 0x5B ∷ [])

-- .. and S?, or nothing
unfoldable pub brackets : Form (Unit {0})
brackets = given (λ x. tt) (maybe (bracketed <<< blank))

-- [28] doctypedecl, behind `<!DOCTYPE`: its name
unfoldable pub doctype_decl : Form (List ℕ)
doctype_decl = space >>> q_name <<< (external >>> blank >>> brackets >>> word (codes ">"))
