-- Which markup stands at the front of a text: its kind, and what follows it. A text is the list of its bytes.
--
--   declared           what begins with `<!`: a comment, a CDATA section, a DOCTYPE declaration
--   pi_or_declaration  what begins with `<?`
--   angle_markup       what begins with `<`: a tag too
--   markup             what begins with `<` or `&`: a reference too
use Rattle.std.specs.Prelude.{ℕ, ◌==◌, List, [], ◌∷◌, codes, bytes_eq, Option, Some, None, if◌then◌else◌}
use Rattle.xt_spec.specs.Token.{TokenKind, cdata_section, comment, pi, declaration, doctype}
use Rattle.xt_lex.specs.NameTest.{is_name_byte}
use Rattle.xt_lex.specs.XmlDecl.{declared_values}
use Rattle.xt_lex.specs.DoctypeDecl.{doctype_decl}
use Rattle.xt_lex.specs.Scan.{◌>>=◌, maybe, take_while, drop_while, after, after_all, after_chars, after_target, after_data, reference}
use Rattle.xt_lex.specs.Tag.{tag}

-- behind `<![CDATA[`
abbrev pub cdata_step : List ℕ → Option (TokenKind × List ℕ)
cdata_step text = after_chars (codes "]]>") text >>= λ r. Some (cdata_section, r)

-- behind `<!--`
abbrev pub comment_step : List ℕ → Option (TokenKind × List ℕ)
comment_step text = after_chars (codes "--") text >>= λ s. after 0x3E s >>= λ r. Some (comment, r)

-- behind `<!DOCTYPE`
unfoldable pub doctype_step : List ℕ → Option (TokenKind × List ℕ)
doctype_step text = doctype_decl.read text >>= λ x. Some (doctype, x.1)

-- behind `<!`, where no `--` stands
unfoldable pub declared_section : List ℕ → Option (TokenKind × List ℕ)
declared_section text = maybe (after_all (codes "DOCTYPE") text >>= doctype_step) cdata_step (after_all (codes "[CDATA[") text)

-- behind `<!`
unfoldable pub declared : List ℕ → Option (TokenKind × List ℕ)
declared text = maybe (declared_section text) comment_step (after_all (codes "--") text)

-- behind `<?`
abbrev pub instruction : List ℕ → Option (TokenKind × List ℕ)
instruction text = after_target text >>= λ s. after_data s >>= λ r. Some (pi, r)

-- behind `<?`: a declaration, where the target is `xml`; else a PI
unfoldable pub pi_or_declaration : List ℕ → Option (TokenKind × List ℕ)
pi_or_declaration text =
    if bytes_eq (take_while is_name_byte text) (codes "xml") then (declared_values.read (drop_while is_name_byte text) >>= λ x. Some (declaration, x.1)) else instruction text

-- a token that begins with `<`, and not with `<!`
unfoldable pub tag_or_pi : List ℕ → Option (TokenKind × List ℕ)
tag_or_pi text = maybe (tag.read text) pi_or_declaration (after_all (codes "<?") text)

-- a token that begins with `<`
unfoldable pub angle_markup : List ℕ → Option (TokenKind × List ℕ)
angle_markup text = maybe (tag_or_pi text) declared (after_all (codes "<!") text)

-- a token that begins with `<` or `&`
abbrev pub markup : List ℕ → Option (TokenKind × List ℕ)
markup [] = None
markup (b ∷ bs) = if b == 0x3C then angle_markup (b ∷ bs) else (if b == 0x26 then reference (b ∷ bs) else None)
