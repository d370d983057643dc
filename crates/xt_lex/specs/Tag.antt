-- Tags and attributes as forms: XML 1.0 (Fifth Edition), [10], [40] to [44]; Namespaces in XML 1.0, [12] to [15].
-- A value is no sequence, and enters as a step. That they say what `xt_spec::Tag` says is proved.
--
--   attribute        S and [41] Attribute, in four parts
--   attribute_rests  what follows each of the parts; parts_before are the parts in front of such rests
--   open_tag         [40] STag or [44] EmptyElemTag, behind `<`, with its kind
--   closing_tag      [42] ETag, behind `</`
--   tag              a tag, with its kind
use Rattle.std.specs.Prelude.{ℕ, List, [], ◌∷◌, codes, Option, Some}
use Rattle.xt_spec.specs.Tag.{Attribute, IsAttValue}
use Rattle.xt_spec.specs.Token.{TokenKind, start_tag, empty_tag, end_tag}
use Rattle.xt_scan.specs.Look.{from_to}
use Rattle.xt_scan.specs.Step.{◌>>=◌}
use Rattle.xt_scan.specs.Form.{Form, word, blank, space, step, spelled, front_of, given, either_of, many, ◌>>>◌, ◌&◌}
use Rattle.xt_lex.specs.QName.{q_name}
use Rattle.xt_lex.specs.Scan.{after_quoted}
use Rattle.xt_lex.specs.XmlDecl.{equals}

-- [10] AttValue
unfoldable pub att_value : Form (Unit {0})
att_value = step IsAttValue after_quoted (from_to 0x22 0x22 ∷ from_to 0x27 0x27 ∷ [])

abbrev pub attribute_of : List ℕ × (List ℕ × (List ℕ × List ℕ)) → Attribute
attribute_of x = record { space = x.0; name = x.1.0; equals = x.1.1.0; quoted = x.1.1.1 }

-- S and [41] Attribute
unfoldable pub attribute : Form Attribute
attribute = given attribute_of (spelled space & spelled q_name & spelled equals & spelled att_value)

-- what follows the white space, the name, the Eq and the value of an attribute
abbrev pub Rests : Type 0
Rests = List ℕ × List ℕ × List ℕ × List ℕ

unfoldable pub attribute_rests : List ℕ → Option Rests
attribute_rests text =
    space.read text >>= λ a. q_name.read a.1 >>= λ b. equals.read b.1 >>= λ c. att_value.read c.1 >>= λ d. Some (a.1, b.1, c.1, d.1)

-- the parts in front of these rests
abbrev pub parts_before : List ℕ → Rests → Attribute
parts_before s x = record { space = front_of s x.0; name = front_of x.0 x.1; equals = front_of x.1 x.2; quoted = front_of x.2 x.3 }

-- how a start-tag or an empty-element tag ends
unfoldable pub open_end : Form TokenKind
open_end = either_of (given (λ x. start_tag) (word (codes ">"))) (given (λ x. empty_tag) (word (codes "/>")))

-- [40] STag or [44] EmptyElemTag, behind `<`
unfoldable pub open_tag : Form TokenKind
open_tag = q_name >>> many attribute >>> blank >>> open_end

-- [42] ETag, behind `</`
unfoldable pub closing_tag : Form TokenKind
closing_tag = given (λ x. end_tag) (q_name >>> blank >>> word (codes ">"))

unfoldable pub tag : Form TokenKind
tag = word (codes "<") >>> either_of (word (codes "/") >>> closing_tag) open_tag
