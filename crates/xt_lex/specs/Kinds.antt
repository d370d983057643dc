-- Which kind of token of `xt_spec` a kind of this crate means.
use Rattle.xt_spec.specs.Token.{TokenKind, start_tag, empty_tag, end_tag, char_data, char_ref, entity_ref, cdata_section, comment, pi, declaration, doctype}
use Rattle.xt_lex.specs.declared.token.Kind.{Kind}
use Rattle.xt_lex.specs.declared.token.Kind.TheVariants as kind

abbrev pub kind_of : Kind → TokenKind
kind_of kind.Start = start_tag
kind_of kind.Empty = empty_tag
kind_of kind.End = end_tag
kind_of kind.Chars = char_data
kind_of kind.CharRef = char_ref
kind_of kind.EntRef = entity_ref
kind_of kind.CData = cdata_section
kind_of kind.Comment = comment
kind_of kind.Pi = pi
kind_of kind.Decl = declaration
kind_of kind.Doctype = doctype
