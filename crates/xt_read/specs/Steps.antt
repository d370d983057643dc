-- What a call of the reader did with one token of the text, and a tag while its attributes are being read.
--
--   IsTagAhead  a tag stands at a place, and something behind it
--   IsTagSoFar  .. and its attributes are known up to another place
--   Takes       the token is the longest at its place, and the run went on with it, or may not
use Rattle.std.specs.Prelude.{◌≡◌, ◌<◌, ◌≤◌, ◌^◌, ℕ, ◌+◌, List, ◌++◌, length, drop, map, Result, Ok, Err, Some, None, Bool, true, false}
use Rattle.std.specs.List.{concat}
use Rattle.xt_spec.specs.Name.{IsQName}
use Rattle.xt_spec.specs.Tag.{Attribute, attribute_text, Tag, IsTag, tag_text, IsEndTag}
use Rattle.std.specs.Str.{IsCharBoundary}
use Rattle.xt_spec.specs.Token.{IsLongestFront}
use Rattle.xt_lex.specs.Kinds.{kind_of}
use Rattle.xt_lex.specs.declared.token.Token.{Token}
use Rattle.xt_lex.specs.declared.attribute.AttrSrc.{AttrSrc}
use Rattle.xt_lex.specs.declared.token.Span.{Span}
use Rattle.xt_tree.specs.Meaning.{at_span}
use Rattle.xt_tree.specs.Places.{AreAttributesAt, ending}
use Rattle.xt_read.specs.Run.{Tok, tok_text, IsToken, State, is_too_deep, step}
use Rattle.xt_read.specs.declared.unread.Halt.{Halt}
use Rattle.xt_read.specs.declared.unread.Halt.TheVariants.{Misplaced, TooDeep, NoMemory}

-- from one place of the text to another a tag stands, which ends so
pub record IsTagAhead (text : List ℕ) (from to : ℕ) (empty : Bool) : Type 0 where
  pub tag : Tag
  pub rest : List ℕ
  pub parts : IsTag tag
  pub stands : drop from text ≡ tag_text tag (ending empty) ++ rest
  pub size : to ≡ from + length (tag_text tag (ending empty))

-- .. and its attributes up to this place have these spans
pub record IsTagSoFar (text : List ℕ) (from to : ℕ) (empty : Bool) (at : ℕ) (spans : List AttrSrc) : Type 0 where
  pub ahead : IsTagAhead text from to empty
  pub done : List Attribute
  pub left : List Attribute
  pub split : ahead.tag.attributes ≡ done ++ left
  pub placed : AreAttributesAt (from + 1 + length ahead.tag.name) done spans
  pub at_is : at ≡ from + 1 + length ahead.tag.name + length (concat (map attribute_text done))
  pub stands : drop at text ≡ concat (map attribute_text left) ++ (ahead.tag.blank ++ (ending empty ++ ahead.rest))

-- from one place of the text to another an end-tag stands
pub record IsEndTagAhead (text : List ℕ) (from to : ℕ) : Type 0 where
  pub name : List ℕ
  pub tag : List ℕ
  pub rest : List ℕ
  pub named : IsQName name
  pub spelled : IsEndTag name tag
  pub stands : drop from text ≡ tag ++ rest
  pub size : to ≡ from + length tag

-- at the span an end-tag of this name stands
abbrev pub IsEndTagNamed : List ℕ → Span → List ℕ → Type 0
IsEndTagNamed text span name = IsQName name × IsEndTag name (at_span text span)

-- the token is the longest at its place, and stands on characters of the text
pub record IsTokenAt (text : List ℕ) (token : Token) : Type 0 where
  pub size : ℕ
  pub to : token.span.to ≡ token.span.from + size
  pub longest : IsLongestFront (drop token.span.from text) (kind_of token.kind) size
  pub some : token.span.from < token.span.to
  pub within : token.span.to ≤ length text
  pub from_cut : IsCharBoundary text token.span.from
  pub to_cut : IsCharBoundary text token.span.to
  pub fits : length text < 2 ^ 32

-- the token of the code is this one of the run
pub record IsTok (text : List ℕ) (token : Token) (tok : Tok) : Type 0 where
  pub is : IsToken tok (drop token.span.from text)
  pub to : token.span.to ≡ token.span.from + length (tok_text tok)

-- the run goes on with the token, or the token may not stand; memory may run out
abbrev pub Takes : List ℕ → Token → State → Result (Unit {0}) Halt → State → Type 0
Takes text token s (Ok _) t = (tok : Tok) × IsTok text token tok × (step s tok ≡ Some t)
Takes text token s (Err Misplaced) t = (tok : Tok) × IsTok text token tok × (step s tok ≡ None) × (is_too_deep s tok ≡ false)
Takes text token s (Err TooDeep) t = (tok : Tok) × IsTok text token tok × (is_too_deep s tok ≡ true)
Takes text token s (Err NoMemory) t = Unit {0}
