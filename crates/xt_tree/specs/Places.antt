-- Where the parts of a tree have to stand in the bytes: its tags and leaves one right behind the other, in document order,
-- and in a tag the name and the attributes where their parts are. So a span is wrong also where equal bytes stand twice.
--
--   Mark         a tag, or the span of an end-tag or leaf
--   marks_of     those of a list of items, in document order
--   IsTagAt      the tag stands here, with its parts
--   AreInPlace   the marks stand one right behind the other
use Rattle.std.specs.Prelude.{◌≡◌, ℕ, ◌+◌, ◌≤◌, List, [], ◌∷◌, ◌++◌, map, length, Option, None, Some, Bool, true, false, codes}
use Rattle.xt_spec.specs.Tag.{Attribute, attribute_text, Tag, IsTag, tag_text}
use Rattle.xt_lex.specs.declared.token.Span.{Span}
use Rattle.xt_lex.specs.declared.attribute.AttrSrc.{AttrSrc}
use Rattle.xt_lex.specs.Place.{AreSpansOf}
use Rattle.xt_tree.specs.declared.source.Tag.{Tag as TagSrc}
use Rattle.xt_tree.specs.declared.source.Src.{Src}
use Rattle.xt_tree.specs.declared.source.Src.TheOpen.{Src-F, Elem, Text, Ref, Comment, Pi, Gap}
use Rattle.xt_tree.specs.declared.source.Src.TheFolds.{fold-Src}
use Rattle.xt_tree.specs.Meaning.{at_span}

pub data Mark : Type 0 where
  tag_mark : TagSrc → Mark
  span_mark : Span → Mark

abbrev pub tail_marks : Option Span → List Mark
tail_marks None = []
tail_marks (Some span) = span_mark span ∷ []

abbrev pub joined_marks : List (List Mark) → List Mark
joined_marks [] = []
joined_marks (marks ∷ others) = marks ++ joined_marks others

abbrev pub mark_step : Src-F (List Mark) → List Mark
mark_step (Elem tail head kids) = tag_mark head ∷ joined_marks kids ++ tail_marks tail
mark_step (Text span) = span_mark span ∷ []
mark_step (Ref span) = span_mark span ∷ []
mark_step (Comment span) = span_mark span ∷ []
mark_step (Pi span) = span_mark span ∷ []
mark_step (Gap span) = span_mark span ∷ []

abbrev pub marks_in : Src → List Mark
marks_in = fold-Src (List Mark) mark_step

-- the tags and spans of the items, in document order
abbrev pub marks_of : List Src → List Mark
marks_of items = joined_marks (map marks_in items)

-- a span of this text at this place
abbrev pub IsSpanAt : ℕ → List ℕ → Span → Type 0
IsSpanAt at text span = (span.from ≡ at) × (span.to ≡ at + length text)

-- the spans are where the parts of the attributes stand, one attribute right behind the other from this place on
abbrev pub AreAttributesAt : ℕ → List Attribute → List AttrSrc → Type 0
AreAttributesAt at [] spans = spans ≡ []
AreAttributesAt at (a ∷ others) [] = ⊥
AreAttributesAt at (a ∷ others) (first ∷ spans) = AreSpansOf a at first × AreAttributesAt (at + length (attribute_text a)) others spans

-- how a tag ends
abbrev pub ending : Bool → List ℕ
ending true = codes "/>"
ending false = codes ">"

-- in these bytes the tag stands here, and its parts have its spans
pub record IsTagAt (bytes : List ℕ) (at : ℕ) (source : TagSrc) : Type 0 where
  pub tag : Tag
  pub parts : IsTag tag
  pub spelled : at_span bytes source.span ≡ tag_text tag (ending source.empty)
  pub whole : IsSpanAt at (tag_text tag (ending source.empty)) source.span
  pub name : IsSpanAt (at + 1) tag.name source.name
  pub attributes : AreAttributesAt (at + 1 + length tag.name) tag.attributes source.attrs

-- from one place to another the marks stand one right behind the other
abbrev pub AreInPlace : List ℕ → ℕ → List Mark → ℕ → Type 0
AreInPlace bytes from [] to = from ≡ to
AreInPlace bytes from (tag_mark tag ∷ marks) to = IsTagAt bytes from tag × AreInPlace bytes tag.span.to marks to
AreInPlace bytes from (span_mark span ∷ marks) to = (span.from ≡ from) × (from ≤ span.to) × AreInPlace bytes span.to marks to
