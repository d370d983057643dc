-- Where the item at a path stands in the bytes of its file, and what its whole span is good for.
--
--   kids_of    the items that an item holds
--   IsClosed   an element without an end-tag holds nothing
--   Stands     an item's text is from one place to another, so that others are put there by replacing these bytes
--   IsItemAt   .. and its tags and leaves stand there one right behind the other
--   IsItemSpan an item is at the path, and its text is at this span
use Rattle.std.specs.Prelude.{◌≡◌, ℕ, ◌≤◌, List, [], ◌++◌, take, drop, length, None, Some}
use Rattle.xt_spec.specs.Tree.{Item, element_item, leaf_item, Items, nil, before, source_text}
use Rattle.xt_spec.specs.Paths.{item_at, replaced}
use Rattle.xt_lex.specs.declared.token.Span.{Span}
use Rattle.xt_tree.specs.declared.source.Src.{Src, out-Src}
use Rattle.xt_tree.specs.declared.source.Src.TheOpen.{Src-F, Elem, Text, Ref, Comment, Pi, Gap}
use Rattle.xt_tree.specs.Meaning.{at_span, items_in}
use Rattle.xt_tree.specs.Places.{marks_in, AreInPlace}

-- the items that an item holds; a leaf holds none
abbrev pub kids_at : Src-F Src → List Src
kids_at (Elem tail head kids) = kids
kids_at (Text span) = []
kids_at (Ref span) = []
kids_at (Comment span) = []
kids_at (Pi span) = []
kids_at (Gap span) = []

abbrev pub kids_of : Src → List Src
kids_of item = kids_at (out-Src item)

-- an element that has no end-tag holds nothing, as an empty-element tag stands for it (XML 1.0, 3.1)
abbrev pub IsClosed : Item → Type 0
IsClosed (element_item open_tag kids None) = kids ≡ nil
IsClosed (element_item open_tag kids (Some close)) = Unit {0}
IsClosed (leaf_item kind text) = Unit {0}

-- the item at the path is what stands from one place to another: what is put in its place comes in place of these bytes
pub record Stands (bytes : List ℕ) (items : Items) (path : List ℕ) (from to : ℕ) : Type 0 where
  pub order : from ≤ to
  pub within : to ≤ length bytes
  pub replaced : (others : Items) → source_text (replaced items path others) ≡ take from bytes ++ source_text others ++ drop to bytes

-- the item stands in its place in the bytes, and is the one at the path
pub record IsItemAt (bytes : List ℕ) (items : List Src) (path : List ℕ) (item : Src) : Type 0 where
  pub from : ℕ
  pub to : ℕ
  pub marks : AreInPlace bytes from (marks_in item) to
  pub stands : Stands bytes (items_in bytes items) path from to

-- the span is that of the item at the path, whose text is there
pub record IsItemSpan (bytes : List ℕ) (items : Items) (path : List ℕ) (span : Span) : Type 0 where
  pub item : Item
  pub found : item_at items path ≡ Some item
  pub text : at_span bytes span ≡ source_text (before item nil)
  pub stands : Stands bytes items path span.from span.to
