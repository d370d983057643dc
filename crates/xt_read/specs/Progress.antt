-- What a reader's state means in the bytes of its file: the state of a run, and where its marks have to stand.
--
--   stage_of      how far the top of a document has come
--   body_of       what is read
--   state_of      the state
--   kind_of_leaf  the kind of a leaf
--   Gives         a step of the run is what a call answered
--   all_marks     the tags and spans of all that was read, in document order
use Rattle.std.specs.Prelude.{◌≡◌, ◌≤◌, ◌⊎◌, ℕ, List, [], ◌∷◌, ◌++◌, map, Option, Some, None, option_map, Result, Ok, Err, Bool, true, false, not, ◌&&◌, bytes_eq}
use Rattle.std.specs.List.{list_any}
use Rattle.xt_tree.specs.declared.building.Leaf.{Leaf}
use Rattle.xt_tree.specs.declared.building.Leaf.TheVariants as leaf
use Rattle.xt_spec.specs.Tree.{LeafKind, text_item, reference_item, comment_item, pi_item, gap}
use Rattle.xt_tree.specs.Rows.{OpenTag}
use Rattle.xt_tree.specs.Built.{Built, built}
use Rattle.xt_lex.specs.declared.token.Span.{Span}
use Rattle.xt_lex.specs.declared.attribute.AttrSrc.{AttrSrc}
use Rattle.xt_tree.specs.Meaning.{at_span, item_of}
use Rattle.xt_tree.specs.Places.{Mark, tag_mark, span_mark, tail_marks, marks_of, AreInPlace}
use Rattle.xt_spec.specs.Reading.{Stage, before_doctype, before_root, behind_root}
use Rattle.xt_read.specs.Run.{Body, document_body, content_body, OpenElement, State, Tok, is_too_deep, step}
use Rattle.xt_read.specs.declared.reader.Reader.{Reader}
use Rattle.xt_read.specs.declared.stage.Stage.{Stage as StageOfCode}
use Rattle.xt_read.specs.declared.stage.Stage.TheVariants as code
use Rattle.xt_read.specs.declared.stage.Body.{Body as BodyOfCode}
use Rattle.xt_read.specs.declared.stage.Body.TheVariants as body
use Rattle.xt_read.specs.declared.unread.Halt.{Halt}
use Rattle.xt_read.specs.declared.unread.Halt.TheVariants.{Misplaced, TooDeep, NoMemory}

abbrev pub stage_of : StageOfCode → Stage
stage_of code.BeforeDoctype = before_doctype
stage_of code.BeforeRoot = before_root
stage_of code.BehindRoot = behind_root

abbrev pub body_of : BodyOfCode → Body
body_of body.Document = document_body
body_of body.Content = content_body

abbrev pub element_of : List ℕ → OpenTag → OpenElement
element_of bytes o = record { open_tag = at_span bytes o.head.span; name = at_span bytes o.head.name; before = map (item_of bytes) o.before }

abbrev pub state_of : List ℕ → Reader → State
state_of bytes reader = record {
  opened = map (element_of bytes) (built reader.tape).opened;
  items = map (item_of bytes) (built reader.tape).items;
  text = option_map (at_span bytes) reader.text;
  stage = option_map stage_of reader.stage;
}

-- the names of the attributes
abbrev pub names_at : List ℕ → List AttrSrc → List (List ℕ)
names_at bytes attrs = map (λ a. at_span bytes a.name) attrs

-- no two of the attributes have one name: `are_distinct` of their names
abbrev pub are_apart : List ℕ → List AttrSrc → Bool
are_apart bytes [] = true
are_apart bytes (a ∷ others) = not (list_any (λ other. bytes_eq (at_span bytes a.name) (at_span bytes other.name)) others) && are_apart bytes others

-- the kind of a leaf
abbrev pub kind_of_leaf : Leaf → LeafKind
kind_of_leaf leaf.Text = text_item
kind_of_leaf leaf.Ref = reference_item
kind_of_leaf leaf.Comment = comment_item
kind_of_leaf leaf.Pi = pi_item
kind_of_leaf leaf.Gap = gap

-- the token led to this state, or may not stand, unless memory ran out
abbrev pub Gives : State → Tok → Result (Unit {0}) Halt → State → Type 0
Gives s tok (Ok _) new = step s tok ≡ Some new
Gives s tok (Err Misplaced) new = (step s tok ≡ None) × (is_too_deep s tok ≡ false)
Gives s tok (Err TooDeep) new = is_too_deep s tok ≡ true
Gives s tok (Err NoMemory) new = Unit {0}

-- the open elements' marks, the innermost first, each behind those of the items before it
abbrev pub open_marks : List OpenTag → List Mark
open_marks [] = []
open_marks (o ∷ os) = open_marks os ++ (marks_of o.before ++ tag_mark o.head ∷ [])

-- the marks of what was built
abbrev pub marks_built : Built → List Mark
marks_built b = open_marks b.opened ++ marks_of b.items

-- the marks of all that was read but for the text item that may go on
abbrev pub settled_marks : Reader → List Mark
settled_marks reader = marks_built (built reader.tape)

-- the marks of all that was read
abbrev pub all_marks : Reader → List Mark
all_marks reader = settled_marks reader ++ tail_marks reader.text

-- the text item ends where the span begins
abbrev pub Joins : Option Span → Span → Type 0
Joins None span = span.from ≤ span.to
Joins (Some text) span = (text.from ≤ text.to) × (text.to ≡ span.from) × (span.from ≤ span.to)

-- the text item with the span behind it
abbrev pub joined_span : Option Span → Span → Span
joined_span None span = span
joined_span (Some text) span = record { from = text.from; to = span.to }

-- the span stands behind all that was read, as a mark of its own or at the end of the text item
abbrev pub AddsText : Reader → Span → Reader → Type 0
AddsText old span new = (all_marks new ≡ all_marks old ++ span_mark span ∷ [])
    ⊎ (all_marks new ≡ settled_marks old ++ span_mark (joined_span old.text span) ∷ [])

-- all that was read stands in its place, up to this one
abbrev pub IsPlaced : List ℕ → Reader → ℕ → Type 0
IsPlaced bytes reader at = (from : ℕ) × AreInPlace bytes from (all_marks reader) at

-- what stood in its place up to one place stands so with what was read on to another
abbrev pub PlacesOn : List ℕ → Reader → Reader → ℕ → ℕ → Type 0
PlacesOn bytes old new at to = (from : ℕ) → AreInPlace bytes from (all_marks old) at → AreInPlace bytes from (all_marks new) to
