-- What stands in front of a body, and one text behind a byte order mark, as items of the text, with their marks.
use Rattle.std.proofs.Common.{◌≡◌, ◌∙◌, ℕ, List, [], ◌∷◌, ◌++◌, refl, ap, Bool, true, false, ◌==◌, if◌then◌else◌, Option, Some, None}
use Rattle.xt_spec.specs.Tree.{nil, leaf, text_item, gap, before}
use Rattle.xt_lex.specs.declared.token.Span.{Span}
use Rattle.xt_tree.specs.declared.source.Src.{Src}
use Rattle.xt_tree.specs.declared.source.Src.TheVariants as src
use Rattle.xt_tree.specs.declared.building.Leaf.TheVariants as code
use Rattle.xt_tree.specs.Meaning.{at_span, items_in}
use Rattle.xt_tree.specs.Places.{span_mark, marks_of}
use Rattle.xt_read.specs.FrontSteps.{mark_src, declared_src, text_src, front_src, mark_gap, declared_gap, front_items, declared_marks, front_marks, text_part, one_text_items, text_part_marks, one_text_marks}
use Rattle.xt_read.proofs.Marks.{leaf_is, text_marks, gap_marks}

behind_mark_gap : (text : List ℕ) (len : ℕ) (items : List Src) → items_in text (mark_src len ++ items) ≡ mark_gap text len (items_in text items)
behind_mark_gap text len items = by (len == 0)
  where
    by : (b : Bool) → items_in text ((if b then [] else src.Gap (record { from = 0; to = len }) ∷ []) ++ items) ≡ (if b then items_in text items else leaf gap (at_span text (record { from = 0; to = len })) (items_in text items))
    by true = refl
    by false = ap (λ i. before i (items_in text items)) (leaf_is text code.Gap (record { from = 0; to = len }))

behind_mark : (len : ℕ) (items : List Src) → marks_of (mark_src len ++ items) ≡ (if len == 0 then marks_of items else span_mark (record { from = 0; to = len }) ∷ marks_of items)
behind_mark len items = by (len == 0)
  where
    by : (b : Bool) → marks_of ((if b then [] else src.Gap (record { from = 0; to = len }) ∷ []) ++ items) ≡ (if b then marks_of items else span_mark (record { from = 0; to = len }) ∷ marks_of items)
    by true = refl
    by false = ap (λ m. m ++ marks_of items) (gap_marks (record { from = 0; to = len }))

declared_are : (text : List ℕ) (declared : Option Span) → items_in text (declared_src declared) ≡ declared_gap text declared
declared_are text None = refl
declared_are text (Some span) = ap (λ i. before i nil) (leaf_is text code.Gap span)

pub front_are : (text : List ℕ) (len : ℕ) (declared : Option Span) → items_in text (front_src len declared) ≡ front_items text len declared
front_are text len declared = behind_mark_gap text len (declared_src declared) ∙ ap (mark_gap text len) (declared_are text declared)

declared_stand : (declared : Option Span) → marks_of (declared_src declared) ≡ declared_marks declared
declared_stand None = refl
declared_stand (Some span) = ap (λ m. m ++ []) (gap_marks span)

pub front_stand : (len : ℕ) (declared : Option Span) → marks_of (front_src len declared) ≡ front_marks len declared
front_stand len declared = behind_mark len (declared_src declared) ∙ ap (λ m. if len == 0 then m else span_mark (record { from = 0; to = len }) ∷ m) (declared_stand declared)

text_are : (text : List ℕ) (from to : ℕ) → items_in text (text_src from to) ≡ text_part text from to
text_are text from to = by (from == to)
  where
    by : (b : Bool) → items_in text (if b then [] else src.Text (record { from = from; to = to }) ∷ []) ≡ (if b then nil else leaf text_item (at_span text (record { from = from; to = to })) nil)
    by true = refl
    by false = ap (λ i. before i nil) (leaf_is text code.Text (record { from = from; to = to }))

text_stand : (from to : ℕ) → marks_of (text_src from to) ≡ text_part_marks from to
text_stand from to = by (from == to)
  where
    by : (b : Bool) → marks_of (if b then [] else src.Text (record { from = from; to = to }) ∷ []) ≡ (if b then [] else span_mark (record { from = from; to = to }) ∷ [])
    by true = refl
    by false = ap (λ m. m ++ []) (text_marks (record { from = from; to = to }))

pub one_text_are : (text : List ℕ) (len to : ℕ) (tape all : List Src) → tape ≡ text_src len to → all ≡ mark_src len ++ tape → items_in text all ≡ one_text_items text len to
one_text_are text len to tape all is put =
    ap (items_in text) (put ∙ ap (λ t. mark_src len ++ t) is) ∙ behind_mark_gap text len (text_src len to) ∙ ap (mark_gap text len) (text_are text len to)

pub one_text_stand : (len to : ℕ) (tape all : List Src) → tape ≡ text_src len to → all ≡ mark_src len ++ tape → marks_of all ≡ one_text_marks len to
one_text_stand len to tape all is put =
    ap marks_of (put ∙ ap (λ t. mark_src len ++ t) is) ∙ behind_mark len (text_src len to) ∙ ap (λ m. if len == 0 then m else span_mark (record { from = 0; to = len }) ∷ m) (text_stand len to)
