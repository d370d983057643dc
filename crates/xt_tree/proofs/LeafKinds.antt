-- What a leaf is: its item, its one mark, and that it holds none.
use Rattle.std.proofs.Common.{◌≡◌, ◌∙◌, ℕ, List, [], ◌∷◌, Option, sym, ap, subst}
use Rattle.xt_spec.specs.Tree.{Item, leaf_item, text_item, reference_item, comment_item, pi_item, gap}
use Rattle.xt_lex.specs.declared.token.Span.{Span}
use Rattle.xt_tree.specs.declared.source.Tag.{Tag}
use Rattle.xt_tree.specs.declared.source.Src.{Src}
use Rattle.xt_tree.specs.declared.source.Src.TheVariants as src
use Rattle.xt_tree.specs.declared.source.Src.TheOpen.{Src-F}
use Rattle.xt_tree.specs.declared.source.Src.TheFolds.{fold-roll-Src}
use Rattle.xt_tree.specs.Meaning.{at_span, item_step, item_of}
use Rattle.xt_tree.specs.Places.{Mark, span_mark, mark_step, marks_in, AreInPlace}
use Rattle.xt_tree.specs.Spans.{kids_at, kids_of}

pub text_is : (bytes : List ℕ) (span : Span) → item_of bytes (src.Text span) ≡ leaf_item text_item (at_span bytes span)
text_is bytes span = ap (item_of bytes) (sym (src.rolls-Text span)) ∙ fold-roll-Src Item (item_step bytes) (Src-F.Text span)

pub reference_is : (bytes : List ℕ) (span : Span) → item_of bytes (src.Ref span) ≡ leaf_item reference_item (at_span bytes span)
reference_is bytes span = ap (item_of bytes) (sym (src.rolls-Ref span)) ∙ fold-roll-Src Item (item_step bytes) (Src-F.Ref span)

pub comment_is : (bytes : List ℕ) (span : Span) → item_of bytes (src.Comment span) ≡ leaf_item comment_item (at_span bytes span)
comment_is bytes span = ap (item_of bytes) (sym (src.rolls-Comment span)) ∙ fold-roll-Src Item (item_step bytes) (Src-F.Comment span)

pub pi_is : (bytes : List ℕ) (span : Span) → item_of bytes (src.Pi span) ≡ leaf_item pi_item (at_span bytes span)
pi_is bytes span = ap (item_of bytes) (sym (src.rolls-Pi span)) ∙ fold-roll-Src Item (item_step bytes) (Src-F.Pi span)

pub gap_is : (bytes : List ℕ) (span : Span) → item_of bytes (src.Gap span) ≡ leaf_item gap (at_span bytes span)
gap_is bytes span = ap (item_of bytes) (sym (src.rolls-Gap span)) ∙ fold-roll-Src Item (item_step bytes) (Src-F.Gap span)

-- ---- marks

pub text_marks : (span : Span) → marks_in (src.Text span) ≡ span_mark span ∷ []
text_marks span = ap marks_in (sym (src.rolls-Text span)) ∙ fold-roll-Src (List Mark) mark_step (Src-F.Text span)

pub reference_marks : (span : Span) → marks_in (src.Ref span) ≡ span_mark span ∷ []
reference_marks span = ap marks_in (sym (src.rolls-Ref span)) ∙ fold-roll-Src (List Mark) mark_step (Src-F.Ref span)

pub comment_marks : (span : Span) → marks_in (src.Comment span) ≡ span_mark span ∷ []
comment_marks span = ap marks_in (sym (src.rolls-Comment span)) ∙ fold-roll-Src (List Mark) mark_step (Src-F.Comment span)

pub pi_marks : (span : Span) → marks_in (src.Pi span) ≡ span_mark span ∷ []
pi_marks span = ap marks_in (sym (src.rolls-Pi span)) ∙ fold-roll-Src (List Mark) mark_step (Src-F.Pi span)

pub gap_marks : (span : Span) → marks_in (src.Gap span) ≡ span_mark span ∷ []
gap_marks span = ap marks_in (sym (src.rolls-Gap span)) ∙ fold-roll-Src (List Mark) mark_step (Src-F.Gap span)

-- what has one mark is at that span
pub one_span : (bytes : List ℕ) (item leaf : Src) (span : Span) (from to : ℕ) → item ≡ leaf → marks_in leaf ≡ span_mark span ∷ [] → AreInPlace bytes from (marks_in item) to → (span.from ≡ from) × (span.to ≡ to)
one_span bytes item leaf span from to is marks place = let here = subst (λ (l : List Mark). AreInPlace bytes from l to) (ap marks_in is ∙ marks) place in (here.0, here.2)

-- ---- what it holds

pub element_holds : (item : Src) (head : Tag) (kids : List Src) (tail : Option Span) → item ≡ src.Elem tail head kids → kids_of item ≡ kids
element_holds item head kids tail is = ap kids_of is ∙ ap kids_at (src.outs-Elem tail head kids)

pub text_holds : (item : Src) (span : Span) → item ≡ src.Text span → kids_of item ≡ []
text_holds item span is = ap kids_of is ∙ ap kids_at (src.outs-Text span)

pub reference_holds : (item : Src) (span : Span) → item ≡ src.Ref span → kids_of item ≡ []
reference_holds item span is = ap kids_of is ∙ ap kids_at (src.outs-Ref span)

pub comment_holds : (item : Src) (span : Span) → item ≡ src.Comment span → kids_of item ≡ []
comment_holds item span is = ap kids_of is ∙ ap kids_at (src.outs-Comment span)

pub pi_holds : (item : Src) (span : Span) → item ≡ src.Pi span → kids_of item ≡ []
pi_holds item span is = ap kids_of is ∙ ap kids_at (src.outs-Pi span)

pub gap_holds : (item : Src) (span : Span) → item ≡ src.Gap span → kids_of item ≡ []
gap_holds item span is = ap kids_of is ∙ ap kids_at (src.outs-Gap span)
