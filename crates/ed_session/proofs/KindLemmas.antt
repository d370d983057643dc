-- Items of each kind: which of them is a text, and which give a node.
use Rattle.std.proofs.Common.{◌≡◌, ◌∙◌, ℕ, List, ap, refl, true, false, Option}
use Rattle.xt_spec.specs.Tree.{leaf_item, LeafKind}
use Rattle.xt_lex.specs.declared.token.Span.{Span}
use Rattle.xt_tree.specs.declared.source.Tag.{Tag}
use Rattle.xt_tree.specs.declared.source.Src.{Src}
use Rattle.xt_tree.specs.declared.source.Src.TheVariants as src
use Rattle.xt_tree.specs.declared.row.Item.{Item as Shown}
use Rattle.xt_tree.specs.declared.row.Item.TheVariants as shown
use Rattle.xt_tree.specs.Items.{head_in, item_in}
use Rattle.xt_tree.specs.Meaning.{at_span, item_of}
use Rattle.xt_tree.proofs.Theorems.{element_is, reference_is, comment_is, pi_is, gap_is}
use Rattle.bk_spec.specs.NodePaths.{gives_node}
use Rattle.ed_spec.specs.Edit.{is_text}
use Rattle.ed_session.specs.Items.{gives_node_item}

pub no_text : (bytes : List ℕ) (item : Shown) → ((span : Span) → item ≡ shown.Text span → ⊥) → is_text (item_of bytes (item_in item)) ≡ false
no_text bytes (shown.Elem head kids tail) not = ap is_text (element_is bytes (head_in head) kids tail)
no_text bytes (shown.Text span) not = absurd (not span refl)
no_text bytes (shown.Ref span) not = ap is_text (reference_is bytes span)
no_text bytes (shown.Comment span) not = ap is_text (comment_is bytes span)
no_text bytes (shown.Pi span) not = ap is_text (pi_is bytes span)
no_text bytes (shown.Gap span) not = ap is_text (gap_is bytes span)

pub element_gives : (bytes : List ℕ) (item : Src) (head : Tag) (kids : List Src) (tail : Option Span) → item ≡ src.Elem tail head kids → gives_node_item (item_of bytes item) ≡ true
element_gives bytes item head kids tail is = ap gives_node_item (ap (item_of bytes) is ∙ element_is bytes head kids tail)

pub leaf_gives : (bytes : List ℕ) (item same : Src) (kind : LeafKind) (span : Span) → item ≡ same → item_of bytes same ≡ leaf_item kind (at_span bytes span) → gives_node_item (item_of bytes item) ≡ gives_node kind (at_span bytes span)
leaf_gives bytes item same kind span is leaf = ap gives_node_item (ap (item_of bytes) is ∙ leaf)
