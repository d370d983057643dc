use Rattle.std.proofs.Common.{◌∙◌, ap, sym, not}
use Rattle.xt_spec.specs.Text as of_text
use Rattle.xt_spec.specs.Tree.{text_item, reference_item, comment_item, pi_item, gap}
use Rattle.xt_tree.specs.declared.source.Src.TheVariants as src
use Rattle.xt_tree.specs.Items.{head_in, item_in}
use Rattle.xt_tree.proofs.Theorems.{text_is, reference_is, comment_is, pi_is, gap_is}
use Rattle.ed_session.proofs.KindLemmas.{element_gives, leaf_gives}
use Rattle.ed_session.proofs.place.gives_node.Goals as goal

pub returns-in-Elem : goal.returns-in-Elem
returns-in-Elem c = record { value = sym (element_gives c.args.bytes.now (item_in c.args.item.now) (head_in c.in-Elem.head) c.in-Elem.kids c.in-Elem.tail (ap item_in c.in-Elem.is)) }

pub returns-in-Text : goal.returns-in-Text
returns-in-Text c = record {
  value = ap not (c.is_void.ensures.value ∙ ap of_text.is_void c.bytes_at.ensures.value)
      ∙ sym (leaf_gives c.args.bytes.now (item_in c.args.item.now) (src.Text c.in-Text.span) text_item c.in-Text.span (ap item_in c.in-Text.is) (text_is c.args.bytes.now c.in-Text.span));
}

pub returns-in-Ref : goal.returns-in-Ref
returns-in-Ref c = record { value = sym (leaf_gives c.args.bytes.now (item_in c.args.item.now) (src.Ref c.in-Ref.field-0) reference_item c.in-Ref.field-0 (ap item_in c.in-Ref.is) (reference_is c.args.bytes.now c.in-Ref.field-0)) }

pub returns-in-Comment : goal.returns-in-Comment
returns-in-Comment c = record { value = sym (leaf_gives c.args.bytes.now (item_in c.args.item.now) (src.Comment c.in-Comment.field-0) comment_item c.in-Comment.field-0 (ap item_in c.in-Comment.is) (comment_is c.args.bytes.now c.in-Comment.field-0)) }

pub returns-in-Pi : goal.returns-in-Pi
returns-in-Pi c = record { value = sym (leaf_gives c.args.bytes.now (item_in c.args.item.now) (src.Pi c.in-Pi.field-0) pi_item c.in-Pi.field-0 (ap item_in c.in-Pi.is) (pi_is c.args.bytes.now c.in-Pi.field-0)) }

pub returns-in-Gap : goal.returns-in-Gap
returns-in-Gap c = record { value = sym (leaf_gives c.args.bytes.now (item_in c.args.item.now) (src.Gap c.in-Gap.field-0) gap c.in-Gap.field-0 (ap item_in c.in-Gap.is) (gap_is c.args.bytes.now c.in-Gap.field-0)) }
