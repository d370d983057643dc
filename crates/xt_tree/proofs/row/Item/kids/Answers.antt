use Rattle.std.proofs.Common.{◌∙◌, ap, sym}
use Rattle.xt_tree.specs.Items.{head_in, item_in}
use Rattle.xt_tree.proofs.LeafKinds.{element_holds, text_holds, reference_holds, comment_holds, pi_holds, gap_holds}
use Rattle.xt_tree.proofs.row.Item.kids.Goals as goal

pub returns-in-Elem : goal.returns-in-Elem
returns-in-Elem c = record { value = c.again.ensures.value ∙ sym (element_holds (item_in c.args.self.now) (head_in c.in-Elem.head) c.in-Elem.kids c.in-Elem.tail (ap item_in c.in-Elem.is)) }

pub returns-in-Text : goal.returns-in-Text
returns-in-Text c = record { value = c.no_items.ensures.value ∙ sym (text_holds (item_in c.args.self.now) c.in-Text.field-0 (ap item_in c.in-Text.is)) }

pub returns-in-Ref : goal.returns-in-Ref
returns-in-Ref c = record { value = c.no_items-in-Ref.ensures.value ∙ sym (reference_holds (item_in c.args.self.now) c.in-Ref.field-0 (ap item_in c.in-Ref.is)) }

pub returns-in-Comment : goal.returns-in-Comment
returns-in-Comment c = record { value = c.no_items-in-Comment.ensures.value ∙ sym (comment_holds (item_in c.args.self.now) c.in-Comment.field-0 (ap item_in c.in-Comment.is)) }

pub returns-in-Pi : goal.returns-in-Pi
returns-in-Pi c = record { value = c.no_items-in-Pi.ensures.value ∙ sym (pi_holds (item_in c.args.self.now) c.in-Pi.field-0 (ap item_in c.in-Pi.is)) }

pub returns-in-Gap : goal.returns-in-Gap
returns-in-Gap c = record { value = c.no_items-in-Gap.ensures.value ∙ sym (gap_holds (item_in c.args.self.now) c.in-Gap.field-0 (ap item_in c.in-Gap.is)) }
