use Rattle.std.proofs.Common.{ap}
use Rattle.xt_spec.specs.Tree.{reference_item, comment_item, pi_item, gap}
use Rattle.xt_tree.specs.declared.source.Src.TheVariants as src
use Rattle.xt_tree.specs.Items.{head_in, item_in}
use Rattle.xt_tree.proofs.Theorems.{reference_is, comment_is, pi_is, gap_is}
use Rattle.ed_text.proofs.TextPlaceLemmas.{is_text, is_element, is_other}
use Rattle.ed_text.proofs.text.is_text.Goals as goal

pub returns-in-Text : goal.returns-in-Text
returns-in-Text c = record { value = λ bytes. is_text bytes (item_in c.args.item.now) c.in-Text.field-0 (ap item_in c.in-Text.is) }

pub returns-in-Elem : goal.returns-in-Elem
returns-in-Elem c = record { value = λ bytes. is_element bytes (item_in c.args.item.now) (head_in c.in-Elem.head) c.in-Elem.kids c.in-Elem.tail (ap item_in c.in-Elem.is) }

pub returns-in-Ref : goal.returns-in-Ref
returns-in-Ref c = record { value = λ bytes. is_other bytes (item_in c.args.item.now) (src.Ref c.in-Ref.field-0) reference_item c.in-Ref.field-0 (ap item_in c.in-Ref.is) (reference_is bytes c.in-Ref.field-0) (λ same. absurd cc) }

pub returns-in-Comment : goal.returns-in-Comment
returns-in-Comment c = record { value = λ bytes. is_other bytes (item_in c.args.item.now) (src.Comment c.in-Comment.field-0) comment_item c.in-Comment.field-0 (ap item_in c.in-Comment.is) (comment_is bytes c.in-Comment.field-0) (λ same. absurd cc) }

pub returns-in-Pi : goal.returns-in-Pi
returns-in-Pi c = record { value = λ bytes. is_other bytes (item_in c.args.item.now) (src.Pi c.in-Pi.field-0) pi_item c.in-Pi.field-0 (ap item_in c.in-Pi.is) (pi_is bytes c.in-Pi.field-0) (λ same. absurd cc) }

pub returns-in-Gap : goal.returns-in-Gap
returns-in-Gap c = record { value = λ bytes. is_other bytes (item_in c.args.item.now) (src.Gap c.in-Gap.field-0) gap c.in-Gap.field-0 (ap item_in c.in-Gap.is) (gap_is bytes c.in-Gap.field-0) (λ same. absurd cc) }
