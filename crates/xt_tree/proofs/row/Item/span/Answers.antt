use Rattle.std.proofs.Common.{ap}
use Rattle.xt_tree.specs.Items.{head_in, item_in}
use Rattle.xt_tree.specs.declared.source.Src.TheVariants as src
use Rattle.xt_tree.proofs.LeafKinds.{text_marks, reference_marks, comment_marks, pi_marks, gap_marks, one_span}
use Rattle.xt_tree.proofs.ItemPlaces.{span_to_tail, span_of_tag}
use Rattle.xt_tree.proofs.row.Item.span.Goals as goal

pub returns-in-Some : goal.returns-in-Some
returns-in-Some c = record { place = λ bytes from to is closed. span_to_tail bytes (item_in c.args.self.now) (head_in c.in-Elem.head) c.in-Elem.kids c.in-Elem.tail c.in-Some.tail from to (ap item_in c.in-Elem.is) c.in-Some.is is }

pub returns-in-None : goal.returns-in-None
returns-in-None c = record { place = λ bytes from to is closed. span_of_tag bytes (item_in c.args.self.now) (head_in c.in-Elem.head) c.in-Elem.kids c.in-Elem.tail from to (ap item_in c.in-Elem.is) c.in-None.is is closed }

pub returns-in-Text : goal.returns-in-Text
returns-in-Text c = record { place = λ bytes from to is closed. one_span bytes (item_in c.args.self.now) (src.Text c.in-Text.span) c.in-Text.span from to (ap item_in c.in-Text.is) (text_marks c.in-Text.span) is }

pub returns-in-Ref : goal.returns-in-Ref
returns-in-Ref c = record { place = λ bytes from to is closed. one_span bytes (item_in c.args.self.now) (src.Ref c.in-Ref.span) c.in-Ref.span from to (ap item_in c.in-Ref.is) (reference_marks c.in-Ref.span) is }

pub returns-in-Comment : goal.returns-in-Comment
returns-in-Comment c = record { place = λ bytes from to is closed. one_span bytes (item_in c.args.self.now) (src.Comment c.in-Comment.span) c.in-Comment.span from to (ap item_in c.in-Comment.is) (comment_marks c.in-Comment.span) is }

pub returns-in-Pi : goal.returns-in-Pi
returns-in-Pi c = record { place = λ bytes from to is closed. one_span bytes (item_in c.args.self.now) (src.Pi c.in-Pi.span) c.in-Pi.span from to (ap item_in c.in-Pi.is) (pi_marks c.in-Pi.span) is }

pub returns-in-Gap : goal.returns-in-Gap
returns-in-Gap c = record { place = λ bytes from to is closed. one_span bytes (item_in c.args.self.now) (src.Gap c.in-Gap.span) c.in-Gap.span from to (ap item_in c.in-Gap.is) (gap_marks c.in-Gap.span) is }
