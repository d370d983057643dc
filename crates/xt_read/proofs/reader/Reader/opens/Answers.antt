use Rattle.std.proofs.Common.{◌∙◌, ◌∷◌, [], ap}
use Rattle.xt_tree.specs.Built.{built}
use Rattle.xt_tree.specs.Places.{tag_mark}
use Rattle.xt_read.specs.Progress.{marks_built, all_marks}
use Rattle.xt_read.proofs.Marks.{marks_tag, on_marks}
use Rattle.xt_read.proofs.reader.Reader.opens.Goals as goal

pub returns-clause-marks : goal.returns-clause-marks
returns-clause-marks c =
    on_marks (built c.settle.new.self.tape) (built c.opens.new.self) (all_marks c.args.self.now) (tag_mark c.args.head ∷ []) c.settle.new.self.text c.in_ok-settle.ensures.text
    (ap marks_built c.in_ok-opens.ensures.value.1 ∙ marks_tag (built c.settle.new.self.tape) c.args.head) c.in_ok-settle.ensures.marks
