use Rattle.std.proofs.Common.{◌∙◌, ◌∷◌, [], ap, refl}
use Rattle.std.proofs.lemmas.Result.{on_ok_weaker}
use Rattle.xt_tree.specs.Built.{built}
use Rattle.xt_tree.specs.Leaves.{leaf_item}
use Rattle.xt_tree.specs.Places.{span_mark}
use Rattle.xt_read.specs.Progress.{marks_built, all_marks}
use Rattle.xt_read.proofs.Marks.{marks_leaf, on_marks, item_state, leaf_state}
use Rattle.xt_read.proofs.reader.Reader.adds.Goals as goal

pub returns-clause-marks : goal.returns-clause-marks
returns-clause-marks c = on_ok_weaker c.adds_leaf.result (λ is.
    on_marks (built c.settle.new.self.tape) (built c.adds_leaf.new.self) (all_marks c.args.self.now) (span_mark c.args.span ∷ []) c.settle.new.self.text c.in_ok-settle.ensures.text
    (ap marks_built is.1 ∙ marks_leaf (built c.settle.new.self.tape) c.args.leaf c.args.span) c.in_ok-settle.ensures.marks) c.adds_leaf.ensures.value

pub returns-clause-value : goal.returns-clause-value
returns-clause-value c = on_ok_weaker c.adds_leaf.result (λ is bytes.
    item_state bytes c.args.self.now c.settle.new.self (record { tape = c.adds_leaf.new.self; text = c.settle.new.self.text; stage = c.settle.new.self.stage }) (leaf_item c.args.leaf c.args.span) is.1 refl refl
    c.in_ok-settle.ensures.text (c.in_ok-settle.ensures.items bytes) c.in_ok-settle.ensures.others.0 c.in_ok-settle.ensures.others.1
    ∙ leaf_state bytes c.args.self.now c.args.leaf c.args.span) c.adds_leaf.ensures.value
