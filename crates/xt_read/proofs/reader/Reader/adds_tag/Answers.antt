use Rattle.std.proofs.Common.{◌∙◌, ◌∷◌, [], ap, refl, None}
use Rattle.std.proofs.lemmas.Result.{on_ok_weaker}
use Rattle.xt_tree.specs.Built.{built}
use Rattle.xt_tree.specs.declared.source.Src.TheVariants as src
use Rattle.xt_tree.specs.Places.{tag_mark}
use Rattle.xt_read.specs.Progress.{marks_built, all_marks}
use Rattle.xt_read.proofs.Marks.{marks_empty, on_marks, item_state, empty_state}
use Rattle.xt_read.proofs.reader.Reader.adds_tag.Goals as goal

pub returns-clause-marks : goal.returns-clause-marks
returns-clause-marks c = on_ok_weaker c.adds_empty.result (λ is.
    on_marks (built c.settle.new.self.tape) (built c.adds_empty.new.self) (all_marks c.args.self.now) (tag_mark c.args.head.now ∷ []) c.settle.new.self.text c.in_ok-settle.ensures.text
    (ap marks_built is.1 ∙ marks_empty (built c.settle.new.self.tape) c.args.head.now) c.in_ok-settle.ensures.marks) c.adds_empty.ensures.value

pub returns-clause-value : goal.returns-clause-value
returns-clause-value c = on_ok_weaker c.adds_empty.result (λ is bytes.
    item_state bytes c.args.self.now c.settle.new.self (record { tape = c.adds_empty.new.self; text = c.settle.new.self.text; stage = c.settle.new.self.stage }) (src.Elem None c.args.head.now []) is.1 refl refl
    c.in_ok-settle.ensures.text (c.in_ok-settle.ensures.items bytes) c.in_ok-settle.ensures.others.0 c.in_ok-settle.ensures.others.1
    ∙ empty_state bytes c.args.self.now c.args.head.now) c.adds_empty.ensures.value
