use Rattle.std.proofs.Common.{◌∙◌, ◌∷◌, [], ap, refl, sym, bytes_eq}
use Rattle.xt_tree.specs.Built.{built}
use Rattle.xt_tree.specs.Meaning.{at_span}
use Rattle.xt_tree.specs.Places.{span_mark}
use Rattle.xt_read.specs.Progress.{marks_built, all_marks}
use Rattle.xt_read.proofs.Marks.{marks_closed, on_marks, some_open, closed_state}
use Rattle.xt_read.proofs.reader.Reader.closes.Goals as goal

pub returns-clause-marks : goal.returns-clause-marks
returns-clause-marks c =
    on_marks (built c.settle.new.self.tape) (built c.closes.new.self) (all_marks c.args.self.now) (span_mark c.args.span ∷ []) c.settle.new.self.text c.in_ok-settle.ensures.text
    (ap marks_built c.in_ok-closes.ensures.value.1 ∙ marks_closed (built c.settle.new.self.tape).opened (built c.settle.new.self.tape).items c.args.span (some_open (built c.settle.new.self.tape).opened c.in-Some.own c.in-Some.ensures.value)) c.in_ok-settle.ensures.marks

pub returns-clause-value : goal.returns-clause-value
returns-clause-value c =
    let bytes = c.args.bytes.now in
    closed_state bytes c.args.self.now c.settle.new.self (record { tape = c.closes.new.self; text = c.settle.new.self.text; stage = c.settle.new.self.stage }) c.in-Some.own c.args.span c.args.name c.in_ok-closes.ensures.value.1 refl refl
    c.in_ok-settle.ensures.text (c.in_ok-settle.ensures.items bytes) c.in_ok-settle.ensures.others.0 c.in_ok-settle.ensures.others.1 c.in-Some.ensures.value
    (ap (λ x. bytes_eq x (at_span bytes c.args.name)) (sym c.bytes_at.ensures) ∙ ap (bytes_eq c.bytes_at.result.now) (sym c.bytes_at-2.ensures) ∙ sym c.is_same.ensures ∙ c.if-not-is_same.false)
