use Rattle.std.proofs.Common.{List, refl, sym, subst, arith, drop}
use Rattle.xt_tree.specs.Places.{Mark, AreInPlace}
use Rattle.xt_read.specs.Progress.{body_of, state_of}
use Rattle.xt_read.specs.Run.{State, begin, Passes, here}
use Rattle.xt_read.specs.Faults.{reading_fault}
use Rattle.xt_read.proofs.Runs.{IfSome-weaker, goes_on, ends_here}
use Rattle.xt_read.proofs.items.read_tokens.Goals as goal

pub loop-at-init : goal.loop-at-init
loop-at-init c =
    let text = c.args.text.now in
    let rest = drop c.args.from text in
    let first = begin (body_of c.args.body) in
    record {
      order = omega arith;
      within = c.requires.within;
      boundary = c.requires.boundary;
      place = subst (λ (m : List Mark). AreInPlace text c.args.from m c.args.from) (sym c.new-reader.ensures.marks) refl;
      sound = c.new-reader.ensures.sound;
      passes = subst (λ (s : State). Passes first rest s rest) (sym (c.new-reader.ensures.value text)) (here first rest);
    }

pub returns-in-Err-clause-fault : goal.returns-in-Err-clause-fault
returns-in-Err-clause-fault c = IfSome-weaker (reading_fault c.in-Err.unread) _ _ (λ f halts. record {
  at = c.loop-at.at;
  order = c.loop-at.invariant.order;
  within = c.loop-at.invariant.within;
  state = state_of c.args.text.now c.loop-at.reader;
  passes = c.loop-at.invariant.passes;
  halts = halts;
}) c.in-Err.ensures.fault

pub loop-at-preserved : goal.loop-at-preserved
loop-at-preserved c =
    let text = c.args.text.now in
    let (tok, is, size, steps) = c.in-Ok.ensures.value in
    record {
      order = omega (arith, c.loop-at.invariant.order, c.in-Ok.ensures.on.0);
      within = c.in-Ok.ensures.on.1;
      boundary = c.in-Ok.ensures.on.2;
      place = c.in-Ok.ensures.place c.args.from c.loop-at.invariant.place;
      sound = c.in-Ok.ensures.sound;
      passes = goes_on (begin (body_of c.args.body)) (state_of text c.loop-at.reader) (state_of text c.advances.new.self) (drop c.args.from text) text c.loop-at.at c.in-Ok.to tok is size steps c.loop-at.invariant.passes;
    }

pub returns-clause-value : goal.returns-clause-value
returns-clause-value c =
    let text = c.args.text.now in
    ends_here (begin (body_of c.args.body)) (state_of text c.loop-at.reader) (drop c.args.from text) text c.loop-at.at c.loop-at-test.false c.loop-at.invariant.passes
