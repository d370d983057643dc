use Rattle.std.proofs.Common.{◌≡◌, ◌∙◌, ◌||◌, ◌+◌, Bool, arith, ap, refl, sym}
use Rattle.bk_desk.proofs.Theorems.{started, faultless_started, faultless_joined}
use Rattle.bk_run.specs.Stops.{IsOfOneBurst}
use Rattle.bk_run.proofs.CountLemmas.{err_no_ok, more_counted, ended_counted, all_counted}
use Rattle.bk_run.proofs.TellingLemmas.{asked_all, none_yet, stop_at_start, more_told, all_told, does_asked, one_prefix, prefix_all, one_crash}
use Rattle.bk_run.proofs.telling.tell_replies.Goals as goal
use Rattle.bk_run.proofs.telling.tell_replies.Goals.{then-refused, else-refused}

pub loop-command-init : goal.loop-command-init
loop-command-init g c = record {
  closed = c.requires.current;
  told = λ h s stands. none_yet c.args.session.now (g.D.Desk.standing c.args.desk.now) s stands;
  crash = λ h s last steps more stands does.
      let start = g.D.Desk.standing c.args.desk.now in
      started g.D.Desk.time g.D.Desk.was c.args.desk.now (IsOfOneBurst start s.saved steps more) (λ crash since. stop_at_start c.args.session.now start s steps more crash stands (g.met.D.Desk.only_now c.args.desk.now crash h since));
  no_fault = faultless_started g.D.Desk.faultless g.D.Desk.faults c.args.desk.now;
  faults = omega arith;
  later = omega arith;
  counted = omega arith;
  exact = λ h s last steps stands does. omega arith;
}

pub returns-in_err-one-clause-prefix : goal.returns-in_err-one-clause-prefix
returns-in_err-one-clause-prefix g c = λ h s last asked replies stands are does.
    let k = c.loop-command.session in
    one_prefix c.args.session.now.root s last c.args.commands.now c.loop-command.command-index c.command-item.result k (g.D.Desk.standing c.args.desk.now) (g.D.Desk.standing c.loop-command.desk) (g.D.Desk.standing c.answer.new.desk) c.loop-command.refused replies
    c.loop-command-test.true c.command-item.is (c.loop-command.invariant.told h s stands) (does_asked c.args.session.now.root s last c.args.commands.now asked replies are does) (c.answer.ensures.prefix h)

pub returns-in_err-one-clause-crash : goal.returns-in_err-one-clause-crash
returns-in_err-one-clause-crash g c = λ h s last asked replies more stands are does.
    let all = does_asked c.args.session.now.root s last c.args.commands.now asked replies are does in
    one_crash g.D.Desk.standing g.D.Desk.time g.D.Desk.was c.args.session.now.root s last c.args.commands.now c.loop-command.command-index c.command-item.result c.loop-command.session c.args.desk.now c.loop-command.desk c.answer.new.desk c.loop-command.refused replies more
    c.loop-command-test.true c.command-item.is (c.loop-command.invariant.told h s stands) all (c.loop-command.invariant.crash h s last replies more stands all) (c.answer.ensures.crash h)

pub loop-command-preserved : goal.loop-command-preserved
loop-command-preserved g c = record {
  closed = λ h. c.in_ok-one.ensures.keeps h;
  told = λ h s stands.
      let told = c.loop-command.invariant.told h s stands in
      let flag : c.if-refused.refused ≡ (c.loop-command.refused || c.in_ok-one.one) = elim c.if-refused.branch [
        | then-refused w ↦ w.refused-is ∙ w.if-refused.true ∙ sym (ap (λ (b : Bool). b || c.in_ok-one.one) w.if-refused.true)
        | else-refused w ↦ w.refused-is ∙ sym (ap (λ (b : Bool). b || c.in_ok-one.one) w.if-refused.false)
      ] in
      more_told c.args.session.now.root s c.args.commands.now c.loop-command.command-index c.command-item.result c.loop-command.session c.answer.new.session (g.D.Desk.standing c.args.desk.now) (g.D.Desk.standing c.loop-command.desk) (g.D.Desk.standing c.answer.new.desk)
      c.loop-command.refused c.in_ok-one.one c.if-refused.refused c.loop-command-test.true c.command-item.is told (c.in_ok-one.ensures.value h told.last told.stands) flag;
  crash = λ h s last steps more stands does.
      one_crash g.D.Desk.standing g.D.Desk.time g.D.Desk.was c.args.session.now.root s last c.args.commands.now c.loop-command.command-index c.command-item.result c.loop-command.session c.args.desk.now c.loop-command.desk c.answer.new.desk c.loop-command.refused steps more
      c.loop-command-test.true c.command-item.is (c.loop-command.invariant.told h s stands) does (c.loop-command.invariant.crash h s last steps more stands does) (c.answer.ensures.crash h);
  no_fault = faultless_joined g.D.Desk.faultless g.D.Desk.faults c.args.desk.now c.loop-command.desk c.answer.new.desk c.loop-command.invariant.no_fault c.answer.ensures.no_fault;
  faults = omega (arith, c.loop-command.invariant.faults, c.answer.ensures.cause_desk.later);
  later = omega (arith, c.loop-command.invariant.later, c.answer.ensures.count.0);
  counted = omega (arith, c.loop-command.invariant.counted, c.answer.ensures.count.1);
  exact = λ h s last steps stands does.
      (more_counted c.args.session.now.root s last c.args.commands.now c.loop-command.command-index c.command-item.result c.loop-command.session (g.D.Desk.standing c.args.desk.now) (g.D.Desk.standing c.loop-command.desk) c.loop-command.refused steps
      _ c.args.steps.now c.loop-command.steps c.answer.new.steps c.loop-command-test.true c.command-item.is (c.loop-command.invariant.told h s stands) does (c.loop-command.invariant.exact h s last steps stands does) (c.in_ok-one.ensures.exact h)).exact refl;
}

pub returns-clause-value : goal.returns-clause-value
returns-clause-value g c = λ h s asked stands are.
    all_told c.args.session.now.root s c.args.commands.now asked c.loop-command.command-index c.loop-command.session (g.D.Desk.standing c.args.desk.now) (g.D.Desk.standing c.loop-command.desk) c.loop-command.refused c.loop-command-test.false are (c.loop-command.invariant.told h s stands)

pub returns-clause-prefix : goal.returns-clause-prefix
returns-clause-prefix g c = λ h s last asked replies stands are does.
    let told = all_told c.args.session.now.root s c.args.commands.now asked c.loop-command.command-index c.loop-command.session (g.D.Desk.standing c.args.desk.now) (g.D.Desk.standing c.loop-command.desk) c.loop-command.refused c.loop-command-test.false are (c.loop-command.invariant.told h s stands) in
    prefix_all c.args.session.now.root s last asked c.loop-command.session (g.D.Desk.standing c.args.desk.now) (g.D.Desk.standing c.loop-command.desk) c.loop-command.refused replies told does

pub returns-clause-crash : goal.returns-clause-crash
returns-clause-crash g c = λ h s last asked replies more stands are does.
    c.loop-command.invariant.crash h s last replies more stands (does_asked c.args.session.now.root s last c.args.commands.now asked replies are does)

pub returns-in_err-one-clause-exact : goal.returns-in_err-one-clause-exact
returns-in_err-one-clause-exact g c = λ h s last asked replies stands are does.
    let all = does_asked c.args.session.now.root s last c.args.commands.now asked replies are does in
    ended_counted c.args.session.now.root c.args.commands.now asked (c.loop-command.command-index + 1) replies _ _ c.args.steps.now c.answer.new.steps (err_no_ok c.from_residual.result c.from_residual.ensures.0) (asked_all c.args.commands.now asked are)
    (more_counted c.args.session.now.root s last c.args.commands.now c.loop-command.command-index c.command-item.result c.loop-command.session (g.D.Desk.standing c.args.desk.now) (g.D.Desk.standing c.loop-command.desk) c.loop-command.refused replies
    _ c.args.steps.now c.loop-command.steps c.answer.new.steps c.loop-command-test.true c.command-item.is (c.loop-command.invariant.told h s stands) all (c.loop-command.invariant.exact h s last replies stands all) (c.answer.ensures.exact h))

pub returns-clause-exact : goal.returns-clause-exact
returns-clause-exact g c = λ h s last asked replies stands are does.
    all_counted c.args.session.now.root c.args.commands.now asked c.loop-command.command-index replies _ c.args.steps.now c.loop-command.steps c.loop-command-test.false (asked_all c.args.commands.now asked are)
    (c.loop-command.invariant.exact h s last replies stands (does_asked c.args.session.now.root s last c.args.commands.now asked replies are does))
