use Rattle.ed_session.proofs.StartLemmas.{fails_by, start_steps}
use Rattle.ed_session.proofs.opening.start.Goals as goal

pub returns-clause-fault : goal.returns-clause-fault
returns-clause-fault g c = λ h.
    let same = c.in_ok-got.ensures.same h in
    rw same (fails_by c.args.root.now (g.D.Desk.standing c.args.desk.now) (g.D.Desk.standing c.recover.new.desk) c.in_ok-got.got c.opened_by.result (c.in_ok-recover.ensures.durable h)
    (rw c.in_ok-share.ensures.value at (c.in_ok-got.ensures.value h)) c.opened_by.ensures.fault)

pub returns-clause-exact : goal.returns-clause-exact
returns-clause-exact g c = λ h.
    start_steps c.args.root.now (g.D.Desk.standing c.args.desk.now) (g.D.Desk.standing c.recover.new.desk) c.in_ok-got.got c.opened_by.result c.args.steps.now c.opened_by.new.steps (c.in_ok-recover.ensures.durable h)
    (rw c.in_ok-share.ensures.value at (c.in_ok-got.ensures.value h)) c.opened_by.ensures.exact.1
