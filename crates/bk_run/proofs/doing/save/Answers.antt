use Rattle.bk_run.proofs.DoingLemmas.{burst_done}
use Rattle.bk_run.proofs.doing.save.Goals as goal

pub returns-in-Ok-clause-value : goal.returns-in-Ok-clause-value
returns-in-Ok-clause-value g c = λ h s stands.
    burst_done c.args.session.now c.burst.new.self (g.D.Desk.standing c.args.desk.now) (g.D.Desk.standing c.burst.new.desk) s c.in-Ok.count stands c.in-Ok.ensures.value (c.in-Ok.ensures.durable h)
