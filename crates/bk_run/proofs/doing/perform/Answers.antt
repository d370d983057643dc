use Rattle.ed_session.specs.Burst.{MayCrashInBurst}
use Rattle.bk_run.proofs.DoingLemmas.{told_stays, burst_told}
use Rattle.bk_run.proofs.doing.perform.Goals as goal

pub returns-in-Burst-clause-same : goal.returns-in-Burst-clause-same
returns-in-Burst-clause-same g c = λ h.
    let start = g.D.Desk.standing c.args.desk.now in
    told_stays g.D.Desk.tells g.D.Desk.standing g.D.Desk.time g.D.Desk.was g.met.D.Desk.counts_now g.met.D.Desk.only_now h c.args.desk.now c.save.new.desk (MayCrashInBurst c.args.session.now start) start.told (c.save.ensures.crash h) (burst_told c.args.session.now start)
