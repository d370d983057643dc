use Rattle.jr_burst.proofs.Carrying.{gate_removed, removal_synced}
use Rattle.jr_burst.proofs.atomic_commit.close_gate.Goals as goal

pub returns-in_err-remove-clause-crash : goal.returns-in_err-remove-clause-crash
returns-in_err-remove-clause-crash g c = λ h.
    gate_removed g.D.Desk.tells g.D.Desk.standing g.D.Desk.time g.D.Desk.was g.met.D.Desk.only_now h c.args.desk.now c.remove.new.self (c.requires.current h) (c.remove.ensures.crash h)

pub returns-clause-crash : goal.returns-clause-crash
returns-clause-crash g c = λ h.
    let removed = gate_removed g.D.Desk.tells g.D.Desk.standing g.D.Desk.time g.D.Desk.was g.met.D.Desk.only_now h c.args.desk.now c.remove.new.self (c.requires.current h) (c.remove.ensures.crash h) in
    removal_synced g.D.Desk.tells g.D.Desk.standing g.D.Desk.time g.D.Desk.was g.met.D.Desk.only_now h c.args.desk.now c.remove.new.self c.sync.new.self (c.requires.current h) removed (c.in_ok-remove.ensures.value h) (c.sync.ensures.crash h)
