use Rattle.bk_desk.proofs.Theorems.{joined, weaker}
use Rattle.jr_burst.proofs.Redoing.{carrying_recovers, closing_recovers}
use Rattle.jr_burst.proofs.recovery.redo_steps.Goals as goal

pub returns-clause-crash : goal.returns-clause-crash
returns-clause-crash g c = λ h.
    let start = g.D.Desk.standing c.args.desk.now in
    let carried = g.D.Desk.standing c.carry_out.new.desk in
    let items = c.args.steps.now in
    let carrying = weaker g.D.Desk.time g.D.Desk.was c.args.desk.now c.carry_out.new.desk _ _ (c.carry_out.ensures.crash h) (λ crash is. carrying_recovers items start crash (c.requires.current h) is) in
    let closing = weaker g.D.Desk.time g.D.Desk.was c.carry_out.new.desk c.close_gate.new.desk _ _ (c.close_gate.ensures.crash h) (λ crash is. closing_recovers items start carried crash (c.requires.current h) (c.in_ok-carry_out.ensures.durable h) is) in
    joined g.D.Desk.time g.D.Desk.was c.args.desk.now c.carry_out.new.desk c.close_gate.new.desk _ carrying closing
