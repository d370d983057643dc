use Rattle.std.proofs.Common.{Ok, Err, ap, refl, sym}
use Rattle.bk_desk.specs.declared.desk.DeskErr.TheVariants.{Failed}
use Rattle.bk_desk.specs.declared.log.Call.TheVariants.{Read}
use Rattle.bk_desk.proofs.Calls.{read_same, read_crash, cause, counted_call, counted_faultless, answer}
use Rattle.bk_desk.proofs.mem_desk.MemDeskDesk.read.Goals as goal

pub returns-then-is_done-clause-same : goal.returns-then-is_done-clause-same
returns-then-is_done-clause-same c = λ h. read_same c.args.self.now c.record.new.self c.record.ensures.others.0 c.is_next_done-is_done.result c.in_ok-record-in-Ok.ensures.value

pub returns-then-is_done-clause-crash : goal.returns-then-is_done-clause-crash
returns-then-is_done-clause-crash c = λ h. read_crash c.args.self.now c.record.new.self c.record.ensures.others.0 c.is_next_done-is_done.result c.in_ok-record-in-Ok.ensures.value

pub returns-then-is_done-clause-cause_desk : goal.returns-then-is_done-clause-cause_desk
returns-then-is_done-clause-cause_desk c = cause c.args.self.now c.record.new.self c.record.ensures.others.0 (Read c.is_next_done-is_done.result) _ c.in_ok-record-in-Ok.ensures.value (λ failed. absurd cc)

pub returns-else-is_done-clause-same : goal.returns-else-is_done-clause-same
returns-else-is_done-clause-same c = λ h. read_same c.args.self.now c.record.new.self c.record.ensures.others.0 c.is_next_done-is_done.result c.in_ok-record-in-Ok.ensures.value

pub returns-else-is_done-clause-crash : goal.returns-else-is_done-clause-crash
returns-else-is_done-clause-crash c = λ h. read_crash c.args.self.now c.record.new.self c.record.ensures.others.0 c.is_next_done-is_done.result c.in_ok-record-in-Ok.ensures.value

pub returns-else-is_done-clause-cause_desk : goal.returns-else-is_done-clause-cause_desk
returns-else-is_done-clause-cause_desk c = cause c.args.self.now c.record.new.self c.record.ensures.others.0 (Read c.is_next_done-is_done.result) _ c.in_ok-record-in-Ok.ensures.value (λ failed. c.if-is_done.false)

pub returns-then-is_done-clause-fault : goal.returns-then-is_done-clause-fault
returns-then-is_done-clause-fault c = counted_call c.args.self.now c.record.new.self c.record.ensures.others.0 (Read c.is_next_done-is_done.result) _ (Ok tt) c.in_ok-record-in-Ok.ensures.value refl c.record.ensures.others.1 c.is_next_done-is_done.ensures.value (ap answer (sym c.if-is_done.true))

pub returns-else-is_done-clause-fault : goal.returns-else-is_done-clause-fault
returns-else-is_done-clause-fault c = counted_call c.args.self.now c.record.new.self c.record.ensures.others.0 (Read c.is_next_done-is_done.result) _ (Err Failed) c.in_ok-record-in-Ok.ensures.value refl c.record.ensures.others.1 c.is_next_done-is_done.ensures.value (ap answer (sym c.if-is_done.false))

pub returns-then-is_done-clause-no_fault : goal.returns-then-is_done-clause-no_fault
returns-then-is_done-clause-no_fault c = counted_faultless {T = Unit {0}} c.args.self.now c.record.new.self (Ok tt) (counted_call c.args.self.now c.record.new.self c.record.ensures.others.0 (Read c.is_next_done-is_done.result) _ (Ok tt) c.in_ok-record-in-Ok.ensures.value refl c.record.ensures.others.1 c.is_next_done-is_done.ensures.value (ap answer (sym c.if-is_done.true)))

pub returns-else-is_done-clause-no_fault : goal.returns-else-is_done-clause-no_fault
returns-else-is_done-clause-no_fault c = counted_faultless {T = Unit {0}} c.args.self.now c.record.new.self (Err Failed) (counted_call c.args.self.now c.record.new.self c.record.ensures.others.0 (Read c.is_next_done-is_done.result) _ (Err Failed) c.in_ok-record-in-Ok.ensures.value refl c.record.ensures.others.1 c.is_next_done-is_done.ensures.value (ap answer (sym c.if-is_done.false)))
