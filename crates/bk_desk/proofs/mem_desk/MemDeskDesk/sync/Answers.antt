use Rattle.std.proofs.Common.{refl}
use Rattle.bk_desk.proofs.Calls.{sync_durable_after, sync_same_after, sync_crash, answered_cause, counted_call, counted_faultless}
use Rattle.bk_desk.specs.declared.log.Call.TheVariants.{Sync}
use Rattle.bk_desk.proofs.mem_desk.MemDeskDesk.sync.Goals as goal

pub returns-clause-durable : goal.returns-clause-durable
returns-clause-durable c = λ h. sync_durable_after c.args.self.now c.record.new.self c.record.ensures.others.0 c.is_next_done-is_done.result _ c.in_ok-record.ensures.value c.done.ensures.value

pub returns-clause-same : goal.returns-clause-same
returns-clause-same c = λ h. sync_same_after c.args.self.now c.record.new.self c.record.ensures.others.0 c.is_next_done-is_done.result c.in_ok-record.ensures.value

pub returns-clause-crash : goal.returns-clause-crash
returns-clause-crash c = λ h. sync_crash c.args.self.now c.record.new.self c.record.ensures.others.0 c.is_next_done-is_done.result c.in_ok-record.ensures.value

pub returns-clause-cause_desk : goal.returns-clause-cause_desk
returns-clause-cause_desk c = answered_cause c.args.self.now c.record.new.self c.record.ensures.others.0 (Sync c.is_next_done-is_done.result) _ c.in_ok-record.ensures.value c.done.ensures.value

pub returns-clause-fault : goal.returns-clause-fault
returns-clause-fault c = counted_call c.args.self.now c.record.new.self c.record.ensures.others.0 (Sync c.is_next_done-is_done.result) _ _ c.in_ok-record.ensures.value refl c.record.ensures.others.1 c.is_next_done-is_done.ensures.value c.done.ensures.value

pub returns-clause-no_fault : goal.returns-clause-no_fault
returns-clause-no_fault c = counted_faultless _ _ _ (counted_call c.args.self.now c.record.new.self c.record.ensures.others.0 (Sync c.is_next_done-is_done.result) _ _ c.in_ok-record.ensures.value refl c.record.ensures.others.1 c.is_next_done-is_done.ensures.value c.done.ensures.value)
