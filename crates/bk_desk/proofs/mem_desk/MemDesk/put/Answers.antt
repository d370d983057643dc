use Rattle.std.proofs.Common.{refl}
use Rattle.bk_desk.specs.declared.log.Call.TheVariants.{Put}
use Rattle.bk_desk.proofs.Calls.{recorded, write_value, write_crash, answered_cause, counted_call, counted_faultless}
use Rattle.bk_desk.proofs.mem_desk.MemDesk.put.Goals as goal

pub returns-clause-value : goal.returns-clause-value
returns-clause-value c =
    let added = recorded c.put_call-call.result (Put _ _ _) _ _ c.in_ok-record.ensures.value c.put_call-call.ensures.value in
    write_value c.args.self.now c.record.new.self c.record.ensures.others.0 _ _ _ _ added c.done.ensures.value

pub returns-clause-crash : goal.returns-clause-crash
returns-clause-crash c =
    let added = recorded c.put_call-call.result (Put _ _ _) _ _ c.in_ok-record.ensures.value c.put_call-call.ensures.value in
    write_crash c.args.self.now c.record.new.self c.record.ensures.others.0 _ _ _ added

pub returns-clause-cause_desk : goal.returns-clause-cause_desk
returns-clause-cause_desk c =
    let added = recorded c.put_call-call.result (Put _ _ _) _ _ c.in_ok-record.ensures.value c.put_call-call.ensures.value in
    answered_cause c.args.self.now c.record.new.self c.record.ensures.others.0 _ _ added c.done.ensures.value

pub returns-clause-fault : goal.returns-clause-fault
returns-clause-fault c =
    let added = recorded c.put_call-call.result (Put _ _ _) _ _ c.in_ok-record.ensures.value c.put_call-call.ensures.value in
    counted_call c.args.self.now c.record.new.self c.record.ensures.others.0 _ _ _ added refl c.record.ensures.others.1 c.is_next_done-is_done.ensures.value c.done.ensures.value

pub returns-clause-no_fault : goal.returns-clause-no_fault
returns-clause-no_fault c =
    let added = recorded c.put_call-call.result (Put _ _ _) _ _ c.in_ok-record.ensures.value c.put_call-call.ensures.value in
    counted_faultless _ _ _ (counted_call c.args.self.now c.record.new.self c.record.ensures.others.0 _ _ _ added refl c.record.ensures.others.1 c.is_next_done-is_done.ensures.value c.done.ensures.value)
