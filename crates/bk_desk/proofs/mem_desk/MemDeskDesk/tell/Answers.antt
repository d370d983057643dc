use Rattle.std.proofs.Common.{refl}
use Rattle.bk_desk.specs.declared.log.Call.TheVariants.{Tell}
use Rattle.bk_desk.proofs.Calls.{recorded, tell_output, tell_same, tell_crash, answered_cause, counted_call, counted_faultless}
use Rattle.bk_desk.proofs.mem_desk.MemDeskDesk.tell.Goals as goal

pub returns-clause-output : goal.returns-clause-output
returns-clause-output c = λ h.
    let added = recorded c.tell_call-call.result (Tell _ _) _ _ c.in_ok-record.ensures.value c.tell_call-call.ensures.value in
    tell_output c.args.self.now c.record.new.self c.record.ensures.others.0 _ _ _ added c.done.ensures.value

pub returns-clause-same : goal.returns-clause-same
returns-clause-same c = λ h.
    let added = recorded c.tell_call-call.result (Tell _ _) _ _ c.in_ok-record.ensures.value c.tell_call-call.ensures.value in
    tell_same c.args.self.now c.record.new.self c.record.ensures.others.0 _ _ added

pub returns-clause-crash : goal.returns-clause-crash
returns-clause-crash c = λ h.
    let added = recorded c.tell_call-call.result (Tell _ _) _ _ c.in_ok-record.ensures.value c.tell_call-call.ensures.value in
    tell_crash c.args.self.now c.record.new.self c.record.ensures.others.0 _ _ added

pub returns-clause-cause_desk : goal.returns-clause-cause_desk
returns-clause-cause_desk c =
    let added = recorded c.tell_call-call.result (Tell _ _) _ _ c.in_ok-record.ensures.value c.tell_call-call.ensures.value in
    answered_cause c.args.self.now c.record.new.self c.record.ensures.others.0 _ _ added c.done.ensures.value

pub returns-clause-fault : goal.returns-clause-fault
returns-clause-fault c =
    let added = recorded c.tell_call-call.result (Tell _ _) _ _ c.in_ok-record.ensures.value c.tell_call-call.ensures.value in
    counted_call c.args.self.now c.record.new.self c.record.ensures.others.0 _ _ _ added refl c.record.ensures.others.1 c.is_next_done-is_done.ensures.value c.done.ensures.value

pub returns-clause-no_fault : goal.returns-clause-no_fault
returns-clause-no_fault c =
    let added = recorded c.tell_call-call.result (Tell _ _) _ _ c.in_ok-record.ensures.value c.tell_call-call.ensures.value in
    counted_faultless _ _ _ (counted_call c.args.self.now c.record.new.self c.record.ensures.others.0 _ _ _ added refl c.record.ensures.others.1 c.is_next_done-is_done.ensures.value c.done.ensures.value)
