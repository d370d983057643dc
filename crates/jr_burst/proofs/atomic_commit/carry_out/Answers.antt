use Rattle.std.proofs.Common.{arith}
use Rattle.std.proofs.lemmas.Result.{on_ok_weaker}
use Rattle.bk_desk.proofs.Theorems.{goes_on, faultless_joined}
use Rattle.jr_burst.proofs.Carrying.{one_more, in_between, way_at, way_ends, is_carried_out}
use Rattle.jr_burst.proofs.atomic_commit.carry_out.Goals as goal

pub returns-in_err-perform-clause-crash : goal.returns-in_err-perform-clause-crash
returns-in_err-perform-clause-crash g c = λ h.
    let way = way_at c.args.steps.now c.loop-step.step-index c.step-item.result _ _ c.loop-step-test.true c.step-item.is (c.loop-step.invariant.way h) in
    goes_on g.D.Desk.time g.D.Desk.was c.args.desk.now c.loop-step.desk c.perform.new.desk _ _ (c.loop-step.invariant.crash h) (c.perform.ensures.crash h) (λ crash now. in_between c.args.steps.now _ c.step-item.result _ _ crash way now)

pub loop-step-preserved : goal.loop-step-preserved
loop-step-preserved g c = record {
  way = λ h.
      let way = way_at c.args.steps.now c.loop-step.step-index c.step-item.result _ _ c.loop-step-test.true c.step-item.is (c.loop-step.invariant.way h) in
      one_more c.args.steps.now _ c.step-item.result _ _ _ way (c.in_ok-perform.ensures.value h);
  crash = λ h.
      let way = way_at c.args.steps.now c.loop-step.step-index c.step-item.result _ _ c.loop-step-test.true c.step-item.is (c.loop-step.invariant.way h) in
      goes_on g.D.Desk.time g.D.Desk.was c.args.desk.now c.loop-step.desk c.perform.new.desk _ _ (c.loop-step.invariant.crash h) (c.perform.ensures.crash h) (λ crash now. in_between c.args.steps.now _ c.step-item.result _ _ crash way now);
  no_fault = faultless_joined g.D.Desk.faultless g.D.Desk.faults c.args.desk.now c.loop-step.desk c.perform.new.desk c.loop-step.invariant.no_fault c.perform.ensures.no_fault;
  faults = omega (arith, c.loop-step.invariant.faults, c.perform.ensures.cause_desk.later);
  refused = omega (arith, c.loop-step.invariant.refused, c.perform.ensures.cause_memory.later);
}

pub returns-clause-value : goal.returns-clause-value
returns-clause-value g c = λ h.
    on_ok_weaker c.sync.result (λ durable. is_carried_out c.args.steps.now _ _ _ (way_ends c.args.steps.now c.loop-step.step-index _ _ c.loop-step-test.false (c.loop-step.invariant.way h)) (c.sync.ensures.same h) durable) (c.sync.ensures.durable h)
