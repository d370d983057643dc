use Rattle.std.proofs.Common.{ap, take}
use Rattle.bk_desk.proofs.StopLemmas.{new_after_stop}
use Rattle.bk_desk.proofs.mem_desk.MemDesk.after_stop.Goals as goal

pub returns-clause-value : goal.returns-clause-value
returns-clause-value c = new_after_stop c.args.self.now _ c.args.calls c.args.left.now _ _ _ c.deref.ensures.value (ap (take c.args.calls) c.deref-2.ensures.value) c.in_ok-start.ensures.value c.new.ensures.value c.new.ensures.count c.new-2.ensures.items
