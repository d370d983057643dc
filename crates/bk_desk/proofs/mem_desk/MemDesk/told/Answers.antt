use Rattle.std.proofs.Common.{sym, ◌∙◌}
use Rattle.bk_desk.specs.Calls.{opening}
use Rattle.bk_desk.proofs.Calls.{after-told}
use Rattle.bk_desk.proofs.mem_desk.MemDesk.told.Goals as goal

pub returns : goal.returns
returns c =
    let log = c.args.self.now.log in
    record { value = c.deref.ensures.value ∙ log.told_is ∙ sym (after-told (opening log.start.items) log.calls.items) }
