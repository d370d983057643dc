use Rattle.std.proofs.Common.{[], ap, sym, ◌∙◌}
use Rattle.bk_desk.specs.Calls.{told_after, told_by}
use Rattle.bk_desk.proofs.Calls.{told_by-push}
use Rattle.bk_desk.proofs.log.Log.add.Goals as goal

pub invariant_of-self-in-Ok : goal.invariant_of-self-in-Ok
invariant_of-self-in-Ok c =
    let calls = c.args.self.now.calls.items in
    record { told_is = c.in_ok-tell_more.ensures.value ∙ ap (told_after c.args.call) c.args.self.now.told_is ∙ sym (told_by-push calls c.args.call []) ∙ ap (λ l. told_by l []) (sym c.in-Ok.ensures.items) }
