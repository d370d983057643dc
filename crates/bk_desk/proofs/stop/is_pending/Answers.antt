use Rattle.std.proofs.Common.{◌≡◌, ◌+◌, [], ◌∷◌, ◌++◌, take, sym, ◌∙◌, ap}
use Rattle.std.proofs.lemmas.List.{take_more}
use Rattle.bk_desk.specs.Disk.{DiskState}
use Rattle.bk_desk.specs.Calls.{after, opening, pending_after}
use Rattle.bk_desk.proofs.Calls.{after-push}
use Rattle.bk_desk.proofs.stop.is_pending.Goals as goal

pub loop-call-preserved : goal.loop-call-preserved
loop-call-preserved c = λ entries.
    let i = c.loop-call.call-index in
    let calls = c.args.calls.now in
    let call = c.call-item.result in
    let taken : take (i + 1) calls ≡ take i calls ++ call ∷ [] = take_more calls i call c.loop-call-test.true ∙ ap (λ x. take i calls ++ x ∷ []) (sym c.call-item.is) in
    c.next_pending-pending.ensures.value ∙ ap (pending_after call c.args.name.now) (c.loop-call.invariant entries) ∙ sym (ap (λ (s : DiskState). s.pending c.args.name.now) (ap (after (opening entries)) taken ∙ after-push (opening entries) (take i calls) call))
