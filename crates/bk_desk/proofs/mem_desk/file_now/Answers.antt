use Rattle.std.proofs.Common.{◌≡◌, ◌+◌, [], ◌∷◌, ◌++◌, take, sym, ◌∙◌, ap}
use Rattle.std.proofs.lemmas.List.{take_more}
use Rattle.bk_desk.specs.Disk.{DiskState}
use Rattle.bk_desk.specs.Calls.{after, opening, file_after}
use Rattle.bk_desk.proofs.Calls.{after-push}
use Rattle.bk_desk.proofs.mem_desk.file_now.Goals as goal

pub loop-call-preserved : goal.loop-call-preserved
loop-call-preserved c =
    let i = c.loop-call.call-index in
    let calls = c.args.calls.now in
    let call = c.call-item.result in
    let taken : take (i + 1) calls ≡ take i calls ++ call ∷ [] = take_more calls i call c.loop-call-test.true ∙ ap (λ x. take i calls ++ x ∷ []) (sym c.call-item.is) in
    c.next_file-file.ensures.value ∙ ap (file_after call c.args.name.now) c.loop-call.invariant ∙ sym (ap (λ (s : DiskState). s.files c.args.name.now) (ap (after (opening c.args.start.now)) taken ∙ after-push (opening c.args.start.now) (take i calls) call))
