use Rattle.std.proofs.Common.{◌≡◌, ◌+◌, [], ◌∷◌, ◌++◌, take, sym, ◌∙◌, ap}
use Rattle.std.proofs.lemmas.List.{take_more}
use Rattle.bk_desk.specs.Disk.{DiskState}
use Rattle.bk_desk.specs.Calls.{after, opening, file_after}
use Rattle.bk_desk.proofs.Calls.{after-push}
use Rattle.bk_desk.proofs.StopLemmas.{one_synced}
use Rattle.bk_desk.proofs.stop.synced_file.Goals as goal

pub loop-call-preserved : goal.loop-call-preserved
loop-call-preserved c =
    let i = c.loop-call.call-index in
    let calls = c.args.calls.now in
    let call = c.call-item.result in
    let start = opening c.args.start.now in
    let taken : take (i + 1) calls ≡ take i calls ++ call ∷ [] = take_more calls i call c.loop-call-test.true ∙ ap (λ x. take i calls ++ x ∷ []) (sym c.call-item.is) in
    let reads = c.next_file-file.ensures.value ∙ ap (file_after call c.args.name.now) c.loop-call.invariant.reads ∙ sym (ap (λ (s : DiskState). s.files c.args.name.now) (ap (after start) taken ∙ after-push start (take i calls) call)) in
    record {
      reads = reads;
      synced = one_synced start start.files (take i calls) (take (i + 1) calls) call c.args.name.now _ _ _ taken reads c.loop-call.invariant.synced c.next_synced-synced.ensures.value;
    }
