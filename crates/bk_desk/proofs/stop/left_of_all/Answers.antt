use Rattle.std.proofs.Common.{◌≡◌, ◌+◌, ◌||◌, [], ◌∷◌, ◌++◌, take, sym, ap, ◌∙◌}
use Rattle.std.proofs.lemmas.List.{take_more}
use Rattle.bk_desk.specs.Left.{left_image, is_named, is_written}
use Rattle.bk_desk.proofs.StopLemmas.{covers_call}
use Rattle.bk_desk.proofs.stop.left_of_all.Goals as goal

pub loop-call-preserved : goal.loop-call-preserved
loop-call-preserved c =
    let i = c.loop-call.call-index in
    let start = c.args.start.now in
    let calls = c.args.calls.now in
    let call = c.call-item.result in
    let taken : take (i + 1) calls ≡ take i calls ++ call ∷ [] = take_more calls i call c.loop-call-test.true ∙ ap (λ x. take i calls ++ x ∷ []) (sym c.call-item.is) in
    covers_call (left_image start calls c.args.left.now) start (take i calls) (take (i + 1) calls) call c.add_left_of_call.new.entries.items taken (c.in_ok-add_left_of_call.ensures.value (λ name. is_named start name || is_written (take i calls) name) c.loop-call.invariant)
