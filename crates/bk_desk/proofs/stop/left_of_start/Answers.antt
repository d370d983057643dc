use Rattle.std.proofs.Common.{◌≡◌, ◌+◌, [], ◌∷◌, ◌++◌, take, sym, ap, ◌∙◌}
use Rattle.std.proofs.lemmas.List.{take_more}
use Rattle.bk_desk.specs.Left.{left_image, entry_of}
use Rattle.bk_desk.proofs.StopLemmas.{covers_entry}
use Rattle.bk_desk.proofs.stop.left_of_start.Goals as goal

pub loop-entry-preserved : goal.loop-entry-preserved
loop-entry-preserved c =
    let i = c.loop-entry.entry-index in
    let start = c.args.start.now in
    let entry = c.entry-item.result in
    let made = c.loop-entry.entries.items in
    let taken : take (i + 1) start ≡ take i start ++ entry ∷ [] = take_more start i entry c.loop-entry-test.true ∙ ap (λ x. take i start ++ x ∷ []) (sym c.entry-item.is) in
    covers_entry (left_image start c.args.calls.now c.args.left.now) (take i start) (take (i + 1) start) entry made c.add_left.new.entries.items taken (c.in_ok-add_left.ensures.value ∙ ap (λ file. made ++ entry_of entry.name file) c.file_left-file.ensures.value) c.loop-entry.invariant
