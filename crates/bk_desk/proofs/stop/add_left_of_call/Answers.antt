use Rattle.std.proofs.Common.{◌++◌, ap, ◌∙◌}
use Rattle.std.proofs.lemmas.Result.{on_ok_weaker}
use Rattle.bk_desk.specs.Left.{left_image, entry_of}
use Rattle.bk_desk.proofs.StopLemmas.{covers_put}
use Rattle.bk_desk.proofs.stop.add_left_of_call.Goals as goal

pub returns-in-Put : goal.returns-in-Put
returns-in-Put c =
    let image = left_image c.args.start.now c.args.calls.now c.args.left.now in
    let old = c.args.entries.now.items in
    record { value = on_ok_weaker c.add_left.result (λ added. covers_put image c.args.call.now _ _ _ old c.add_left.new.entries.items c.in-Put.is (added ∙ ap (λ file. old ++ entry_of c.in-Put.name file) c.file_left-file.ensures.value)) c.add_left.ensures.value }
