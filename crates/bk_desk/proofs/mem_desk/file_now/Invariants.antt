use Rattle.std.proofs.Common.{◌≡◌, take}
use Rattle.std.specs.Option.{option_map}
use Rattle.bk_desk.specs.Calls.{after, opening}
use Rattle.bk_desk.proofs.mem_desk.file_now.Given as goal

abbrev pub invariant-loop-call : goal.invariant-loop-call
invariant-loop-call l = option_map (λ bytes. bytes.now) l.file ≡ (after (opening l.start) (take l.call-index l.calls)).files l.name
