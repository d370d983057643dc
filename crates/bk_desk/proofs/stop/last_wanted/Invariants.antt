use Rattle.std.proofs.Common.{◌≡◌, drop, None}
use Rattle.std.specs.Option.{option_map}
use Rattle.bk_desk.specs.Left.{wanted_file}
use Rattle.bk_desk.proofs.stop.last_wanted.Given as goal

abbrev pub invariant-loop-call : goal.invariant-loop-call
invariant-loop-call l = wanted_file (drop l.call-index l.calls) l.name (option_map (λ bytes. bytes.now) l.file) ≡ wanted_file l.calls l.name None
