use Rattle.std.proofs.Common.{◌≡◌, drop, None}
use Rattle.std.specs.Option.{option_map}
use Rattle.bk_desk.specs.Calls.{file_in}
use Rattle.bk_desk.proofs.mem_desk.first_file.Given as goal

abbrev pub invariant-loop-entry : goal.invariant-loop-entry
invariant-loop-entry l = file_in (drop l.entry-index l.start) l.name (option_map (λ bytes. bytes.now) l.found) ≡ file_in l.start l.name None
