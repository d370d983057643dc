use Rattle.std.proofs.Common.{◌≡◌, map}
use Rattle.bk_desk.proofs.mem_desk.entries_of.Given as goal

abbrev pub invariant-loop-name : goal.invariant-loop-name
invariant-loop-name l = l.entries.items ≡ map (λ file. record { name = file.0; bytes = file.1.items }) l.yielded
