use Rattle.std.proofs.Common.{◌≡◌, drop}
use Rattle.xt_read.specs.Progress.{are_apart}
use Rattle.xt_read.proofs.names.are_few_distinct.Given as goal

abbrev pub invariant-loop-i : goal.invariant-loop-i
invariant-loop-i l = are_apart l.bytes l.attrs ≡ are_apart l.bytes (drop l.i l.attrs)
