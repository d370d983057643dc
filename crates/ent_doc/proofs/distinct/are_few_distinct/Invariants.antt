use Rattle.std.proofs.Common.{◌≡◌, drop}
use Rattle.ent_doc.specs.Steps.{are_apart}
use Rattle.ent_doc.proofs.distinct.are_few_distinct.Given as goal

abbrev pub invariant-loop-i : goal.invariant-loop-i
invariant-loop-i l = are_apart l.attrs ≡ are_apart (drop l.i l.attrs)
