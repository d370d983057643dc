use Rattle.std.proofs.Common.{length, IsUtf8}
use Rattle.xt_read.specs.References.{Edge, IsSame}
use Rattle.xt_read.proofs.content.stands_for_characters.Given as goal

abbrev pub decreases-loop-rest : goal.decreases-loop-rest
decreases-loop-rest l = length l.rest

abbrev pub invariant-loop-rest : goal.invariant-loop-rest
invariant-loop-rest l = record { utf8 : IsUtf8 l.rest; edge : Edge l.rest; same : IsSame l.text l.rest }
