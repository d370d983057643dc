use Rattle.std.proofs.Common.{List, length}
use Rattle.xt_spec.specs.Tag.{Attribute}
use Rattle.xt_read.specs.ContentTest.{StandAll}
use Rattle.xt_read.proofs.TagValues.{IsLeft}
use Rattle.xt_read.proofs.content.attributes_have_values.Given as goal

abbrev pub invariant-loop-attr : goal.invariant-loop-attr
invariant-loop-attr l = (all : List Attribute) → StandAll l.text l.attrs all → IsLeft l.text l.left all

abbrev pub decreases-loop-attr : goal.decreases-loop-attr
decreases-loop-attr l = length l.left
