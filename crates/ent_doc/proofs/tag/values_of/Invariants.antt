use Rattle.std.proofs.Common.{length}
use Rattle.ent_doc.specs.Steps.{AreCut}
use Rattle.ent_doc.proofs.TagLemmas.{ReadsValues}
use Rattle.ent_doc.proofs.tag.values_of.Given as goal

-- what is left is cut; the values so far, and those that are left
abbrev pub invariant-loop-attr : goal.invariant-loop-attr
invariant-loop-attr l = record {
  cut : AreCut l.source.text.now l.left;
  read : ReadsValues l.source.text.now l.attrs l.left l.values.items;
}

abbrev pub decreases-loop-attr : goal.decreases-loop-attr
decreases-loop-attr l = length l.left
