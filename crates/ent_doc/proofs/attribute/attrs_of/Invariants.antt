use Rattle.std.specs.Vec.Iter.{into_iter_items}
use Rattle.ent_doc.proofs.AttributeLemmas.{AttrsTo}
use Rattle.ent_doc.proofs.attribute.attrs_of.Given as goal

-- the attributes so far, and those that are left
abbrev pub invariant-loop-value : goal.invariant-loop-value
invariant-loop-value l = AttrsTo l.source.file.now l.scope l.fn.values.items (into_iter_items l.value-iterator) l.attrs.items
