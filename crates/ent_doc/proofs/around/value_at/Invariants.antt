use Rattle.std.proofs.Common.{◌≡◌, drop}
use Rattle.ent_doc.specs.Steps.{attr_value}
use Rattle.ent_doc.proofs.around.value_at.Given as goal

-- none of those so far has the name
abbrev pub invariant-loop-attr : goal.invariant-loop-attr
invariant-loop-attr l = attr_value l.attrs l.qname ≡ attr_value (drop l.attr-index l.attrs) l.qname
