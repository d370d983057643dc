use Rattle.std.proofs.Common.{◌≡◌, ◌++◌, drop}
use Rattle.bk_spec.specs.Print.{deeper, attribute_lines}
use Rattle.bk_info.specs.Nodes.{attrs_in}
use Rattle.bk_place.proofs.tree.put_attributes.Given as goal

-- what is printed so far, and what is left
abbrev pub invariant-loop-attr : goal.invariant-loop-attr
invariant-loop-attr l = l.out.items ++ attribute_lines (deeper l.indent) (attrs_in (drop l.attr-index l.attrs)) ≡ l.fn.out.items ++ attribute_lines (deeper l.indent) (attrs_in l.attrs)
