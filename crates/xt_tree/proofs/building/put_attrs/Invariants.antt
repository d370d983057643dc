use Rattle.std.proofs.Common.{◌≡◌, ◌++◌, map, take}
use Rattle.xt_tree.specs.Rows.{attr_entry}
use Rattle.xt_tree.proofs.building.put_attrs.Given as goal

abbrev pub invariant-loop-attr : goal.invariant-loop-attr
invariant-loop-attr l = l.entries.items ≡ l.fn.entries.items ++ map attr_entry (take l.attr-index l.attrs)
