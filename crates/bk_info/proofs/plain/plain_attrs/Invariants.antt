use Rattle.std.proofs.Common.{◌≡◌, ◌++◌, drop, map}
use Rattle.bk_spec.specs.Infoset.{plain_attr}
use Rattle.bk_info.specs.Nodes.{attrs_in}
use Rattle.bk_info.specs.Plains.{plain_attrs_in}
use Rattle.bk_info.proofs.plain.plain_attrs.Given as goal

-- the attributes so far, and those that are left
abbrev pub invariant-loop-attr : goal.invariant-loop-attr
invariant-loop-attr l = plain_attrs_in l.plain.items ++ map plain_attr (attrs_in (drop l.attr-index l.attrs)) ≡ map plain_attr (attrs_in l.attrs)
