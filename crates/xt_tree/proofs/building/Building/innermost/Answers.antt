use Rattle.xt_tree.specs.Built.{built}
use Rattle.xt_tree.proofs.BuiltLemmas.{innermost_entry, innermost_named, not_elem}
use Rattle.xt_tree.proofs.building.Building.innermost.Goals as goal

pub unreachable-requires : goal.unreachable-requires
unreachable-requires c =
    let it = innermost_entry c.args.self.now c.deref.result.now c.in-Some.at.now c.index.result.now c.requires.sound c.deref.ensures.value c.in-Some.ensures.item.1 c.in-Some.ensures.item.3.0 c.index.ensures in
    not_elem (built c.args.self.now).opened c.index.result.now it c.in_default-index.not-Elem

pub name_at-requires : goal.name_at-requires
name_at-requires c =
    let it = innermost_entry c.args.self.now c.deref.result.now c.in-Some.at.now c.index.result.now c.requires.sound c.deref.ensures.value c.in-Some.ensures.item.1 c.in-Some.ensures.item.3.0 c.index.ensures in
    record { order = (innermost_named (built c.args.self.now).opened c.index.result.now c.in-Elem.from c.in-Elem.to c.in-Elem.name_to c.in-Elem.inside c.in-Elem.is it).0 }
