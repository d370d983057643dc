use Rattle.xt_tree.specs.Meaning.{items_in}
use Rattle.ed_session.proofs.EditLemmas.{opens_read, no_fault_again}
use Rattle.ed_session.proofs.edit.read_again.Goals as goal

pub unreachable-requires : goal.unreachable-requires
unreachable-requires g c =
    let (root, items, opens) = c.requires.opens in
    no_fault_again root c.args.bytes.now items c.in-Err.unread opens c.in-Err.ensures.fault c.in_default.not-NoMemory

pub returns-in-Ok-clause-value : goal.returns-in-Ok-clause-value
returns-in-Ok-clause-value g c root items opens =
    opens_read root c.args.bytes.now items (items_in c.args.bytes.now c.in-Ok.tape) opens c.in-Ok.ensures.value
