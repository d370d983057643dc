use Rattle.std.proofs.Common.{None, rules}
use Rattle.ed_session.proofs.KeptLemmas.{is_open_root}
use Rattle.ed_session.proofs.opening.opened.Goals as goal

pub invariant_of-result : goal.invariant_of-result
invariant_of-result g c =
    is_open_root c.args.root c.args.bytes.items c.as_slice.result.now c.in_ok-items.field-0.items c.in_ok-items.field-0.nodes None (search rules)
    (record { opens = c.in_ok-items.ensures.value; paths = c.in_ok-items.ensures.paths; via = c.in_ok-items.ensures.via }) c.in_ok-items.ensures.place (search rules)
