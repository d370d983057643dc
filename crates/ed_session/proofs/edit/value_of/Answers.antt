use Rattle.xt_read.proofs.Theorems.{text_item_utf8}
use Rattle.ed_session.proofs.edit.value_of.Goals as goal

pub unreachable-requires : goal.unreachable-requires
unreachable-requires c = c.in-Err.ensures.cases.0 (text_item_utf8 c.args.text.now c.requires.item)
