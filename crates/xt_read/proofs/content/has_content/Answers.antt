use Rattle.xt_tree.specs.Meaning.{items_in}
use Rattle.xt_read.proofs.ItemContent.{reading_spelled}
use Rattle.xt_read.proofs.content.has_content.Goals as goal

pub items_have_content-requires-clause-spelled : goal.items_have_content-requires-clause-spelled
items_have_content-requires-clause-spelled c = reading_spelled c.args.text.now (items_in c.args.text.now c.args.items.now) c.requires.reading
