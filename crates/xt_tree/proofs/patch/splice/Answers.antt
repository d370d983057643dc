use Rattle.std.proofs.Common.{◌∙◌}
use Rattle.xt_tree.proofs.PatchLemmas.{spliced, yields_all}
use Rattle.xt_tree.proofs.patch.splice.Goals as goal

pub returns-clause-value : goal.returns-clause-value
returns-clause-value c =
    let (it, given, gives, (left, (last, yields, stops)), items, size) = c.in_ok-splice.ensures.items in
    items ∙ spliced c.args.bytes.now.items c.args.patch.now.new.items given c.args.patch.now.from c.args.patch.now.to (yields_all it last left given yields stops ∙ gives.0 ∙ c.in_ok-new.ensures.items ∙ c.as_slice.ensures.value)
