use Rattle.std.proofs.Common.{rules}
use Rattle.xt_tree.specs.Meaning.{items_in}
use Rattle.ed_session.proofs.EditLemmas.{same_edit}
use Rattle.ed_session.proofs.edit.edited_by.Goals as goal

pub returns-clause-value : goal.returns-clause-value
returns-clause-value c =
    same_edit c.edited.result c.args.bytes.now (items_in c.args.bytes.now c.args.items.now) _ _ (search rules) c.edited.ensures.value
