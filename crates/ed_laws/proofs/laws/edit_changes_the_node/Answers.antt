use Rattle.ed_laws.proofs.Theorems.{edit_changes_the_node, accepted_changes_the_node}
use Rattle.ed_laws.proofs.laws.edit_changes_the_node.Goals as goal

pub returns : goal.returns
returns c = record { law = edit_changes_the_node; value = accepted_changes_the_node }
