use Rattle.ed_laws.proofs.Theorems.{local_edit, local_steps}
use Rattle.ed_laws.proofs.laws.steps_are_local.Goals as goal

pub returns : goal.returns
returns c = record { law = local_edit; value = local_steps }
