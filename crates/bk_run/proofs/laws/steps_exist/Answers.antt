use Rattle.bk_run.proofs.RunLemmas.{steps_exist, opened_runs}
use Rattle.bk_run.proofs.laws.steps_exist.Goals as goal

pub returns : goal.returns
returns c = record { law = steps_exist; value = opened_runs }
