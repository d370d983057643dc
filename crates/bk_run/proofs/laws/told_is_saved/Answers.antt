use Rattle.bk_run.proofs.StopLemmas.{told_is_saved}
use Rattle.bk_run.proofs.laws.told_is_saved.Goals as goal

pub returns : goal.returns
returns c = record { law = told_is_saved }
