use Rattle.bk_run.proofs.DoingLemmas.{start_stands, start_opens, start_closes}
use Rattle.bk_run.proofs.laws.start_stands.Goals as goal

pub returns : goal.returns
returns c = record { law = start_stands; value = start_opens; keeps = start_closes }
