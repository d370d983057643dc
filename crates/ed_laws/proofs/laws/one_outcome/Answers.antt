use Rattle.ed_laws.proofs.Theorems.{one_outcome}
use Rattle.ed_laws.proofs.laws.one_outcome.Goals as goal

pub returns : goal.returns
returns c = record { law = one_outcome }
