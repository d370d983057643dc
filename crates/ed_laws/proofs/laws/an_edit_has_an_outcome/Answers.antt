use Rattle.ed_laws.proofs.Theorems.{has_an_outcome}
use Rattle.ed_laws.proofs.laws.an_edit_has_an_outcome.Goals as goal

pub returns : goal.returns
returns c = record { law = has_an_outcome }
