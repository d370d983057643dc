use Rattle.ed_laws.proofs.Theorems.{other_files_stay}
use Rattle.ed_laws.proofs.laws.other_files_stay.Goals as goal

pub returns : goal.returns
returns c = record { law = other_files_stay }
