use Rattle.xt_read.proofs.Theorems.{no_first_fault}
use Rattle.xt_read.proofs.laws.no_fault.Goals as goal

pub returns : goal.returns
returns c = record { law = no_first_fault }
