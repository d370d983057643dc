use Rattle.xt_read.proofs.Theorems.{one_first_fault}
use Rattle.xt_read.proofs.laws.one_fault.Goals as goal

pub returns : goal.returns
returns c = record { law = one_first_fault }
