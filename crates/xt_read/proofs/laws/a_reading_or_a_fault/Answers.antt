use Rattle.xt_read.proofs.Theorems.{a_reading_or_a_fault}
use Rattle.xt_read.proofs.laws.a_reading_or_a_fault.Goals as goal

pub returns : goal.returns
returns c = record { law = a_reading_or_a_fault }
