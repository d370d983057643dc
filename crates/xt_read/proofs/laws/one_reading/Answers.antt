use Rattle.xt_read.proofs.Theorems.{one_reading}
use Rattle.xt_read.proofs.laws.one_reading.Goals as goal

pub returns : goal.returns
returns c = record { law = one_reading }
