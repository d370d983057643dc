use Rattle.xt_value.proofs.Theorems.{void_is_empty}
use Rattle.xt_value.proofs.laws.void_is_empty.Goals as goal

pub returns : goal.returns
returns c = record { law = void_is_empty }
