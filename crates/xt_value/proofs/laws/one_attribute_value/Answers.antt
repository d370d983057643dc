use Rattle.xt_value.proofs.Theorems.{attribute_value_unique}
use Rattle.xt_value.proofs.laws.one_attribute_value.Goals as goal

pub returns : goal.returns
returns c = record { law = attribute_value_unique }
