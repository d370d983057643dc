use Rattle.xt_value.proofs.Theorems.{text_value_unique}
use Rattle.xt_value.proofs.laws.one_text_value.Goals as goal

pub returns : goal.returns
returns c = record { law = text_value_unique }
