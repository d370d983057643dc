use Rattle.xt_value.proofs.Theorems.{content_unique}
use Rattle.xt_value.proofs.laws.one_content.Goals as goal

pub returns : goal.returns
returns c = record { law = content_unique }
