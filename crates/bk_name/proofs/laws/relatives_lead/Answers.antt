use Rattle.bk_name.proofs.TextLemmas.{joined-relative_uri}
use Rattle.bk_name.proofs.laws.relatives_lead.Goals as goal

pub returns : goal.returns
returns c = record { law = joined-relative_uri }
