use Rattle.bk_name.proofs.TextLemmas.{joined-uri}
use Rattle.bk_name.proofs.laws.uris_join_to_themselves.Goals as goal

pub returns : goal.returns
returns c = record { law = joined-uri }
