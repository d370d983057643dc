use Rattle.bk_name.proofs.TextLemmas.{ReadsBack-uri}
use Rattle.bk_name.proofs.laws.uris_read_back.Goals as goal

pub returns : goal.returns
returns c = record { law = ReadsBack-uri }
