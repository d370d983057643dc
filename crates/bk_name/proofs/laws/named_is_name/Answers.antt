use Rattle.bk_name.proofs.LawLemmas.{named_is_name}
use Rattle.bk_name.proofs.laws.named_is_name.Goals as goal

pub returns : goal.returns
returns c = record { law = named_is_name }
