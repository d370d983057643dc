use Rattle.ed_laws.proofs.Theorems.{one_reply, one_run}
use Rattle.ed_laws.proofs.laws.one_reply.Goals as goal

pub returns : goal.returns
returns c = record { law = one_reply; value = one_run }
