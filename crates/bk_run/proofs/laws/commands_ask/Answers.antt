use Rattle.bk_run.proofs.TellingLemmas.{asks_all, asked_all}
use Rattle.bk_run.proofs.laws.commands_ask.Goals as goal

pub returns : goal.returns
returns c = record { law = asks_all; value = asked_all }
