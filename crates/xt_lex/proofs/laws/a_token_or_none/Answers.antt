use Rattle.xt_lex.proofs.SomeFront.{some_front}
use Rattle.xt_lex.proofs.laws.a_token_or_none.Goals as goal

pub returns : goal.returns
returns c = record { law = some_front }
