use Rattle.xt_lex.proofs.DataLemmas.{first_close}
use Rattle.xt_lex.proofs.data.close_at.Goals as goal

pub returns : goal.returns
returns c = first_close c.args.bytes.now c.find.result c.unwrap_or.result c.find.ensures c.unwrap_or.ensures
