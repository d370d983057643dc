use Rattle.xt_lex.proofs.Cuts.{stripped, after_all_is}
use Rattle.xt_lex.proofs.front.after_all.Goals as goal

pub returns : goal.returns
returns c = after_all_is c.args.needle.now c.args.text.now c.strip_prefix.result (stripped c.args.needle.now c.args.text.now c.strip_prefix.result c.strip_prefix.ensures.cases)
