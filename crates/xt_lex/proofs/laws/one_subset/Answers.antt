use Rattle.xt_lex.proofs.Subsets.{one_end}
use Rattle.xt_lex.proofs.laws.one_subset.Goals as goal

pub returns : goal.returns
returns c = record { law = one_end }
