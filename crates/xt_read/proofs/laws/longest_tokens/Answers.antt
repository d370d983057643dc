use Rattle.xt_read.proofs.Theorems.{body_is_read, read_is_body}
use Rattle.xt_read.proofs.laws.longest_tokens.Goals as goal

pub returns : goal.returns
returns c = record { law = λ body text items. ((λ is. body_is_read body text items is.0 is.1), read_is_body body text items) }
