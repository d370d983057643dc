use Rattle.xt_read.proofs.Theorems.{document_content_or_none}
use Rattle.xt_read.proofs.laws.content_or_none.Goals as goal

pub returns : goal.returns
returns c = record { law = document_content_or_none }
