use Rattle.ent_doc.proofs.OnceLemmas.{opens_once}
use Rattle.ent_doc.proofs.laws.a_document_opens_once.Goals as goal

pub returns : goal.returns
returns c = record { law = opens_once }
