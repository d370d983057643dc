use Rattle.ent_doc.proofs.OnceLemmas.{open_has_no_fault}
use Rattle.ent_doc.proofs.laws.an_open_document_has_no_fault.Goals as goal

pub returns : goal.returns
returns c = record { law = open_has_no_fault }
