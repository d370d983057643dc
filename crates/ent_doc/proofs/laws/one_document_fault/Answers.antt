use Rattle.ent_doc.proofs.OnceLemmas.{document_fault_once}
use Rattle.ent_doc.proofs.laws.one_document_fault.Goals as goal

pub returns : goal.returns
returns c = record { law = document_fault_once }
