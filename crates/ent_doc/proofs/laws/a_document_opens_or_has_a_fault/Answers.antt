use Rattle.ent_doc.proofs.SomeOpening.{opens_or_fails}
use Rattle.ent_doc.proofs.laws.a_document_opens_or_has_a_fault.Goals as goal

pub returns : goal.returns
returns c = record { law = opens_or_fails }
