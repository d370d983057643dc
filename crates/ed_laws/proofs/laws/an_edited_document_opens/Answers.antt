use Rattle.ed_laws.proofs.Theorems.{an_edited_document_opens, accepted_opens}
use Rattle.ed_laws.proofs.laws.an_edited_document_opens.Goals as goal

pub returns : goal.returns
returns c = record { law = an_edited_document_opens; value = accepted_opens }
