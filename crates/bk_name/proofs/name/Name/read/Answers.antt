use Rattle.bk_name.proofs.FileNameLemmas.{is_file_name-no_text}
use Rattle.bk_name.proofs.name.Name.read.Goals as goal

pub returns-in_default-clause-fault : goal.returns-in_default-clause-fault
returns-in_default-clause-fault c = λ _. is_file_name-no_text _ c.in_default.ensures.cases.0
