use Rattle.bk_script.proofs.Scripts.{one_reading, no_fault}
use Rattle.bk_script.proofs.laws.one_script.Goals as goal

pub returns-clause-one : goal.returns-clause-one
returns-clause-one c = one_reading

pub returns-clause-fault : goal.returns-clause-fault
returns-clause-fault c = no_fault
