use Rattle.bk_script.proofs.Scripts.{one_fault}
use Rattle.bk_script.proofs.laws.one_fault.Goals as goal

pub returns : goal.returns
returns c = record { one = one_fault }
