use Rattle.bk_script.proofs.Lines.{command_or_none}
use Rattle.bk_script.proofs.Unique.{one_reading}
use Rattle.bk_script.proofs.laws.one_command.Goals as goal

pub returns-clause-one : goal.returns-clause-one
returns-clause-one c = one_reading

pub returns-clause-none : goal.returns-clause-none
returns-clause-none c = command_or_none
