use Rattle.bk_script.proofs.Plain.{one_value, plain_string}
use Rattle.bk_script.proofs.laws.one_value.Goals as goal

pub returns-clause-one : goal.returns-clause-one
returns-clause-one c = one_value

pub returns-clause-value : goal.returns-clause-value
returns-clause-value c = plain_string
