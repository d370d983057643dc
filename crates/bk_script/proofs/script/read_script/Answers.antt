use Rattle.std.proofs.Common.{map}
use Rattle.bk_script.specs.View.{command_of}
use Rattle.bk_script.proofs.Scripts.{ok_by, err_by, only_by}
use Rattle.bk_script.proofs.script.read_script.Goals as goal

pub returns-clause-value : goal.returns-clause-value
returns-clause-value c = ok_by c.args.bytes.now (λ v. map command_of v.items) c.read.result c.read.ensures

pub returns-clause-fault : goal.returns-clause-fault
returns-clause-fault c = err_by c.args.bytes.now (λ v. map command_of v.items) c.read.result c.read.ensures

pub returns-clause-only : goal.returns-clause-only
returns-clause-only c = only_by c.args.bytes.now (λ v. map command_of v.items) c.read.result c.read.ensures
