use Rattle.std.proofs.Common.{sym}
use Rattle.bk_script.proofs.Lines.{lf_none, lf_found}
use Rattle.bk_script.proofs.script.ended_line.Goals as goal

pub returns-in-Some : goal.returns-in-Some
returns-in-Some c = sym (lf_found c.args.bytes.now c.in-Some.at c.without_cr.result.now c.in-Some.ensures c.without_cr.ensures)

pub returns-in-None : goal.returns-in-None
returns-in-None c = sym (lf_none c.args.bytes.now c.in-None.ensures)
