use Rattle.xt_lex.proofs.References.{stands_by}
use Rattle.xt_lex.proofs.reference.referenced_char.Goals as goal

pub returns-in_default : goal.returns-in_default
returns-in_default c = stands_by c.args.reference.now c.numbered_char.result c.numbered_char.ensures c.in_default.not-text c.in_default.not-text-2 c.in_default.not-text-3 c.in_default.not-text-4 c.in_default.not-text-5
