use Rattle.xt_lex.proofs.Declarations.{read_only, read_one, read_none}
use Rattle.xt_lex.proofs.declaration.read_declaration.Goals as goal

pub returns-clause-only : goal.returns-clause-only
returns-clause-only c = read_only c.args.text.now c.whole_declaration.result c.utf8.text c.whole_declaration.ensures

pub returns-clause-one : goal.returns-clause-one
returns-clause-one c = read_one c.args.text.now c.whole_declaration.result c.utf8.text c.whole_declaration.ensures

pub returns-clause-none : goal.returns-clause-none
returns-clause-none c = read_none c.args.text.now c.whole_declaration.result c.whole_declaration.ensures
