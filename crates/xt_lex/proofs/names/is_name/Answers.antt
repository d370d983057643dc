use Rattle.xt_lex.proofs.NameLemmas.{name_exact}
use Rattle.xt_lex.proofs.names.is_name.Goals as goal

pub returns-clause-exact : goal.returns-clause-exact
returns-clause-exact c = name_exact c.args.text.now c.has_name_chars.result c.utf8.text c.has_name_chars.ensures
