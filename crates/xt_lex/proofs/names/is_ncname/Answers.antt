use Rattle.xt_lex.proofs.NameLemmas.{ncname_exact}
use Rattle.xt_lex.proofs.Sound.{plain_ncname_value}
use Rattle.xt_lex.proofs.names.is_ncname.Goals as goal

pub returns-then-is_plain_name-clause-exact : goal.returns-then-is_plain_name-clause-exact
returns-then-is_plain_name-clause-exact c = ncname_exact c.args.text.now c.is_plain_name.result c.utf8.text (plain_ncname_value c.args.text.now c.as_bytes.result.now c.is_plain_name.result c.as_bytes.ensures.value c.is_plain_name.ensures c.if-is_plain_name.true)

pub returns-then-is_plain_name-clause-value : goal.returns-then-is_plain_name-clause-value
returns-then-is_plain_name-clause-value c = plain_ncname_value c.args.text.now c.as_bytes.result.now c.is_plain_name.result c.as_bytes.ensures.value c.is_plain_name.ensures c.if-is_plain_name.true

pub returns-else-is_plain_name-clause-exact : goal.returns-else-is_plain_name-clause-exact
returns-else-is_plain_name-clause-exact c = ncname_exact c.args.text.now c.has_ncname_chars.result c.utf8.text c.has_ncname_chars.ensures
