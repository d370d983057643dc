use Rattle.std.proofs.Common.{Some, None, lit<}
use Rattle.std.proofs.lemmas.Str.Pattern.{strip_suffix_char}
use Rattle.xt_escape.proofs.Inner.{bracket_end, no_bracket_end}
use Rattle.xt_escape.proofs.content.split_end.Goals as goal

pub returns-in-Some : goal.returns-in-Some
returns-in-Some c = record { value = bracket_end c.args.text.now c.in-Some.inner.now c.utf8.text (strip_suffix_char 0x5D c.args.text.now (Some c.in-Some.inner) c.in-Some.ensures.cases (lit< tt)) }

pub returns-in-None : goal.returns-in-None
returns-in-None c = record { value = no_bracket_end c.args.text.now c.utf8.text (strip_suffix_char 0x5D c.args.text.now None c.in-None.ensures.cases (lit< tt)) }
