use Rattle.std.proofs.Common.{Some, None, lit<}
use Rattle.std.proofs.lemmas.Str.Pattern.{strip_prefix_char}
use Rattle.xt_escape.proofs.Inner.{line_front, no_line_front}
use Rattle.xt_escape.proofs.content.split_front.Goals as goal

pub returns-in-Some : goal.returns-in-Some
returns-in-Some c = record { value = line_front c.args.text.now c.in-Some.rest.now c.utf8.text (strip_prefix_char 0xA c.args.text.now (Some c.in-Some.rest) c.in-Some.ensures.cases (lit< tt)) }

pub returns-in-None : goal.returns-in-None
returns-in-None c = record { value = no_line_front c.args.text.now c.utf8.text (strip_prefix_char 0xA c.args.text.now None c.in-None.ensures.cases (lit< tt)) }
