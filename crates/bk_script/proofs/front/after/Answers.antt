use Rattle.std.proofs.lemmas.Str.Pattern.{strip_prefix_char}
use Rattle.xt_lex.proofs.Theorems.{after_is}
use Rattle.bk_script.proofs.front.after.Goals as goal

pub returns : goal.returns
returns c = after_is c.args.c c.args.text.now c.strip_prefix.result (strip_prefix_char c.args.c c.args.text.now c.strip_prefix.result c.strip_prefix.ensures.cases c.requires)
