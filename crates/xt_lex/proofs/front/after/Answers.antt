use Rattle.std.proofs.lemmas.Str.Pattern.{strip_prefix_char}
use Rattle.std.proofs.Common.{[], ◌∷◌}
use Rattle.xt_scan.proofs.Theorems.{after_word_is}
use Rattle.xt_lex.proofs.Runs.{after_is}
use Rattle.xt_lex.proofs.front.after.Goals as goal

pub returns-clause-value : goal.returns-clause-value
returns-clause-value c = after_is c.args.c c.args.text.now c.strip_prefix.result (strip_prefix_char c.args.c c.args.text.now c.strip_prefix.result c.strip_prefix.ensures.cases c.requires)

pub returns-clause-form : goal.returns-clause-form
returns-clause-form c = after_word_is (c.args.c ∷ []) c.args.text.now c.strip_prefix.result (strip_prefix_char c.args.c c.args.text.now c.strip_prefix.result c.strip_prefix.ensures.cases c.requires)
