use Rattle.std.proofs.Common.{◌∙◌}
use Rattle.xt_read.proofs.NameLemmas.{apart_distinct}
use Rattle.xt_read.proofs.names.are_distinct.Goals as goal

pub returns-then-attrs-le-FEW : goal.returns-then-attrs-le-FEW
returns-then-attrs-le-FEW c = c.are_few_distinct.ensures ∙ apart_distinct c.args.bytes.now c.args.attrs.now
