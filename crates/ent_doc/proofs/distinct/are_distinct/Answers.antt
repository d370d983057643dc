use Rattle.std.proofs.Common.{◌∙◌}
use Rattle.ent_doc.proofs.DistinctLemmas.{apart_distinct}
use Rattle.ent_doc.proofs.distinct.are_distinct.Goals as goal

pub returns-then-attrs-le-FEW : goal.returns-then-attrs-le-FEW
returns-then-attrs-le-FEW c = record { value = c.are_few_distinct.ensures.value ∙ apart_distinct c.args.attrs.now }
