use Rattle.std.proofs.Common.{◌∙◌, sym}
use Rattle.ent_doc.proofs.AroundLemmas.{same_scope}
use Rattle.ent_doc.proofs.around.scope_in.Goals as goal

pub returns-then-not-declares-clause-value : goal.returns-then-not-declares-clause-value
returns-then-not-declares-clause-value c = same_scope c.args.outer.now c.args.values.now (sym c.declares.ensures.value ∙ c.if-not-declares.true)
