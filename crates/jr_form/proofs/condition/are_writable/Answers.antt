use Rattle.jr_form.proofs.ConditionLemmas.{is_met-exact}
use Rattle.jr_form.proofs.condition.are_writable.Goals as goal

pub returns : goal.returns
returns c = record { exact = rw c.is_met.ensures.value (is_met-exact c.args.items.now) }
