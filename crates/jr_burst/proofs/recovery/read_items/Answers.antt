use Rattle.std.proofs.Common.{◌∙◌, ap}
use Rattle.jr_burst.specs.Recover.{items_got}
use Rattle.jr_burst.proofs.Capped.{items_read}
use Rattle.jr_burst.proofs.recovery.read_items.Goals as goal

pub returns-in-Ok-clause-value : goal.returns-in-Ok-clause-value
returns-in-Ok-clause-value g c = λ h. c.in-Ok.ensures.value ∙ ap items_got (c.in_ok-got.ensures.value h) ∙ items_read _
