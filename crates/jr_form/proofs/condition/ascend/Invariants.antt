use Rattle.std.proofs.Common.{◌≡◌, drop, None}
use Rattle.std.specs.Option.{option_map}
use Rattle.jr_form.specs.Condition.{ascends}
use Rattle.jr_form.proofs.condition.ascend.Given as goal

abbrev pub invariant-loop-item : goal.invariant-loop-item
invariant-loop-item l = ascends (option_map (λ name. name.now) l.before) (drop l.item-index l.items) ≡ ascends None l.items
