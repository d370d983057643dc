use Rattle.std.proofs.Common.{◌≡◌, drop}
use Rattle.jr_form.specs.Condition.{files_fit}
use Rattle.jr_form.proofs.condition.files_fit.Given as goal

abbrev pub invariant-loop-item : goal.invariant-loop-item
invariant-loop-item l = files_fit l.left (drop l.item-index l.items) ≡ files_fit l.room l.items
