use Rattle.std.proofs.Common.{◌≡◌, ◌-◌, None}
use Rattle.jr_form.specs.Journal.{last_name}
use Rattle.jr_form.specs.Reading.{items_at}
use Rattle.jr_form.proofs.Loop.{with_front}
use Rattle.jr_form.proofs.reading.items_of.Given as goal

abbrev pub invariant-loop : goal.invariant-loop
invariant-loop l = with_front l.items.items (items_at (l.count - l.counter) (last_name l.items.items) l.rest) ≡ items_at l.count None l.bytes
