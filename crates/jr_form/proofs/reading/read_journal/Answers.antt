use Rattle.std.proofs.Common.{◌≡◌, None, Some, arith}
use Rattle.jr_form.specs.Reading.{reading}
use Rattle.jr_form.proofs.Items.{reading_takes, reading_again}
use Rattle.jr_form.proofs.reading.read_journal.Goals as goal

pub returns-in-Ok-clause-found : goal.returns-in-Ok-clause-found
returns-in-Ok-clause-found c = reading_takes c.args.bytes.now c.in-Ok.items.items (λ i. omega (arith, c.type_inv.bytes i)) c.in-Ok.ensures.value

pub returns-in-Err-NoReading-clause-only : goal.returns-in-Err-NoReading-clause-only
returns-in-Err-NoReading-clause-only c = λ items is.
    let e : reading c.args.bytes.now ≡ None = rw c.in-Err-NoReading.field-0-is at c.in-Err-NoReading.ensures.value in
    let f : reading c.args.bytes.now ≡ Some items = reading_again items c.args.bytes.now is in
    cc
