use Rattle.std.proofs.Common.{sym, ap, ◌∙◌, arith}
use Rattle.jr_form.specs.Journal.{comes_after}
use Rattle.jr_form.proofs.Loop.{last_name-at}
use Rattle.jr_form.proofs.reading.is_next.Goals as goal

pub returns-in-len1-up : goal.returns-in-len1-up
returns-in-len1-up c =
    let last = last_name-at c.args.items.now c.last-item.result _ (omega arith) c.last-item.is in
    record { value = c.lt.ensures ∙ sym (ap (λ before. comes_after before c.args.name.now) last) }
