use Rattle.std.proofs.Common.{◌∙◌, ap, subst, sym, IfSome}
use Rattle.xt_spec.specs.Front.{IsForeign}
use Rattle.xt_spec.specs.FirstFault.{HasBodyAt}
use Rattle.xt_read.specs.Faults.{reading_fault, IsMarkupFault}
use Rattle.xt_read.specs.declared.unread.Unread.{Unread}
use Rattle.xt_read.specs.Front.{form_of, gaps_to}
use Rattle.xt_read.proofs.FrontPlaces.{mark_dropped, gaps_are, has_body}
use Rattle.xt_read.proofs.front.read_front.Goals as goal

pub returns-in-Err-clause-fault : goal.returns-in-Err-clause-fault
returns-in-Err-clause-fault c =
    let text = c.args.text.now in
    subst (λ (e : Unread). IfSome (reading_fault e) (IsMarkupFault c.args.role text)) (sym c.in-Err.ensures.fault.0)
    (subst (IsForeign (form_of c.args.role)) (mark_dropped text c.mark_len-mark.result c.mark_len-mark.ensures.value) c.in-Err.ensures.fault.1)

pub returns-clause-value : goal.returns-clause-value
returns-clause-value c =
    let text = c.args.text.now in
    gaps_are c.args.role text c.mark_len-mark.result c.in-Ok.declared c.mark_len-mark.ensures.value c.in-Ok.ensures.value
    ∙ ap (gaps_to text) (sym c.front_len.ensures)

pub returns-clause-opens : goal.returns-clause-opens
returns-clause-opens c =
    let text = c.args.text.now in
    subst (HasBodyAt (form_of c.args.role) text) (sym c.front_len.ensures)
    (has_body c.args.role text c.mark_len-mark.result c.in-Ok.declared c.mark_len-mark.ensures.value c.in-Ok.ensures.value)
