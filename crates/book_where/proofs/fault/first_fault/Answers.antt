use Rattle.std.proofs.Common.{◌≡◌, ◌∙◌, refl, ap, subst, drop}
use Rattle.std.specs.Option.{IfSome}
use Rattle.xt_spec.specs.FirstFault.{not_utf8, not_well_formed, too_deep, IsFirstFault}
use Rattle.xt_spec.specs.Reading.{document}
use Rattle.xt_read.specs.Faults.{reading_fault}
use Rattle.xt_read.specs.declared.unread.Unread.{Unread}
use Rattle.book_where.specs.Fault.{begun}
use Rattle.book_where.proofs.fault.first_fault.Goals as goal

pub returns-in-Err-NotUtf8 : goal.returns-in-Err-NotUtf8
returns-in-Err-NotUtf8 g c =
    let first = subst (λ (e : Unread). IfSome (reading_fault e) (IsFirstFault document c.args.bytes.now)) c.in-Err-NotUtf8.field-0-is c.in-Err-NotUtf8.ensures.fault in
    record { value = record { fault = not_utf8 c.in-Err-NotUtf8.at; first = first; is = refl } }

pub returns-in-Err-NotWellFormed : goal.returns-in-Err-NotWellFormed
returns-in-Err-NotWellFormed g c =
    let first = subst (λ (e : Unread). IfSome (reading_fault e) (IsFirstFault document c.args.bytes.now)) c.in-Err-NotWellFormed.field-0-is c.in-Err-NotWellFormed.ensures.fault in
    let rule : c.begun.result ≡ begun (drop c.in-Err-NotWellFormed.at c.args.bytes.now) = c.begun.ensures.value ∙ ap begun c.rest_from.ensures.value in
    record { value = record { fault = not_well_formed c.in-Err-NotWellFormed.at; first = first; is = rw rule refl } }

pub returns-in-Err-TooDeep : goal.returns-in-Err-TooDeep
returns-in-Err-TooDeep g c =
    let first = subst (λ (e : Unread). IfSome (reading_fault e) (IsFirstFault document c.args.bytes.now)) c.in-Err-TooDeep.field-0-is c.in-Err-TooDeep.ensures.fault in
    record { value = record { fault = too_deep; first = first; is = refl } }
