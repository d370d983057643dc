use Rattle.std.proofs.Common.{◌∙◌, List, subst, sym}
use Rattle.xt_tree.specs.Places.{Mark, AreInPlace}
use Rattle.xt_read.specs.Progress.{body_of}
use Rattle.xt_read.specs.Run.{Body}
use Rattle.xt_read.specs.Faults.{reading_fault, IsBodyFault}
use Rattle.xt_read.proofs.Runs.{IfSome-weaker}
use Rattle.xt_read.proofs.FrontPlaces.{text_fault, joined_items, joined_places}
use Rattle.xt_read.specs.FrontSteps.{front_src}
use Rattle.xt_read.proofs.FrontItems.{front_are, front_stand}
use Rattle.xt_read.proofs.document.read_markup.Goals as goal

pub returns-in-Err-read_body-clause-fault : goal.returns-in-Err-read_body-clause-fault
returns-in-Err-read_body-clause-fault c =
    let text = c.args.text.now in
    IfSome-weaker (reading_fault c.in-Err-read_body.unread) _ _ (λ f fault.
    text_fault c.args.role text c.in-Ok.front.to f c.in-Ok.ensures.opens (subst (λ (b : Body). IsBodyFault b text c.in-Ok.front.to f) c.body.ensures fault)) c.in-Err-read_body.ensures.fault

pub returns-in-Ok-put_before-clause-value : goal.returns-in-Ok-put_before-clause-value
returns-in-Ok-put_before-clause-value c =
    let text = c.args.text.now in
    let front = c.in-Ok.front in
    joined_items c.args.role (body_of c.body.result) text (front_src front.mark front.declared) c.in-Ok-read_body.tape c.put_before.new.tape front.to c.body.ensures c.in-Ok.ensures.opens (front_are text front.mark front.declared ∙ c.in-Ok.ensures.value) c.in-Ok-read_body.ensures.value c.in-Ok-put_before.ensures.value

pub returns-in-Ok-put_before-clause-place : goal.returns-in-Ok-put_before-clause-place
returns-in-Ok-put_before-clause-place c =
    let text = c.args.text.now in
    let front = c.in-Ok.front in
    joined_places text (front_src front.mark front.declared) c.in-Ok-read_body.tape c.put_before.new.tape front.to
    (subst (λ (m : List Mark). AreInPlace text 0 m front.to) (sym (front_stand front.mark front.declared)) c.in-Ok.ensures.place) c.in-Ok-read_body.ensures.place c.in-Ok-put_before.ensures.value
