use Rattle.std.proofs.Common.{◌≡◌, ◌∙◌, List, subst}
use Rattle.bk_desk.proofs.Theorems.{joined, weaker}
use Rattle.jr_form.specs.declared.item.Item.{Item}
use Rattle.bk_desk.specs.CrashPoints.{AtEachCrash}
use Rattle.jr_burst.specs.SavedFiles.{overlaid, book_files}
use Rattle.jr_burst.specs.Commit.{Leaves, RecoversTo}
use Rattle.jr_burst.proofs.Carrying.{written_is_new, closing_is_new}
use Rattle.jr_burst.proofs.atomic_commit.commit.Goals as goal

pub returns-in_err-carry_out-clause-crash : goal.returns-in_err-carry_out-clause-crash
returns-in_err-carry_out-clause-crash g c = λ h.
    let same : c.deref.result.now ≡ c.args.plan.now = c.deref.ensures.value ∙ c.plan.view_is in
    let start = g.D.Desk.standing c.args.desk.now in
    let due = g.D.Desk.standing c.open_gate.new.desk in
    let left : Leaves (book_files start.files) start due = c.in_ok-open_gate.ensures.durable h in
    let carrying = subst (λ (items : List Item). AtEachCrash g.D.Desk.time g.D.Desk.was c.open_gate.new.desk c.carry_out.new.desk (RecoversTo (overlaid items (book_files due.files)) due items)) same (c.carry_out.ensures.crash h) in
    joined g.D.Desk.time g.D.Desk.was c.args.desk.now c.open_gate.new.desk c.carry_out.new.desk _ (c.open_gate.ensures.crash h) (weaker g.D.Desk.time g.D.Desk.was c.open_gate.new.desk c.carry_out.new.desk _ _ carrying (λ crash is. written_is_new c.args.plan.now start due crash left is))

pub returns-clause-crash : goal.returns-clause-crash
returns-clause-crash g c = λ h.
    let same : c.deref.result.now ≡ c.args.plan.now = c.deref.ensures.value ∙ c.plan.view_is in
    let start = g.D.Desk.standing c.args.desk.now in
    let due = g.D.Desk.standing c.open_gate.new.desk in
    let done = g.D.Desk.standing c.carry_out.new.desk in
    let left : Leaves (book_files start.files) start due = c.in_ok-open_gate.ensures.durable h in
    let carrying = subst (λ (items : List Item). AtEachCrash g.D.Desk.time g.D.Desk.was c.open_gate.new.desk c.carry_out.new.desk (RecoversTo (overlaid items (book_files due.files)) due items)) same (c.carry_out.ensures.crash h) in
    let carried = subst (λ (items : List Item). Leaves (overlaid items (book_files due.files)) due done) same (c.in_ok-carry_out.ensures.durable h) in
    let written = joined g.D.Desk.time g.D.Desk.was c.args.desk.now c.open_gate.new.desk c.carry_out.new.desk _ (c.open_gate.ensures.crash h) (weaker g.D.Desk.time g.D.Desk.was c.open_gate.new.desk c.carry_out.new.desk _ _ carrying (λ crash is. written_is_new c.args.plan.now start due crash left is)) in
    joined g.D.Desk.time g.D.Desk.was c.args.desk.now c.carry_out.new.desk c.close_gate.new.desk _ written (weaker g.D.Desk.time g.D.Desk.was c.carry_out.new.desk c.close_gate.new.desk _ _ (c.close_gate.ensures.crash h) (λ crash is. closing_is_new c.args.plan.now start due done crash left carried is))
