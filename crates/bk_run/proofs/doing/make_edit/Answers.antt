use Rattle.ed_edit.specs.View.{edit_of}
use Rattle.bk_run.proofs.CountLemmas.{edit_counts, refused_counts, wanting_counts}
use Rattle.bk_run.proofs.DoingLemmas.{edit_done, edit_refused}
use Rattle.bk_run.proofs.doing.make_edit.Goals as goal

pub returns-in-Ok-clause-value : goal.returns-in-Ok-clause-value
returns-in-Ok-clause-value g c = λ s disk stands. edit_done c.args.session.now c.edit.new.self disk s (edit_of c.args.edit.now) stands c.in-Ok.ensures.value

pub returns-in-Err-Refused-clause-value : goal.returns-in-Err-Refused-clause-value
returns-in-Err-Refused-clause-value g c = λ s disk stands.
    edit_refused c.args.session.now c.edit.new.self disk s (edit_of c.args.edit.now) c.in-Err-Refused.refusal stands c.in-Err-Refused.ensures.same (rw c.in-Err-Refused.field-0-is at c.in-Err-Refused.ensures.fault)

pub returns-in-Ok-clause-exact : goal.returns-in-Ok-clause-exact
returns-in-Ok-clause-exact g c = λ s next reply disk stands does.
    edit_counts _ c.args.session.now c.edit.new.self disk s next reply (edit_of c.args.edit.now) c.args.steps.now c.edit.new.steps stands c.in-Ok.ensures.value does c.in-Ok.ensures.exact

pub returns-in-Err-Refused-clause-exact : goal.returns-in-Err-Refused-clause-exact
returns-in-Err-Refused-clause-exact g c = λ s next reply disk stands does.
    refused_counts _ c.args.session.now c.edit.new.self disk s next reply (edit_of c.args.edit.now) c.in-Err-Refused.refusal c.args.steps.now c.edit.new.steps stands c.in-Err-Refused.ensures.same (rw c.in-Err-Refused.field-0-is at c.in-Err-Refused.ensures.fault) does
    (rw c.in-Err-Refused.field-0-is at c.in-Err-Refused.ensures.exact)

pub returns-in-Err-NoMemory-clause-exact : goal.returns-in-Err-NoMemory-clause-exact
returns-in-Err-NoMemory-clause-exact g c = λ s next reply disk stands does.
    wanting_counts _ c.args.session.now disk s next reply (edit_of c.args.edit.now) c.args.steps.now c.edit.new.steps (λ ok. absurd (cc)) stands does (rw c.in-Err-NoMemory.field-0-is at c.in-Err-NoMemory.ensures.exact)
