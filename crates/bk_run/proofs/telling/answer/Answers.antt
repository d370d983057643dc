use Rattle.std.proofs.Common.{refl}
use Rattle.bk_run.specs.Replies.{reply_of}
use Rattle.bk_run.specs.Doing.{asked_of}
use Rattle.bk_run.proofs.CountLemmas.{err_no_ok, takes_where}
use Rattle.bk_run.proofs.TellingLemmas.{prefix_told, doing_crash, telling_crash}
use Rattle.bk_run.proofs.telling.answer.Goals as goal

pub returns-in_err-reply-clause-crash : goal.returns-in_err-reply-clause-crash
returns-in_err-reply-clause-crash g c = λ h s next reply stands does.
    doing_crash g.D.Desk.standing g.D.Desk.time g.D.Desk.was c.args.session.now.root c.args.command.now c.args.session.now c.args.desk.now c.perform.new.desk s next reply stands does (c.perform.ensures.crash h)

pub returns-in_err-tell_reply-clause-prefix : goal.returns-in_err-tell_reply-clause-prefix
returns-in_err-tell_reply-clause-prefix g c = λ h s next reply stands does.
    prefix_told c.args.session.now.root s next (asked_of c.args.command.now) reply (reply_of c.in_ok-reply.reply) c.perform.new.session (g.D.Desk.standing c.args.desk.now) (g.D.Desk.standing c.perform.new.desk) (g.D.Desk.standing c.tell_reply.new.desk)
    (c.in_ok-reply.ensures.value h s stands) does (c.perform.ensures.same h) (c.tell_reply.ensures.prefix h)

pub returns-in_err-tell_reply-clause-crash : goal.returns-in_err-tell_reply-clause-crash
returns-in_err-tell_reply-clause-crash g c = λ h s next reply stands does.
    telling_crash g.D.Desk.standing g.D.Desk.time g.D.Desk.was c.args.session.now.root c.args.command.now c.args.session.now c.perform.new.session c.args.desk.now c.perform.new.desk c.tell_reply.new.desk s next reply (reply_of c.in_ok-reply.reply) stands does
    (c.in_ok-reply.ensures.value h s stands) (c.perform.ensures.same h) (c.perform.ensures.crash h) (c.tell_reply.ensures.crash h)

pub returns-clause-prefix : goal.returns-clause-prefix
returns-clause-prefix g c = λ h s next reply stands does.
    prefix_told c.args.session.now.root s next (asked_of c.args.command.now) reply (reply_of c.in_ok-reply.reply) c.perform.new.session (g.D.Desk.standing c.args.desk.now) (g.D.Desk.standing c.perform.new.desk) (g.D.Desk.standing c.tell_reply.new.desk)
    (c.in_ok-reply.ensures.value h s stands) does (c.perform.ensures.same h) (c.tell_reply.ensures.prefix h)

pub returns-clause-crash : goal.returns-clause-crash
returns-clause-crash g c = λ h s next reply stands does.
    telling_crash g.D.Desk.standing g.D.Desk.time g.D.Desk.was c.args.session.now.root c.args.command.now c.args.session.now c.perform.new.session c.args.desk.now c.perform.new.desk c.tell_reply.new.desk s next reply (reply_of c.in_ok-reply.reply) stands does
    (c.in_ok-reply.ensures.value h s stands) (c.perform.ensures.same h) (c.perform.ensures.crash h) (c.tell_reply.ensures.crash h)

pub returns-in_err-reply-clause-exact : goal.returns-in_err-reply-clause-exact
returns-in_err-reply-clause-exact g c = λ h s next reply stands does.
    takes_where _ _ _ c.args.steps.now c.perform.new.steps (λ ok. absurd (err_no_ok c.from_residual.result c.from_residual.ensures.0 ok)) (c.perform.ensures.exact h s next reply stands does)

pub returns-in_err-tell_reply-clause-exact : goal.returns-in_err-tell_reply-clause-exact
returns-in_err-tell_reply-clause-exact g c = λ h s next reply stands does.
    takes_where _ _ _ c.args.steps.now c.perform.new.steps (λ ok. refl) (c.in_ok-reply.ensures.exact h s next reply stands does)

pub returns-clause-exact : goal.returns-clause-exact
returns-clause-exact g c = λ h s next reply stands does.
    takes_where _ _ _ c.args.steps.now c.perform.new.steps (λ ok. refl) (c.in_ok-reply.ensures.exact h s next reply stands does)
