use Rattle.std.proofs.Common.{refl, inl, inr, map}
use Rattle.bk_desk.specs.CrashPoints.{AtEachCrash}
use Rattle.jr_burst.specs.SavedFiles.{book_files}
use Rattle.ed_spec.specs.Session.{opened}
use Rattle.bk_run.specs.Doing.{asked_of}
use Rattle.bk_run.proofs.Theorems.{start_stands, asks_all}
use Rattle.book_cli.proofs.SessionLemmas.{replies_of, session_failed, session_ended, root_there, tree_there}
use Rattle.book_cli.proofs.RunLemmas.{not_over}
use Rattle.book_cli.proofs.run.run_session.Goals as goal

pub returns-in-Ok-clause-output : goal.returns-in-Ok-clause-output
returns-in-Ok-clause-output g c = λ h start is.
    let k = c.args.session in
    let now = c.tell_replies.new.session in
    let commands = c.args.commands.now in
    let old = g.D.Desk.standing c.args.desk.now in
    let mid = g.D.Desk.standing c.tell_replies.new.desk in
    let book = book_files old.files in
    let s = opened k.root book in
    let asked = map asked_of commands in
    let stands = start_stands k.root start old k is in
    let r = replies_of k.root commands start old k is in
    let told = c.in-Ok.ensures.value h s asked stands (asks_all commands) in
    session_ended g.D.Desk.standing g.D.Desk.time g.D.Desk.was k.root commands now c.args.desk.now c.tell_replies.new.desk c.tell_tree.new.desk c.in-Ok.refused c.tell_tree.result r told
    (c.tell_replies.ensures.crash h s r.last asked r.steps r.tree stands (asks_all commands) r.does)
    (c.tell_tree.ensures.output h told.last.book r.tree (root_there k.root commands book now old mid c.in-Ok.refused told) (tree_there k.root commands book now old mid c.in-Ok.refused r told))

pub returns-in-Err-Fault-clause-output : goal.returns-in-Err-Fault-clause-output
returns-in-Err-Fault-clause-output g c = λ h start is.
    let k = c.args.session in
    let commands = c.args.commands.now in
    let old = g.D.Desk.standing c.args.desk.now in
    let s = opened k.root (book_files old.files) in
    let asked = map asked_of commands in
    let stands = start_stands k.root start old k is in
    let r = replies_of k.root commands start old k is in
    session_failed k.root commands old (g.D.Desk.standing c.tell_replies.new.desk) (AtEachCrash g.D.Desk.time g.D.Desk.was c.args.desk.now c.tell_replies.new.desk) 6 r (inl refl)
    (c.tell_replies.ensures.prefix h s r.last asked r.steps stands (asks_all commands) r.does)
    (c.tell_replies.ensures.crash h s r.last asked r.steps r.tree stands (asks_all commands) r.does)

pub returns-clause-output : goal.returns-clause-output
returns-clause-output g c = λ h start is.
    let k = c.args.session in
    let commands = c.args.commands.now in
    let old = g.D.Desk.standing c.args.desk.now in
    let s = opened k.root (book_files old.files) in
    let asked = map asked_of commands in
    let stands = start_stands k.root start old k is in
    let r = replies_of k.root commands start old k is in
    session_failed k.root commands old (g.D.Desk.standing c.tell_replies.new.desk) (AtEachCrash g.D.Desk.time g.D.Desk.was c.args.desk.now c.tell_replies.new.desk) 7 r (inr refl)
    (c.tell_replies.ensures.prefix h s r.last asked r.steps stands (asks_all commands) r.does)
    (c.tell_replies.ensures.crash h s r.last asked r.steps r.tree stands (asks_all commands) r.does)

pub returns-in-Ok-clause-exact : goal.returns-in-Ok-clause-exact
returns-in-Ok-clause-exact g c = λ h start asked replies last is asks does.
    let k = c.args.session in
    let takes = c.in-Ok.ensures.exact h (opened k.root (book_files (g.D.Desk.standing c.args.desk.now).files)) last asked replies (start_stands k.root start (g.D.Desk.standing c.args.desk.now) k is) asks does in
    record { most = takes.most; exact = λ ends. takes.exact refl }

pub returns-in-Err-Fault-clause-exact : goal.returns-in-Err-Fault-clause-exact
returns-in-Err-Fault-clause-exact g c = λ h start asked replies last is asks does.
    let k = c.args.session in
    let takes = c.tell_replies.ensures.exact h (opened k.root (book_files (g.D.Desk.standing c.args.desk.now).files)) last asked replies (start_stands k.root start (g.D.Desk.standing c.args.desk.now) k is) asks does in
    record { most = takes.most; exact = λ ends. absurd (not_over 6 (inl refl) ends) }

pub returns-clause-exact : goal.returns-clause-exact
returns-clause-exact g c = λ h start asked replies last is asks does.
    let k = c.args.session in
    let takes = c.tell_replies.ensures.exact h (opened k.root (book_files (g.D.Desk.standing c.args.desk.now).files)) last asked replies (start_stands k.root start (g.D.Desk.standing c.args.desk.now) k is) asks does in
    record { most = takes.most; exact = λ ends. absurd (not_over 7 (inr refl) ends) }
