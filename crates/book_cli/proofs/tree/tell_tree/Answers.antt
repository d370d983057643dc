use Rattle.bk_desk.specs.CrashPoints.{AtEachCrash}
use Rattle.std.specs.Prelude.{if◌then◌else◌}
use Rattle.book_cli.proofs.ToldLemmas.{not_told}
use Rattle.book_cli.proofs.TreeLemmas.{tree_told}
use Rattle.book_cli.proofs.tree.tell_tree.Goals as goal

pub returns-in-Ok-clause-output : goal.returns-in-Ok-clause-output
returns-in-Ok-clause-output g c = λ h book tree found is.
    tree_told c.args.session.root book c.status_of.result (if c.args.refused then 1 else 0) c.in-Ok.text.items c.deref.result.now tree (g.D.Desk.standing c.args.desk.now) (g.D.Desk.standing c.tell.new.desk)
    (AtEachCrash g.D.Desk.time g.D.Desk.was c.args.desk.now c.tell.new.desk) c.tell.result c.status_of.ensures.value c.deref.ensures.value (c.in-Ok.ensures.value book found) is (c.tell.ensures.output h)

pub returns-in-Err-clause-output : goal.returns-in-Err-clause-output
returns-in-Err-clause-output g c = λ h book tree found is.
    not_told g.D.Desk.standing g.D.Desk.time g.D.Desk.was (if c.args.refused then 1 else 0) tree c.args.desk.now (λ crash since. g.met.D.Desk.only_now c.args.desk.now crash h since)
