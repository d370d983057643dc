use Rattle.std.proofs.Common.{ℕ, List, Option, None, sym, refl, subst}
use Rattle.bk_desk.specs.CrashPoints.{AtEachCrash}
use Rattle.book_cli.specs.Output.{usage_line}
use Rattle.book_cli.specs.Ends.{output, IsRunOver}
use Rattle.book_cli.proofs.InputLemmas.{still_run, two_recovers_none}
use Rattle.book_cli.proofs.run.run_words.Goals as goal

pub returns-in-Ok-None-clause-output : goal.returns-in-Ok-None-clause-output
returns-in-Ok-None-clause-output g c = λ h left told.
    output (subst (λ (r : Option (List ℕ)). IsRunOver r left (g.D.Desk.standing c.args.desk.now) (g.D.Desk.standing c.tell.new.desk) (AtEachCrash g.D.Desk.time g.D.Desk.was c.args.desk.now c.tell.new.desk) c.tell.result) (sym (rw c.in-Ok-None.field-0-is at c.in-Ok-None.ensures.value))
    (still_run g.D.Desk.standing g.D.Desk.time g.D.Desk.was None left usage_line 2 c.tell.result c.args.desk.now c.tell.new.desk (refl, refl) refl two_recovers_none (c.tell.ensures.output h)))
