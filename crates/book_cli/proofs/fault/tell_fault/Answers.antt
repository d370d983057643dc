use Rattle.book_cli.proofs.ToldLemmas.{not_told}
use Rattle.book_cli.proofs.fault.tell_fault.Goals as goal

pub returns-in-Err-clause-output : goal.returns-in-Err-clause-output
returns-in-Err-clause-output g c = λ h. not_told g.D.Desk.standing g.D.Desk.time g.D.Desk.was 3 _ c.args.desk.now (λ crash since. g.met.D.Desk.only_now c.args.desk.now crash h since)
