use Rattle.book_cli.proofs.ToldLemmas.{not_told}
use Rattle.book_cli.proofs.telling.tell_script_fault.Goals as goal

pub returns-in-Err-clause-output : goal.returns-in-Err-clause-output
returns-in-Err-clause-output g c = λ h text is. not_told g.D.Desk.standing g.D.Desk.time g.D.Desk.was 4 text c.args.desk.now (λ crash since. g.met.D.Desk.only_now c.args.desk.now crash h since)
