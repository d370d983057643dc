use Rattle.std.proofs.Common.{refl, inl, inr}
use Rattle.book_cli.proofs.ToldLemmas.{told_in_part}
use Rattle.book_cli.proofs.telling.tell.Goals as goal

pub returns-in-Err-Failed-clause-output : goal.returns-in-Err-Failed-clause-output
returns-in-Err-Failed-clause-output g c = λ h.
    told_in_part g.D.Desk.standing g.D.Desk.time g.D.Desk.was c.args.status c.args.text.now c.args.desk.now c.tell.new.self 6 (λ crash since. g.met.D.Desk.only_now c.args.desk.now crash h since) (inl refl) (c.tell.ensures.same h) (c.tell.ensures.crash h)

pub returns-in-Err-NoMemory-clause-output : goal.returns-in-Err-NoMemory-clause-output
returns-in-Err-NoMemory-clause-output g c = λ h.
    told_in_part g.D.Desk.standing g.D.Desk.time g.D.Desk.was c.args.status c.args.text.now c.args.desk.now c.tell.new.self 7 (λ crash since. g.met.D.Desk.only_now c.args.desk.now crash h since) (inr refl) (c.tell.ensures.same h) (c.tell.ensures.crash h)
