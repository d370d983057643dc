use Rattle.std.proofs.Common.{ap, sym}
use Rattle.ed_session.specs.Kept.{Kept}
use Rattle.ed_session.proofs.KeptLemmas.{same_opens}
use Rattle.ed_session.proofs.kept.Session.items.Goals as goal

pub returns-clause-opens : goal.returns-clause-opens
returns-clause-opens c =
    same_opens c.args.self.now.root c.self.inside.root c.args.self.now.bytes c.self.inside.bytes.items c.items.result c.self.inside.items
    (ap (λ (k : Kept). k.root) (sym c.self.view_is)) (ap (λ (k : Kept). k.bytes) (sym c.self.view_is)) c.items.ensures.value c.self.invariant.opens
