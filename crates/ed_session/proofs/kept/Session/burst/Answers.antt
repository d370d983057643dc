use Rattle.std.proofs.Common.{sym}
use Rattle.ed_session.proofs.BurstLemmas.{saved_nothing, saved_root}
use Rattle.ed_session.proofs.kept.Session.burst.Goals as goal

pub returns-then-is_saved-clause-value : goal.returns-then-is_saved-clause-value
returns-then-is_saved-clause-value g c =
    saved_nothing c.self.inside.root c.self.inside.bytes.items c.self.inside.saved c.args.self.now (sym c.self.view_is) (c.is_saved.ensures.value.0 c.if-is_saved.true)

pub returns-clause-value : goal.returns-clause-value
returns-clause-value g c =
    saved_root c.self.inside.root c.self.inside.bytes.items c.self.inside.saved c.args.self.now (sym c.self.view_is) (c.is_saved.ensures.value.1 c.if-is_saved.false)
