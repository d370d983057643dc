use Rattle.std.proofs.Common.{◌∙◌, sym}
use Rattle.ed_session.proofs.BurstLemmas.{saved_is}
use Rattle.ed_session.proofs.kept.Session.is_saved.Goals as goal

pub returns-in-Some : goal.returns-in-Some
returns-in-Some c =
    let parts = saved_is c.self.inside.root c.self.inside.bytes.items c.self.inside.saved c.in-Some.saved c.args.self.now (sym c.self.view_is) c.in-Some.is in
    let bytes = parts.0 ∙ sym c.as_slice.ensures.value in
    let saved = parts.1 ∙ sym c.as_slice-in-Some.ensures.value in
    record { value = (λ same. bytes ∙ c.are_same.ensures.value.0 same ∙ sym saved, λ other same. c.are_same.ensures.value.1 other (sym bytes ∙ same ∙ saved)) }
