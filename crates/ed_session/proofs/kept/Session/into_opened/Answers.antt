use Rattle.std.proofs.Common.{◌∙◌, ap, sym, refl}
use Rattle.ed_session.specs.Kept.{Kept, IsMadeOf}
use Rattle.ed_session.proofs.KeptLemmas.{same_opens, same_made}
use Rattle.ed_session.proofs.kept.Session.into_opened.Goals as goal

pub nodes_again-requires-clause-opens : goal.nodes_again-requires-clause-opens
nodes_again-requires-clause-opens c =
    same_opens c.self.inside.root c.self.inside.root c.as_slice.result.now c.self.inside.bytes.items c.items.result c.self.inside.items refl c.as_slice.ensures.value c.items.ensures.value c.self.invariant.opens

pub returns-in-Some : goal.returns-in-Some
returns-in-Some c =
    let made = same_made c.args.self.root c.self.inside.root c.args.self.bytes c.self.inside.bytes.items c.self.inside.items c.self.inside.items c.in-Some.nodes
    (ap (λ (k : Kept). k.root) (sym c.self.view_is)) (ap (λ (k : Kept). k.bytes) (sym c.self.view_is)) refl (rw c.in-Some.is at c.self.invariant.nodes_are) in
    record { value = made.opens; paths = made.paths; via = made.via }

pub returns : goal.returns
returns c =
    let nodes = c.in_ok-nodes-in-None.nodes in
    let again : IsMadeOf c.self.inside.root c.as_slice.result.now c.items.result nodes =
    record { opens = c.in_ok-nodes-in-None.ensures.value; paths = c.in_ok-nodes-in-None.ensures.paths; via = c.in_ok-nodes-in-None.ensures.via } in
    let made = same_made c.args.self.root c.self.inside.root c.args.self.bytes c.as_slice.result.now c.self.inside.items c.items.result nodes
    (ap (λ (k : Kept). k.root) (sym c.self.view_is)) (ap (λ (k : Kept). k.bytes) (sym c.self.view_is) ∙ sym c.as_slice.ensures.value) (sym c.items.ensures.value) again in
    record { value = made.opens; paths = made.paths; via = made.via }
