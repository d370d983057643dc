use Rattle.std.proofs.Common.{List, ℕ, sym, subst}
use Rattle.bk_spec.specs.Fault.{too_large}
use Rattle.bk_spec.specs.FirstFault.{IsRootFault}
use Rattle.ed_session.proofs.StartLemmas.{too_long, no_root}
use Rattle.ed_session.proofs.opening.opened_by.Goals as goal

pub returns-in_ok-share-in-Longer-clause-fault : goal.returns-in_ok-share-in-Longer-clause-fault
returns-in_ok-share-in-Longer-clause-fault g c found read =
    subst (λ (name : List ℕ). IsRootFault c.args.root.now found (too_large name)) (sym c.in_ok-share-in-Longer.ensures.value) (too_long c.args.root.now found c.args.got c.in-Longer.is read)

pub returns-in_ok-share-in-Bytes-clause-fault : goal.returns-in_ok-share-in-Bytes-clause-fault
returns-in_ok-share-in-Bytes-clause-fault g c =
    no_root c.args.root.now c.in_ok-share-in-Bytes.field-0 c.in-Bytes.bytes c.into_vec.result.items c.args.got c.opened.result c.in_ok-share-in-Bytes.ensures.value c.into_vec.ensures.value c.in-Bytes.is c.opened.ensures.fault
