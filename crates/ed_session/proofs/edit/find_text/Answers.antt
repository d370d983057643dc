use Rattle.std.proofs.Common.{subst, List, ℕ}
use Rattle.xt_tree.specs.Meaning.{items_in}
use Rattle.ed_session.specs.Edits.{IsNoTextAt}
use Rattle.ed_session.proofs.LeadLemmas.{no_text_of}
use Rattle.ed_session.proofs.edit.find_text.Goals as goal

pub returns-in-Ok-clause-value : goal.returns-in-Ok-clause-value
returns-in-Ok-clause-value c = record {
  leads = rw c.in-Some.is at c.in_ok-path.ensures.value;
  there = rw (← c.as_slice.ensures.value) (c.in-Ok.ensures.value c.args.bytes.now);
}

pub returns-in-Err-clause-fault : goal.returns-in-Err-clause-fault
returns-in-Err-clause-fault c =
    let bytes = c.args.bytes.now in
    no_text_of (items_in bytes c.args.items.now) c.args.place.now c.in-Some.path.items c.in-Err.refusal (rw c.in-Some.is at c.in_ok-path.ensures.value)
    (subst (λ (l : List ℕ). IsNoTextAt (items_in bytes c.args.items.now) l c.in-Err.refusal) c.as_slice.ensures.value (c.in-Err.ensures.fault bytes))

pub returns-in-None-clause-fault : goal.returns-in-None-clause-fault
returns-in-None-clause-fault c = rw c.in-None.is at c.in_ok-path.ensures.value
