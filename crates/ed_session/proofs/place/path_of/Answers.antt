use Rattle.std.proofs.Common.{◌≤◌, ◌∙◌, sym, refl, arith, length}
use Rattle.xt_spec.specs.Limit.{most_file_bytes}
use Rattle.ed_session.proofs.PathLemmas.{goes_along, goes_nowhere, item_count-items, narrow_next, place_is, path_whole}
use Rattle.ed_session.proofs.place.path_of.Goals as goal

pub find_child-requires : goal.find_child-requires
find_child-requires c =
    let few : length c.loop-number.level ≤ most_file_bytes = rw (← item_count-items c.args.bytes.now c.loop-number.level) c.loop-number.invariant.few.0 in
    record { few = few }

pub returns-in-None : goal.returns-in-None
returns-in-None c = record {
  value = place_is _ c.args.place.now (sym c.is_empty.ensures ∙ c.if-is_empty.false) ∙ c.loop-number.invariant.along
      ∙ goes_nowhere c.args.bytes.now c.loop-number.level c.args.place.now c.loop-number.path.items c.loop-number.number-index _ (omega arith) refl c.in-None.ensures.value;
}

pub loop-number-preserved : goal.loop-number-preserved
loop-number-preserved c = record {
  along = c.loop-number.invariant.along
      ∙ rw c.in_ok-push-in-Some.ensures.items
      (goes_along c.args.bytes.now c.loop-number.level c.in-Some.child.items c.args.place.now c.loop-number.path.items c.loop-number.number-index _ c.in-Some.child.index (omega arith) refl c.in-Some.ensures.value);
  few = narrow_next most_file_bytes c.args.bytes.now c.loop-number.level c.in-Some.child.items _ c.in-Some.child.index c.loop-number.invariant.few c.in-Some.ensures.value;
}

pub returns : goal.returns
returns c = record {
  value = place_is _ c.args.place.now (sym c.is_empty.ensures ∙ c.if-is_empty.false) ∙ c.loop-number.invariant.along
      ∙ path_whole _ c.args.place.now c.loop-number.path.items c.loop-number.number-index (omega arith);
}
