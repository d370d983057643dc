use Rattle.std.proofs.Common.{◌∙◌, refl, sym, ap, length, ◌-◌, take, drop, option_map}
use Rattle.xt_tree.specs.Items.{item_in}
use Rattle.xt_tree.proofs.Walks.{leads_in, leads_out, leads_on, leads_nowhere, leads_to, walks_in, walks_on, walks_to}
use Rattle.xt_tree.proofs.path.item_at.Goals as goal

pub returns-in_default-nth-clause-value : goal.returns-in_default-nth-clause-value
returns-in_default-nth-clause-value c = λ bytes. sym (leads_out bytes c.args.items.now c.args.path.now c.in-len1-up.len_at_least (sym c.nth.ensures.value ∙ ap (option_map item_in) c.in_default-nth.is))

pub loop-index-init : goal.loop-index-init
loop-index-init c =
    let found = sym c.nth.ensures.value ∙ ap (option_map item_in) c.in-Some.is in
    record {
      value = λ bytes. leads_in bytes c.args.items.now c.args.path.now (item_in c.in-Some.item) c.in-len1-up.len_at_least found;
      place = λ bytes place. walks_in bytes c.args.items.now c.args.path.now (item_in c.in-Some.item) c.in-len1-up.len_at_least found place;
    }

pub returns-in-None-clause-value : goal.returns-in-None-clause-value
returns-in-None-clause-value c =
    let rest = take (length c.args.path.now - 1) (drop 1 c.args.path.now) in
    λ bytes. sym (leads_nowhere bytes c.args.items.now c.args.path.now rest c.loop-index.index-index _ (item_in c.loop-index.item) c.kids.result c.loop-index-test.true refl c.kids.ensures.value
    (sym c.nth-in-loop-index.ensures.value ∙ ap (option_map item_in) c.in-None.is) (c.loop-index.invariant.value bytes))

pub loop-index-preserved : goal.loop-index-preserved
loop-index-preserved c =
    let rest = take (length c.args.path.now - 1) (drop 1 c.args.path.now) in
    let found = sym c.nth-in-loop-index.ensures.value ∙ ap (option_map item_in) c.in-Some-nth.is in
    record {
      value = λ bytes. leads_on bytes c.args.items.now c.args.path.now rest c.loop-index.index-index _ (item_in c.loop-index.item) (item_in c.in-Some-nth.kid) c.kids.result c.loop-index-test.true refl c.kids.ensures.value found (c.loop-index.invariant.value bytes);
      place = λ bytes place. walks_on bytes c.args.items.now c.args.path.now rest c.loop-index.index-index _ (item_in c.loop-index.item) (item_in c.in-Some-nth.kid) c.kids.result c.loop-index-test.true refl c.kids.ensures.value found (c.loop-index.invariant.place bytes place);
    }

pub returns-clause-value : goal.returns-clause-value
returns-clause-value c =
    let rest = take (length c.args.path.now - 1) (drop 1 c.args.path.now) in
    λ bytes. sym (leads_to bytes c.args.items.now c.args.path.now rest c.loop-index.index-index (item_in c.loop-index.item) c.loop-index-test.false (c.loop-index.invariant.value bytes))

pub returns-clause-place : goal.returns-clause-place
returns-clause-place c =
    let rest = take (length c.args.path.now - 1) (drop 1 c.args.path.now) in
    λ bytes place. walks_to bytes c.args.items.now c.args.path.now rest c.loop-index.index-index (item_in c.loop-index.item) c.loop-index-test.false (c.loop-index.invariant.place bytes place)
