use Rattle.std.proofs.Common.{◌∙◌, sym, ap, subst, is_some, option_map, IfSome}
use Rattle.xt_tree.specs.Items.{item_in}
use Rattle.xt_tree.specs.Meaning.{item_of}
use Rattle.xt_tree.specs.Spans.{IsClosed, IsItemAt}
use Rattle.xt_tree.proofs.Walks.{span_of_item}
use Rattle.xt_tree.proofs.path.span_at.Goals as goal

pub returns-in-Some : goal.returns-in-Some
returns-in-Some c =
    let shown = ap (option_map item_in) c.in-Some.is in
    record {
      none = λ bytes. sym (ap is_some (ap (option_map (item_of bytes)) shown)) ∙ ap is_some (c.item_at.ensures.value bytes);
      place = λ bytes place closed.
          let found = sym (c.item_at.ensures.value bytes) ∙ ap (option_map (item_of bytes)) shown in
          let at = subst (λ o. IfSome o (IsItemAt bytes c.args.items.now c.args.path.now)) shown (c.item_at.ensures.place bytes place) in
          span_of_item bytes c.args.items.now c.args.path.now (item_in c.in-Some.item) c.span.result at found
          (λ from to marks. c.span.ensures.place bytes from to marks (subst (λ o. IfSome o IsClosed) found closed));
    }

pub returns-in-None-clause-none : goal.returns-in-None-clause-none
returns-in-None-clause-none c = λ bytes. sym (ap is_some (ap (option_map (item_of bytes)) (ap (option_map item_in) c.in-None.is))) ∙ ap is_some (c.item_at.ensures.value bytes)
