use Rattle.std.proofs.Common.{◌≡◌, ◌∷◌, [], ◌++◌, List, true, false, sym, ap, ◌∙◌}
use Rattle.std.proofs.lemmas.Result.{err_from_is_err_and}
use Rattle.jr_form.specs.declared.item.Item.{Item}
use Rattle.jr_form.specs.Journal.{last_name, comes_after}
use Rattle.jr_form.proofs.Loop.{goes_on, stops, ends_behind, is_done}
use Rattle.jr_form.proofs.reading.items_of.Goals as goal

pub returns-in_err-item : goal.returns-in_err-item
returns-in_err-item c =
    let p = err_from_is_err_and c.from_residual.result c.from_residual.ensures.1 in
    record { value = rw (p.1, p.2) (stops c.in_err-item.field-0.0 c.loop.items.items c.args.count c.loop.counter c.loop.rest.now _ c.loop-test.true c.in_err-item.ensures.value c.loop.invariant) }

pub returns-then-not-is_next : goal.returns-then-not-is_next
returns-then-not-is_next c =
    let item = c.in_ok-item.item in
    let next : comes_after (last_name c.loop.items.items) item.name ≡ false = sym (c.is_next.ensures.value ∙ ap (λ (l : List Item). comes_after (last_name l) item.name) c.deref.ensures.value) ∙ c.if-not-is_next.true in
    record { value = ends_behind c.loop.items.items c.args.count c.loop.counter c.loop.rest.now item c.in_ok-item.after.now _ c.loop-test.true c.in_ok-item.ensures.value next c.loop.invariant }

pub loop-preserved : goal.loop-preserved
loop-preserved c =
    let item = c.in_ok-item.item in
    let next : comes_after (last_name c.loop.items.items) item.name ≡ true = sym (c.is_next.ensures.value ∙ ap (λ (l : List Item). comes_after (last_name l) item.name) c.deref.ensures.value) ∙ c.if-not-is_next.false in
    let pushed : c.push.new.self.items ≡ c.loop.items.items ++ item ∷ [] = rw c.if-is_err.ensures.negation at c.push.ensures.items in
    rw pushed (goes_on c.loop.items.items c.args.count c.loop.counter c.loop.rest.now item c.in_ok-item.after.now _ c.loop-test.true c.in_ok-item.ensures.value next c.loop.invariant)

pub returns : goal.returns
returns c = record { value = is_done c.loop.items.items c.args.count c.loop.counter c.loop.rest.now _ c.loop-test.false c.loop.invariant }
