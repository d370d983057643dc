use Rattle.std.proofs.Common.{◌∙◌, sym, ap, arith}
use Rattle.std.proofs.lemmas.List.{nil_from_length}
use Rattle.std.proofs.lemmas.Result.{err_from_is_err_and}
use Rattle.std.specs.Vec.Iter.{into_iter_items}
use Rattle.xt_spec.specs.Namespace.{is_declaration}
use Rattle.ent_doc.specs.Opening.{open_fault}
use Rattle.ent_doc.proofs.AttributeLemmas.{attrs_begin, attrs_declared, attrs_more, attrs_fail, attrs_end}
use Rattle.ent_doc.proofs.attribute.attrs_of.Goals as goal

pub loop-value-init : goal.loop-value-init
loop-value-init c = attrs_begin c.args.source.now.file.now c.args.scope.now c.args.values.items (into_iter_items c.into_iter-value-iterator.result) c.in_ok-attrs.attrs.items c.into_iter-value-iterator.ensures.into_iter_gives.0 c.in_ok-attrs.ensures.items

pub returns-in_err-attr_of-clause-fault : goal.returns-in_err-attr_of-clause-fault
returns-in_err-attr_of-clause-fault c =
    let p = err_from_is_err_and c.from_residual-in_err-attr_of.result c.from_residual-in_err-attr_of.ensures.1 in
    rw (p.1, p.2)
    (attrs_fail c.args.source.now.file.now c.args.scope.now c.args.values.items (into_iter_items c.next.new.self) (into_iter_items c.loop-value.value-iterator) c.in-Some.value c.loop-value.attrs.items (open_fault c.in_err-attr_of.field-0.0)
    c.in-Some.ensures.steps.0 (ap is_declaration (sym c.name.ensures.value) ∙ sym c.is_declaration.ensures.value ∙ c.if-not-is_declaration.true) c.in_err-attr_of.ensures.fault c.loop-value.invariant)

pub loop-value-preserved-in_ok-put : goal.loop-value-preserved-in_ok-put
loop-value-preserved-in_ok-put c =
    attrs_more c.args.source.now.file.now c.args.scope.now c.args.values.items (into_iter_items c.next.new.self) (into_iter_items c.loop-value.value-iterator) c.in-Some.value c.loop-value.attrs.items c.put.new.attrs.items c.in_ok-attr_of.field-0
    c.in-Some.ensures.steps.0 (ap is_declaration (sym c.name.ensures.value) ∙ sym c.is_declaration.ensures.value ∙ c.if-not-is_declaration.true) c.in_ok-attr_of.ensures.value c.in_ok-put.ensures.value c.loop-value.invariant

pub loop-value-preserved : goal.loop-value-preserved
loop-value-preserved c =
    attrs_declared c.args.source.now.file.now c.args.scope.now c.args.values.items (into_iter_items c.next.new.self) (into_iter_items c.loop-value.value-iterator) c.in-Some.value c.loop-value.attrs.items
    c.in-Some.ensures.steps.0 (ap is_declaration (sym c.name.ensures.value) ∙ sym c.is_declaration.ensures.value ∙ c.if-not-is_declaration.false) c.loop-value.invariant

pub returns-clause-value : goal.returns-clause-value
returns-clause-value c =
    attrs_end c.args.source.now.file.now c.args.scope.now c.args.values.items (into_iter_items c.loop-value.value-iterator) c.loop-value.attrs.items (nil_from_length (into_iter_items c.loop-value.value-iterator) (omega (arith, c.loop-value.value-iterator.rest.ok.0, c.in-None.ensures.steps.0))) c.loop-value.invariant
