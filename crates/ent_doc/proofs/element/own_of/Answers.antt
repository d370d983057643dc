use Rattle.std.proofs.Common.{◌∙◌, ap, List, codes}
use Rattle.std.proofs.lemmas.Result.{err_from_is_err_and}
use Rattle.bk_info.specs.declared.attr.Attr.{Attr}
use Rattle.ent_doc.specs.Opening.{open_fault}
use Rattle.ent_doc.specs.Steps.{attr_value}
use Rattle.ent_doc.proofs.OwnLemmas.{declared_in, inner_is, fault_of, base_of, base_fails, own_gives}
use Rattle.ent_doc.proofs.element.own_of.Goals as goal

pub returns-in_err-base-clause-fault : goal.returns-in_err-base-clause-fault
returns-in_err-base-clause-fault c =
    let p = err_from_is_err_and c.from_residual-in_err-base.result c.from_residual-in_err-base.ensures.1 in
    rw (p.1, p.2)
    (base_fails c.args.source.now.file.now c.args.context.now c.args.qname.now c.args.values.items c.inner_or-scope.result.now _ c.in_ok-name.name c.in_ok-attrs.attrs.items (open_fault c.in_err-base.field-0.0)
    (declared_in c.args.context.now.scope c.scope.result.now c.args.values.items c.as_slice.result.now c.in_ok-declared.declared c.scope.ensures.value c.as_slice.ensures.value c.in_ok-declared.ensures.value)
    (inner_is c.args.context.now.scope c.scope-2.result.now c.inner_or-scope.result.now c.in_ok-declared.declared c.scope-2.ensures.value c.inner_or-scope.ensures.value)
    c.in_ok-name.ensures.value c.in_ok-attrs.ensures.value c.in_ok-attrs.ensures.kept
    (fault_of c.args.source.now.file.now c.args.context.now.base c.base.result.now c.in_ok-attrs.attrs.items c.as_slice-2.result.now (open_fault c.in_err-base.field-0.0) c.base.ensures.value c.as_slice-2.ensures.value c.in_err-base.ensures.fault))

pub returns-clause-value : goal.returns-clause-value
returns-clause-value c =
    own_gives c.args.source.now.file.now c.args.context.now c.args.qname.now c.args.values.items c.inner_or-scope.result.now c.in_ok-declared.declared c.in_ok-name.name c.in_ok-attrs.attrs.items c.in_ok-base.base c.in_ok-lang.lang _
    (declared_in c.args.context.now.scope c.scope.result.now c.args.values.items c.as_slice.result.now c.in_ok-declared.declared c.scope.ensures.value c.as_slice.ensures.value c.in_ok-declared.ensures.value)
    (inner_is c.args.context.now.scope c.scope-2.result.now c.inner_or-scope.result.now c.in_ok-declared.declared c.scope-2.ensures.value c.inner_or-scope.ensures.value)
    c.in_ok-name.ensures.value c.in_ok-attrs.ensures.value c.in_ok-attrs.ensures.kept
    (base_of c.args.source.now.file.now c.args.context.now.base c.base.result.now c.in_ok-attrs.attrs.items c.as_slice-2.result.now c.in_ok-base.base c.base.ensures.value c.as_slice-2.ensures.value c.in_ok-base.ensures.value)
    (c.in_ok-lang.ensures.value ∙ ap (λ (l : List Attr). attr_value l (codes "xml:lang")) c.as_slice-3.ensures.value)
    c.name.view_is c.from_vec.ensures.value c.in_ok-child.ensures.value
