use Rattle.std.proofs.Common.{◌≡◌, ◌∙◌, sym, ap, ◌∷◌, ◌++◌, List}
use Rattle.xt_spec.specs.Namespace.{Binding, namespace_at}
use Rattle.xt_value.proofs.ScopeLemmas.{inner_found, inner_lacks}
use Rattle.xt_value.proofs.scope.Scope.namespace_at.Goals as goal

pub returns-in-Some-own_namespace_at : goal.returns-in-Some-own_namespace_at
returns-in-Some-own_namespace_at c =
    let d = c.deref.result.now in
    let scope : c.loop-scope.scope.now ≡ d.first ∷ d.others ++ d.outer = cc in
    let found = inner_found (d.first ∷ d.others) d.outer c.args.prefix.now c.in-Some-own_namespace_at.namespace.now (sym c.in-Some-own_namespace_at.ensures.value) in
    record { value = sym (sym c.loop-scope.invariant ∙ ap (λ (l : List Binding). namespace_at l c.args.prefix.now) scope ∙ found) }

pub loop-scope-preserved : goal.loop-scope-preserved
loop-scope-preserved c =
    let d = c.deref.result.now in
    let scope : c.loop-scope.scope.now ≡ d.first ∷ d.others ++ d.outer = cc in
    let outer : c.deref-in-None.result.now.outer ≡ d.outer = cc in
    let lacks = inner_lacks (d.first ∷ d.others) d.outer c.args.prefix.now (sym c.in-None.ensures.value) in
    ap (λ (l : List Binding). namespace_at l c.args.prefix.now) outer ∙ sym (sym c.loop-scope.invariant ∙ ap (λ (l : List Binding). namespace_at l c.args.prefix.now) scope ∙ lacks)
