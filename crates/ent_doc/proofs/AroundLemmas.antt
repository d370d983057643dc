-- What an element changes of its context.
use Rattle.std.proofs.Common.{◌≡◌, ◌∙◌, ℕ, false, List, [], ◌∷◌, ◌++◌, refl, ap, Option, Some, None, if◌then◌else◌}
use Rattle.std.proofs.lemmas.Bool.{or_parts}
use Rattle.std.specs.List.{list_all, list_any}
use Rattle.xt_spec.specs.Namespace.{NamedValue, Binding, is_declaration, is_allowed, declared_prefix, bound_first, bindings_of, scope_of}

not_declared : (name : List ℕ) → is_declaration name ≡ false → declared_prefix name ≡ None
not_declared name none = rw none refl

none_bound : (values : List NamedValue) → list_any (λ (value : NamedValue). is_declaration value.name) values ≡ false → bindings_of values ≡ []
none_bound [] none = refl
none_bound (a ∷ values) none =
    let both = or_parts (is_declaration a.name) (list_any (λ (value : NamedValue). is_declaration value.name) values) none in
    ap (λ (p : Option (List ℕ)). bound_first p a.value (bindings_of values)) (not_declared a.name both.0) ∙ none_bound values both.1

-- where nothing is declared, the scope is the same
pub same_scope : (outer : List Binding) (values : List NamedValue) → list_any (λ (value : NamedValue). is_declaration value.name) values ≡ false → scope_of outer values ≡ Some outer
same_scope outer values none = ap (λ (b : List Binding). if list_all is_allowed b then Some (b ++ outer) else None) (none_bound values none)
