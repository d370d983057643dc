-- What a prefix is bound to, of two lists of bindings one behind the other.
use Rattle.std.proofs.Common.{◌≡◌, ℕ, Bool, true, false, List, [], ◌∷◌, ◌++◌, None, Some, refl, bytes_eq}
use Rattle.xt_spec.specs.Namespace.{Binding, namespace_at}

-- what the inner ones bind counts
pub inner_found : (inner outer : List Binding) (prefix namespace : List ℕ) → namespace_at inner prefix ≡ Some namespace → namespace_at (inner ++ outer) prefix ≡ Some namespace
inner_found [] outer prefix namespace is = absurd (cc)
inner_found (b ∷ inner) outer prefix namespace is = by (bytes_eq b.prefix prefix) refl (inner_found inner outer prefix namespace) is
  where
    by : (t : Bool) → t ≡ bytes_eq b.prefix prefix → (namespace_at inner prefix ≡ Some namespace → namespace_at (inner ++ outer) prefix ≡ Some namespace)
        → namespace_at (b ∷ inner) prefix ≡ Some namespace → namespace_at (b ∷ inner ++ outer) prefix ≡ Some namespace
    by true e ih here = let found : Some b.namespace ≡ Some namespace = rw (← e) at here in rw (← e) found
    by false e ih behind = let found : namespace_at inner prefix ≡ Some namespace = rw (← e) at behind in rw (← e) (ih found)

-- where they bind nothing, the outer ones count
pub inner_lacks : (inner outer : List Binding) (prefix : List ℕ) → namespace_at inner prefix ≡ None → namespace_at (inner ++ outer) prefix ≡ namespace_at outer prefix
inner_lacks [] outer prefix is = refl
inner_lacks (b ∷ inner) outer prefix is = by (bytes_eq b.prefix prefix) refl (inner_lacks inner outer prefix) is
  where
    by : (t : Bool) → t ≡ bytes_eq b.prefix prefix → (namespace_at inner prefix ≡ None → namespace_at (inner ++ outer) prefix ≡ namespace_at outer prefix)
        → namespace_at (b ∷ inner) prefix ≡ None → namespace_at (b ∷ inner ++ outer) prefix ≡ namespace_at outer prefix
    by true e ih here = let found : Some b.namespace ≡ None = rw (← e) at here in absurd (cc)
    by false e ih behind = let lacks : namespace_at inner prefix ≡ None = rw (← e) at behind in rw (← e) (ih lacks)
