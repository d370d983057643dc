-- The session after a save.
use Rattle.std.proofs.Common.{◌≡◌, ◌≢◌, ◌∙◌, ℕ, List, sym, ap, refl, inl, inr, Option, Some, None, Vec, Global}
use Rattle.ed_session.specs.Kept.{Kept, kept, saved_of}
use Rattle.ed_session.specs.Burst.{IsSaved}

pub saved_nothing : (root bytes : List ℕ) (saved : Option (Vec ℕ Global)) (k : Kept) → k ≡ kept root bytes saved → k.bytes ≡ k.saved → IsSaved k (kept root bytes None) 0
saved_nothing root bytes saved k is same = record {
  counts = inl (same, refl);
  new_is = ap (λ (x : Kept). kept x.root x.bytes None) (sym is);
}

pub saved_root : (root bytes : List ℕ) (saved : Option (Vec ℕ Global)) (k : Kept) → k ≡ kept root bytes saved → k.bytes ≢ k.saved → IsSaved k (kept root bytes None) 1
saved_root root bytes saved k is other = record {
  counts = inr (other, refl);
  new_is = ap (λ (x : Kept). kept x.root x.bytes None) (sym is);
}

-- what is saved is the one list or the other
pub saved_is : (root bytes : List ℕ) (saved : Option (Vec ℕ Global)) (one : Vec ℕ Global) (k : Kept) → k ≡ kept root bytes saved → saved ≡ Some one → (k.bytes ≡ bytes) × (k.saved ≡ one.items)
saved_is root bytes saved one k is some = (ap (λ (x : Kept). x.bytes) is, ap (λ (x : Kept). x.saved) is ∙ ap (λ (s : Option (Vec ℕ Global)). saved_of s bytes) some)
