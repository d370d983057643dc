-- What a splice leaves.
use Rattle.std.proofs.Common.{◌≡◌, ◌∙◌, ℕ, List, [], ◌∷◌, ◌++◌, length, take, drop, arith, refl, sym, ap, append_assoc, None}
use Rattle.std.specs.Iterator.{Yields}
use Rattle.std.specs.List.{splice}
use Rattle.std.specs.declared.vec.IntoIter.{IntoIter}
use Rattle.std.specs.Vec.Iter.{into_iter_steps, into_iter_items}

none_of_length : (l : List ℕ) → length l ≡ 0 → l ≡ []
none_of_length [] is = refl
none_of_length (x ∷ l) is = absurd (omega (arith, is))

-- what an owned iterator gives to its end is what it holds
pub yields_all : {Z : Type 0} (s t u : IntoIter ℕ Z) (xs : List ℕ) → Yields (into_iter_steps {X = ℕ} {Z = Z}) s xs t → into_iter_steps {X = ℕ} {Z = Z} t None u → xs ≡ into_iter_items s
yields_all s t u [] yields stops = sym (none_of_length (into_iter_items s) (ap (λ i. length (into_iter_items i)) yields ∙ sym t.rest.ok.0 ∙ stops.0))
yields_all s t u (x ∷ xs) yields stops = ap (λ l. x ∷ l) (yields_all yields.0 t u xs yields.2 stops) ∙ sym yields.1.0

pub spliced : (text new xs : List ℕ) (from to : ℕ) → xs ≡ new → splice text from to xs ≡ take from text ++ new ++ drop to text
spliced text new xs from to same = ap (splice text from to) same ∙ sym (append_assoc (take from text) new (drop to text))
