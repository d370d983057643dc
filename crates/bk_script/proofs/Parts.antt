-- A step that is taken as often as it can be.
use Rattle.std.proofs.Common.{zero, suc, ◌≡◌, ℕ, ◌<◌, ◌≤◌, List, [], ◌∷◌, ◌++◌, length, Option, Some, None, refl, ap, sym, subst, ◌∙◌, arith, append_assoc}
use Rattle.xt_lex.specs.Scan.{maybe}
use Rattle.bk_script.specs.Word.{AreSpelled}
use Rattle.bk_script.specs.Reading.{consed, parts_in, parts_of}

module _ {A : Type 0} (f : List ℕ → Option (A × List ℕ)) where
  abbrev pub Shrinks : Type 0
  Shrinks = (s : List ℕ) (x : A × List ℕ) → f s ≡ Some x → length x.1 < length s

  stuck : (s : List ℕ) (g : A × List ℕ → List A × List ℕ) → Shrinks → length s ≤ 0 → (o : Option (A × List ℕ)) → f s ≡ o → maybe ([], s) g o ≡ ([], s)
  stuck s g shrinks none None e = refl
  stuck s g shrinks none (Some x) e = absurd (omega (arith, shrinks s x e))

  same_step : (s : List ℕ) (n m : ℕ) → Shrinks → length s ≤ suc n → length s ≤ suc m → ((r : List ℕ) → length r ≤ n → length r ≤ m → parts_in n f r ≡ parts_in m f r) → (o : Option (A × List ℕ)) → f s ≡ o → maybe ([], s) (λ x. consed x.0 (parts_in n f x.1)) o ≡ maybe ([], s) (λ x. consed x.0 (parts_in m f x.1)) o
  same_step s n m shrinks a b same None e = refl
  same_step s n m shrinks a b same (Some x) e = let less = shrinks s x e in ap (consed x.0) (same x.1 (omega arith) (omega arith))

  -- more turns than bytes change nothing
  parts_enough : Shrinks → (n m : ℕ) (s : List ℕ) → length s ≤ n → length s ≤ m → parts_in n f s ≡ parts_in m f s
  parts_enough shrinks zero zero s a b = refl
  parts_enough shrinks zero (suc m) s a b = sym (stuck s (λ x. consed x.0 (parts_in m f x.1)) shrinks a (f s) refl)
  parts_enough shrinks (suc n) zero s a b = stuck s (λ x. consed x.0 (parts_in n f x.1)) shrinks b (f s) refl
  parts_enough shrinks (suc n) (suc m) s a b = same_step s n m shrinks a b (λ r. parts_enough shrinks n m r) (f s) refl

  step_in : Shrinks → (n : ℕ) (s : List ℕ) (x : A × List ℕ) → f s ≡ Some x → length s ≤ n → parts_in n f s ≡ consed x.0 (parts_in (length x.1) f x.1)
  step_in shrinks zero s x e a = absurd (omega (arith, shrinks s x e))
  step_in shrinks (suc n) s x e a = rw e (let less = shrinks s x e in ap (consed x.0) (parts_enough shrinks n (length x.1) x.1 (omega arith) (omega arith)))

  pub parts_step : Shrinks → (s : List ℕ) (x : A × List ℕ) → f s ≡ Some x → parts_of f s ≡ consed x.0 (parts_of f x.1)
  unfolding parts_of
  parts_step shrinks s x e = step_in shrinks (length s) s x e (omega arith)

  stop_in : (n : ℕ) (s : List ℕ) → f s ≡ None → parts_in n f s ≡ ([], s)
  stop_in zero s e = refl
  stop_in (suc n) s e = rw e refl

  pub parts_stop : (s : List ℕ) → f s ≡ None → parts_of f s ≡ ([], s)
  unfolding parts_of
  parts_stop s e = stop_in (length s) s e

  none_left : (s : List ℕ) → Shrinks → length s ≤ 0 → (o : Option (A × List ℕ)) → f s ≡ o → f s ≡ None
  none_left s shrinks le None e = e
  none_left s shrinks le (Some x) e = absurd (omega (arith, shrinks s x e))

  left_at : (s : List ℕ) (g : List ℕ → List A × List ℕ) → ((x : A × List ℕ) → f s ≡ Some x → f (g x.1).1 ≡ None) → (o : Option (A × List ℕ)) → f s ≡ o → f (maybe ([], s) (λ x. consed x.0 (g x.1)) o).1 ≡ None
  left_at s g ih None e = e
  left_at s g ih (Some x) e = ih x e

  left_in : Shrinks → (n : ℕ) (s : List ℕ) → length s ≤ n → f (parts_in n f s).1 ≡ None
  left_in shrinks zero s le = none_left s shrinks le (f s) refl
  left_in shrinks (suc n) s le = left_at s (parts_in n f) (λ x e. let less = shrinks s x e in left_in shrinks n x.1 (omega arith)) (f s) refl

  -- no further step can be taken
  pub parts_left : Shrinks → (s : List ℕ) → f (parts_of f s).1 ≡ None
  unfolding parts_of
  parts_left shrinks s = left_in shrinks (length s) s (omega arith)

  module _ (IsSpelled : List ℕ → A → Type 0) where
    -- a step takes the text of a part
    abbrev pub Takes : Type 0
    Takes = (s : List ℕ) (x : A × List ℕ) → f s ≡ Some x → (t : List ℕ) × IsSpelled t x.0 × (s ≡ t ++ x.1)

    abbrev pub Spells : List ℕ → List A × List ℕ → Type 0
    Spells s p = (front : List ℕ) × AreSpelled IsSpelled front p.0 × (s ≡ front ++ p.1)

    takes_at : (s : List ℕ) (g : List ℕ → List A × List ℕ) → Takes → ((r : List ℕ) → Spells r (g r)) → (o : Option (A × List ℕ)) → f s ≡ o → Spells s (maybe ([], s) (λ x. consed x.0 (g x.1)) o)
    takes_at s g takes ih None e = ([], refl, refl)
    takes_at s g takes ih (Some x) e =
        let first = takes s x e in
        let rest = ih x.1 in
        (first.0 ++ rest.0, (first.0, rest.0, first.1, rest.1, refl), first.2 ∙ ap (λ t. first.0 ++ t) rest.2 ∙ sym (append_assoc first.0 rest.0 (g x.1).1))

    takes_in : Takes → (n : ℕ) (s : List ℕ) → Spells s (parts_in n f s)
    takes_in takes zero s = ([], refl, refl)
    takes_in takes (suc n) s = takes_at s (parts_in n f) takes (λ r. takes_in takes n r) (f s) refl

    pub parts_take : Takes → (s : List ℕ) → Spells s (parts_of f s)
    unfolding parts_of
    parts_take takes s = takes_in takes (length s) s

    module _ (MayFollow : List ℕ → Type 0) where
      -- the text of a part is taken, before what may follow it
      abbrev pub Again : Type 0
      Again = (t r : List ℕ) (a : A) → IsSpelled t a → MayFollow r → f (t ++ r) ≡ Some (a, r)

      abbrev pub Next : Type 0
      Next = (t r : List ℕ) (a : A) → IsSpelled t a → MayFollow r → MayFollow (t ++ r)

      pub parts_next : Next → (parts : List A) (front r : List ℕ) → AreSpelled IsSpelled front parts → MayFollow r → MayFollow (front ++ r)
      parts_next next [] front r e follow = subst (λ (t : List ℕ). MayFollow (t ++ r)) (sym e) follow
      parts_next next (a ∷ others) front r (t, rest, is, more, e) follow =
          subst MayFollow (sym (ap (λ (s : List ℕ). s ++ r) e ∙ append_assoc t rest r)) (next t (rest ++ r) a is (parts_next next others rest r more follow))

      pub parts_again : Shrinks → Again → Next → (parts : List A) (front r : List ℕ) → AreSpelled IsSpelled front parts → MayFollow r → f r ≡ None → parts_of f (front ++ r) ≡ (parts, r)
      parts_again shrinks again next [] front r e follow stop = ap (λ (s : List ℕ). parts_of f (s ++ r)) e ∙ parts_stop r stop
      parts_again shrinks again next (a ∷ others) front r (t, rest, is, more, e) follow stop =
          ap (parts_of f) (ap (λ (s : List ℕ). s ++ r) e ∙ append_assoc t rest r)
          ∙ parts_step shrinks (t ++ (rest ++ r)) (a, rest ++ r) (again t (rest ++ r) a is (parts_next next others rest r more follow))
          ∙ ap (consed a) (parts_again shrinks again next others rest r more follow stop)
