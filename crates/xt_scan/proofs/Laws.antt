-- The laws of forms: what is read is spelled so, what is spelled so is read again, how it begins, and that it is text.
use Rattle.std.proofs.Common.{◌≡◌, ◌≢◌, ℕ, zero, suc, ◌<◌, ◌≤◌, List, [], ◌∷◌, ◌++◌, length, take, ◌-◌, Bool, true, false, ◌⊎◌, refl, ap, sym, subst, ◌∙◌, arith, inl, inr, Option, Some, None, append_assoc, append-nil}
use Rattle.std.proofs.lemmas.Bool.{cases_Bool, and_from, both_ways}
use Rattle.std.proofs.lemmas.List.{length-append, take_at}
use Rattle.std.proofs.lemmas.Str.{IsUtf8-append, IsUtf8-nil}
use Rattle.std.specs.Str.{IsUtf8}
use Rattle.xt_scan.specs.Look.{Look, sees, apart, either, either_if, anything}
use Rattle.xt_scan.specs.Step.{maybe_read, or_read, more_read, many_in, many_read}
use Rattle.xt_scan.specs.Form.{Form, both, given, tested, such, front_of, spelled, either_of, MaybeSpells, maybe, ManySpell, many}
use Rattle.xt_scan.proofs.Looks.{sees_apart, sees_left, sees_right, unseen, seen_first, seen_second, unseen_first, unseen_second, sees_anything}
use Rattle.xt_scan.proofs.Steps.{bind_some, utf8_rest}

-- it is empty, or begins so
abbrev pub Leads : Bool → (Look → Look) → List ℕ → Type 0
Leads null front t = ((t ≡ []) × (null ≡ true)) ⊎ ((t ≢ []) × ((l : Look) (r : List ℕ) → sees l r ≡ true → sees (front l) (t ++ r) ≡ true))

-- of what was read in front of r, whatever bytes they are: nothing was, or s begins so
abbrev pub Begins : Bool → (Look → Look) → List ℕ → List ℕ → Type 0
Begins null front s r = ((s ≡ r) × (null ≡ true)) ⊎ ((l : Look) → sees l r ≡ true → sees (front l) s ≡ true)

pub record Lawful {A : Type 0} (f : Form A) : Type 0 where
  pub takes : (s : List ℕ) (v : A) (r : List ℕ) → IsUtf8 s → f.read s ≡ Some (v, r) → (t : List ℕ) × f.Spells v t × (s ≡ t ++ r)
  pub again : (v : A) (t r : List ℕ) → f.Spells v t → sees f.bars r ≡ false → f.read (t ++ r) ≡ Some (v, r)
  pub begins : (s : List ℕ) (v : A) (r : List ℕ) → f.read s ≡ Some (v, r) → Begins f.null f.front s r
  pub leads : (v : A) (t : List ℕ) → f.Spells v t → Leads f.null f.front t
  pub utf8 : (v : A) (t : List ℕ) → f.Spells v t → IsUtf8 t

-- ---- one behind the other

joined : (s m r1 r t1 t2 : List ℕ) → s ≡ t1 ++ m → m ≡ t2 ++ r1 → r1 ≡ r → s ≡ (t1 ++ t2) ++ r
joined s m r1 r t1 t2 a b c = rw (a, b, c) (simp append_assoc)

module _ {A B C : Type 0} (g : A → B → C) (a : Form A) (b : Form B) (la : Lawful a) (lb : Lawful b) where
  both_takes : (s : List ℕ) (v : C) (r : List ℕ) → IsUtf8 s → (both g a b).read s ≡ Some (v, r) → (t : List ℕ) × (both g a b).Spells v t × (s ≡ t ++ r)
  both_takes s v r u h =
      let x = bind_some (a.read s) _ _ h in
      let y = bind_some (b.read x.0.1) _ _ x.2 in
      let same : ◌≡◌ {A = C × List ℕ} (g x.0.0 y.0.0, y.0.1) (v, r) = cc (y.2) in
      let one = la.takes s x.0.0 x.0.1 u x.1 in
      let u1 = utf8_rest s one.0 x.0.1 u (la.utf8 x.0.0 one.0 one.1) one.2 in
      let two = lb.takes x.0.1 y.0.0 y.0.1 u1 y.1 in
      (one.0 ++ two.0, (x.0.0, y.0.0, one.0, two.0, one.1, two.1, ap (λ p. p.0) same, refl), joined s x.0.1 y.0.1 r one.0 two.0 one.2 two.2 (ap (λ p. p.1) same))

  both_read : (s m r : List ℕ) (x : A) (y : B) → a.read s ≡ Some (x, m) → b.read m ≡ Some (y, r) → (both g a b).read s ≡ Some (g x y, r)
  both_read s m r x y e f = rw e (rw f refl)

  both_unseen : (y : B) (t r : List ℕ) → apart (b.front anything) a.bars ≡ true → b.Spells y t → sees (both g a b).bars r ≡ false → sees a.bars (t ++ r) ≡ false
  both_unseen y t r h spells out =
      elim (lb.leads y t spells) [
        | inl e ↦ subst (λ t. sees a.bars (t ++ r) ≡ false) (sym e.0) (unseen_second b.null b.bars a.bars r e.1 out)
        | inr e ↦ sees_apart (b.front anything) a.bars (t ++ r) h (e.1 anything r (sees_anything r))
      ]

  both_again : apart (b.front anything) a.bars ≡ true → (v : C) (t r : List ℕ) → (both g a b).Spells v t → sees (both g a b).bars r ≡ false → (both g a b).read (t ++ r) ≡ Some (v, r)
  both_again h v t r (x, y, t1, t2, sa, sb, e, f) out =
      let one = la.again x t1 (t2 ++ r) sa (both_unseen y t2 r h sb out) in
      let two = lb.again y t2 r sb (unseen_first b.null b.bars a.bars r out) in
      let split : t ++ r ≡ t1 ++ (t2 ++ r) = rw f (append_assoc t1 t2 r) in
      ap (both g a b).read split ∙ both_read (t1 ++ (t2 ++ r)) (t2 ++ r) r x y one two ∙ ap (λ v. Some (v, r)) e

  abbrev both_inner : Look → Look
  both_inner l = either_if a.null (a.front (b.front l)) (b.front l)

  both_begins_by : (s m r : List ℕ) → Begins a.null a.front s m → Begins b.null b.front m r → Begins (both g a b).null (both g a b).front s r
  both_begins_by s m r (inl p) (inl q) = inl (p.0 ∙ q.0, and_from _ _ p.1 q.1)
  both_begins_by s m r (inl p) (inr q) =
      inr (λ l i. seen_first b.null (both_inner l) (a.front l) s (seen_second a.null (a.front (b.front l)) (b.front l) s p.1 (subst (λ s. sees (b.front l) s ≡ true) (sym p.0) (q l i))))
  both_begins_by s m r (inr p) (inl q) = inr (λ l i. seen_second b.null (both_inner l) (a.front l) s q.1 (p l (subst (λ m. sees l m ≡ true) (sym q.0) i)))
  both_begins_by s m r (inr p) (inr q) =
      inr (λ l i. seen_first b.null (both_inner l) (a.front l) s (seen_first a.null (a.front (b.front l)) (b.front l) s (p (b.front l) (q l i))))

  both_begins : (s : List ℕ) (v : C) (r : List ℕ) → (both g a b).read s ≡ Some (v, r) → Begins (both g a b).null (both g a b).front s r
  both_begins s v r h =
      let x = bind_some (a.read s) _ _ h in
      let y = bind_some (b.read x.0.1) _ _ x.2 in
      let same : ◌≡◌ {A = C × List ℕ} (g x.0.0 y.0.0, y.0.1) (v, r) = cc (y.2) in
      subst (Begins (both g a b).null (both g a b).front s) (ap (λ p. p.1) same) (both_begins_by s x.0.1 y.0.1 (la.begins s x.0.0 x.0.1 x.1) (lb.begins x.0.1 y.0.0 y.0.1 y.1))

  both_leads : (v : C) (t : List ℕ) → (both g a b).Spells v t → Leads (both g a b).null (both g a b).front t
  both_leads v t (x, y, t1, t2, sa, sb, e, f) =
      let inner : (l : Look) → Look = λ l. either_if a.null (a.front (b.front l)) (b.front l) in
      elim (la.leads x t1 sa) [
        | inl p ↦ elim (lb.leads y t2 sb) [
          | inl q ↦ inl (f ∙ ap (λ t. t ++ t2) p.0 ∙ q.0, and_from _ _ p.1 q.1)
          | inr q ↦
              let same : t ≡ t2 = f ∙ ap (λ t. t ++ t2) p.0 in
              inr (λ n. q.0 (sym same ∙ n), λ l r i. subst (λ t. sees ((both g a b).front l) (t ++ r) ≡ true) (sym same) (seen_first b.null (inner l) (a.front l) (t2 ++ r) (seen_second a.null (a.front (b.front l)) (b.front l) (t2 ++ r) p.1 (q.1 l r i))))
        ]
        | inr p ↦ elim (lb.leads y t2 sb) [
          | inl q ↦
              let same : t ≡ t1 = f ∙ ap (λ t. t1 ++ t) q.0 ∙ append-nil t1 in
              inr (λ n. p.0 (sym same ∙ n), λ l r i. subst (λ t. sees ((both g a b).front l) (t ++ r) ≡ true) (sym same) (seen_second b.null (inner l) (a.front l) (t1 ++ r) q.1 (p.1 l r i)))
          | inr q ↦
              inr (
                some_joined t1 t2 t f p.0,
                λ l r i.
                    let split : t ++ r ≡ t1 ++ (t2 ++ r) = rw f (append_assoc t1 t2 r) in
                    let first = p.1 (b.front l) (t2 ++ r) (q.1 l r i) in
                    subst (λ s. sees ((both g a b).front l) s ≡ true) (sym split) (seen_first b.null (inner l) (a.front l) (t1 ++ (t2 ++ r)) (seen_first a.null (a.front (b.front l)) (b.front l) (t1 ++ (t2 ++ r)) first)),
              )
        ]
      ]
    where
      some_joined : (t1 t2 t : List ℕ) → t ≡ t1 ++ t2 → t1 ≢ [] → t ≢ []
      some_joined [] t2 t e some = absurd (some refl)
      some_joined (b ∷ bs) t2 t e some = λ n. absurd (cc)

  pub lawful_both : apart (b.front anything) a.bars ≡ true → Lawful (both g a b)
  lawful_both h = record {
    takes = both_takes;
    again = both_again h;
    begins = both_begins;
    leads = both_leads;
    utf8 = λ v t s. subst IsUtf8 (sym s.7) (IsUtf8-append s.2 s.3 (la.utf8 s.0 s.2 s.4) (lb.utf8 s.1 s.3 s.5));
  }

-- ---- another value

pub lawful_given : {A B : Type 0} (g : A → B) (a : Form A) → Lawful a → Lawful (given g a)
lawful_given {A} {B} g a la = record {
  takes = λ s v r u h.
      let x = bind_some (a.read s) _ _ h in
      let same : ◌≡◌ {A = B × List ℕ} (g x.0.0, x.0.1) (v, r) = cc (x.2) in
      let one = la.takes s x.0.0 x.0.1 u x.1 in
      (one.0, (x.0.0, one.1, ap (λ p. p.0) same), one.2 ∙ ap (λ r. one.0 ++ r) (ap (λ p. p.1) same));
  again = λ v t r s out. let one = la.again s.0 t r s.1 out in rw one (ap (λ v. Some (v, r)) s.2);
  begins = λ s v r h.
      let x = bind_some (a.read s) _ _ h in
      let same : ◌≡◌ {A = B × List ℕ} (g x.0.0, x.0.1) (v, r) = cc (x.2) in
      subst (Begins a.null a.front s) (ap (λ p. p.1) same) (la.begins s x.0.0 x.0.1 x.1);
  leads = λ v t s. la.leads s.0 t s.1;
  utf8 = λ v t s. la.utf8 s.0 t s.1;
}

-- ---- a test of the value

pub tested_some : {A : Type 0} (test : A → Bool) (o : Option (A × List ℕ)) (x : A × List ℕ) → tested test o ≡ Some x → (o ≡ Some x) × (test x.0 ≡ true)
tested_some test None x h = absurd (cc)
tested_some {A} test (Some y) x h =
    elim (cases_Bool (test y.0)) [
      | inl e ↦
          let found : Some y ≡ Some x = rw e at h in
          let same : y ≡ x = cc in
          (found, subst (λ x. test x.0 ≡ true) same e)
      | inr e ↦ let none : ◌≡◌ {A = Option (A × List ℕ)} None (Some x) = rw e at h in absurd (cc)
    ]

pub lawful_such : {A : Type 0} (test : A → Bool) (a : Form A) → Lawful a → Lawful (such test a)
lawful_such test a la = record {
  takes = λ s v r u h.
      let x = tested_some test (a.read s) (v, r) h in
      let one = la.takes s v r u x.0 in
      (one.0, (one.1, x.1), one.2);
  again = λ v t r s out. let one = la.again v t r s.0 out in let passes : test v ≡ true = s.1 in rw one (rw passes refl);
  begins = λ s v r h. la.begins s v r (tested_some test (a.read s) (v, r) h).0;
  leads = λ v t s. la.leads v t s.0;
  utf8 = λ v t s. la.utf8 v t s.0;
}

-- ---- as it is spelled

pub front_is : (s t r : List ℕ) → s ≡ t ++ r → front_of s r ≡ t
front_is s t r e =
    let n : length s - length r ≡ length t = omega (arith, ap length e, length-append t r) in
    ap (λ n. take n s) n ∙ ap (take (length t)) e ∙ take_at t r (length t) refl

pub lawful_spelled : {A : Type 0} (a : Form A) → Lawful a → Lawful (spelled a)
lawful_spelled a la = record {
  takes = λ s v r u h.
      let x = bind_some (a.read s) _ _ h in
      let same : ◌≡◌ {A = List ℕ × List ℕ} (front_of s x.0.1, x.0.1) (v, r) = cc (x.2) in
      let one = la.takes s x.0.0 x.0.1 u x.1 in
      (one.0, (sym (ap (λ p. p.0) same) ∙ front_is s one.0 x.0.1 one.2, (x.0.0, one.1)), one.2 ∙ ap (λ r. one.0 ++ r) (ap (λ p. p.1) same));
  again = λ v t r s out. let one = la.again s.1.0 t r s.1.1 out in rw one (ap (λ v. Some (v, r)) (front_is (t ++ r) t r refl ∙ sym s.0));
  begins = λ s v r h.
      let x = bind_some (a.read s) _ _ h in
      let same : ◌≡◌ {A = List ℕ × List ℕ} (front_of s x.0.1, x.0.1) (v, r) = cc (x.2) in
      subst (Begins a.null a.front s) (ap (λ p. p.1) same) (la.begins s x.0.0 x.0.1 x.1);
  leads = λ v t s. la.leads s.1.0 t s.1.1;
  utf8 = λ v t s. la.utf8 s.1.0 t s.1.1;
}

-- ---- nothing of it stands in front

none_by : {A : Type 0} (a : Form A) → Lawful a → a.null ≡ false → (s : List ℕ) → sees (a.front anything) s ≡ false → (o : Option (A × List ℕ)) → a.read s ≡ o → o ≡ None
none_by a la solid s out None e = refl
none_by a la solid s out (Some x) e =
    elim (la.begins s x.0 x.1 e) [
      | inl p ↦ absurd (both_ways _ solid p.1)
      | inr p ↦ absurd (both_ways _ out (p anything (sees_anything x.1)))
    ]

pub misses : {A : Type 0} (a : Form A) → Lawful a → a.null ≡ false → (s : List ℕ) → sees (a.front anything) s ≡ false → a.read s ≡ None
misses a la solid s out = none_by a la solid s out (a.read s) refl

-- ---- one or the other

-- of the second, the first misses all
abbrev pub MissesAll : {A : Type 0} → Form A → Form A → Type 0
MissesAll {A} a b = (v : A) (t r : List ℕ) → b.Spells v t → sees (either_of a b).bars r ≡ false → a.read (t ++ r) ≡ None

module _ {A : Type 0} (a b : Form A) (la : Lawful a) (lb : Lawful b) where
  either_takes : (s : List ℕ) (v : A) (r : List ℕ) → IsUtf8 s → (o : Option (A × List ℕ)) → a.read s ≡ o → or_read o (b.read s) ≡ Some (v, r) → (t : List ℕ) × (either_of a b).Spells v t × (s ≡ t ++ r)
  either_takes s v r u None e h = let two = lb.takes s v r u h in (two.0, inr two.1, two.2)
  either_takes s v r u (Some x) e h = let one = la.takes s v r u (e ∙ h) in (one.0, inl one.1, one.2)

  either_again : MissesAll a b → (v : A) (t r : List ℕ) → (either_of a b).Spells v t → sees (either_of a b).bars r ≡ false → (either_of a b).read (t ++ r) ≡ Some (v, r)
  either_again miss v t r (inl s) out = let one = la.again v t r s (unseen a.bars b.bars r (unseen_first b.null (either a.bars b.bars) (a.front anything) r out)).0 in rw one refl
  either_again miss v t r (inr s) out = let none = miss v t r s out in rw none (lb.again v t r s (unseen a.bars b.bars r (unseen_first b.null (either a.bars b.bars) (a.front anything) r out)).1)

  either_begins : a.null ≡ false → (s : List ℕ) (v : A) (r : List ℕ) → (o : Option (A × List ℕ)) → a.read s ≡ o → or_read o (b.read s) ≡ Some (v, r) → Begins b.null (either_of a b).front s r
  either_begins solid s v r None e h = elim (lb.begins s v r h) [
    | inl p ↦ inl p
    | inr p ↦ inr (λ l i. sees_right (a.front l) (b.front l) s (p l i))
  ]
  either_begins solid s v r (Some x) e h = elim (la.begins s v r (e ∙ h)) [
    | inl p ↦ absurd (both_ways _ solid p.1)
    | inr p ↦ inr (λ l i. sees_left (a.front l) (b.front l) s (p l i))
  ]

  either_leads : a.null ≡ false → (v : A) (t : List ℕ) → (either_of a b).Spells v t → Leads b.null (either_of a b).front t
  either_leads solid v t (inl s) = elim (la.leads v t s) [
    | inl p ↦ absurd (both_ways _ solid p.1)
    | inr p ↦ inr (p.0, λ l r i. sees_left (a.front l) (b.front l) (t ++ r) (p.1 l r i))
  ]
  either_leads solid v t (inr s) = elim (lb.leads v t s) [
    | inl p ↦ inl p
    | inr p ↦ inr (p.0, λ l r i. sees_right (a.front l) (b.front l) (t ++ r) (p.1 l r i))
  ]

  either_utf8 : (v : A) (t : List ℕ) → (either_of a b).Spells v t → IsUtf8 t
  either_utf8 v t (inl s) = la.utf8 v t s
  either_utf8 v t (inr s) = lb.utf8 v t s

  pub lawful_either_by : a.null ≡ false → MissesAll a b → Lawful (either_of a b)
  lawful_either_by solid miss = record {
    takes = λ s v r u h. either_takes s v r u (a.read s) refl h;
    again = either_again miss;
    begins = λ s v r h. either_begins solid s v r (a.read s) refl h;
    leads = either_leads solid;
    utf8 = either_utf8;
  }

  first_bytes_miss : a.null ≡ false → apart (b.front anything) (a.front anything) ≡ true → MissesAll a b
  first_bytes_miss solid h v t r s out =
      misses a la solid (t ++ r) (elim (lb.leads v t s) [
        | inl p ↦ subst (λ t. sees (a.front anything) (t ++ r) ≡ false) (sym p.0) (unseen_second b.null (either a.bars b.bars) (a.front anything) r p.1 out)
        | inr p ↦ sees_apart (b.front anything) (a.front anything) (t ++ r) h (p.1 anything r (sees_anything r))
      ])

  pub lawful_either : a.null ≡ false → apart (b.front anything) (a.front anything) ≡ true → Lawful (either_of a b)
  lawful_either solid h = lawful_either_by solid (first_bytes_miss solid h)

-- ---- it or nothing, and any number

module _ {A : Type 0} (a : Form A) (la : Lawful a) (solid : a.null ≡ false) where
  maybe_takes : (s : List ℕ) (v : Option A) (r : List ℕ) → IsUtf8 s → (o : Option (A × List ℕ)) → a.read s ≡ o → maybe_read s o ≡ Some (v, r) → (t : List ℕ) × (maybe a).Spells v t × (s ≡ t ++ r)
  maybe_takes s v r u None e h =
      let p : ◌≡◌ {A = Option A × List ℕ} (None, s) (v, r) = cc in
      ([], subst (λ v. MaybeSpells a.Spells v []) (ap (λ p. p.0) p) refl, ap (λ p. p.1) p)
  maybe_takes s v r u (Some x) e h =
      let p : ◌≡◌ {A = Option A × List ℕ} (Some x.0, x.1) (v, r) = cc in
      let one = la.takes s x.0 x.1 u e in
      (one.0, subst (λ v. MaybeSpells a.Spells v one.0) (ap (λ p. p.0) p) one.1, one.2 ∙ ap (λ r. one.0 ++ r) (ap (λ p. p.1) p))

  maybe_again : (v : Option A) (t r : List ℕ) → MaybeSpells a.Spells v t → sees (maybe a).bars r ≡ false → maybe_read (t ++ r) (a.read (t ++ r)) ≡ Some (v, r)
  maybe_again None t r s out =
      let none = misses a la solid r (unseen a.bars (a.front anything) r out).1 in
      let same : t ≡ [] = s in
      rw same (rw none refl)
  maybe_again (Some v) t r s out = let one = la.again v t r s (unseen a.bars (a.front anything) r out).0 in rw one refl

  maybe_begins : (s : List ℕ) (v : Option A) (r : List ℕ) → (o : Option (A × List ℕ)) → a.read s ≡ o → maybe_read s o ≡ Some (v, r) → Begins true a.front s r
  maybe_begins s v r None e h =
      let p : ◌≡◌ {A = Option A × List ℕ} (None, s) (v, r) = cc in
      inl (ap (λ p. p.1) p, refl)
  maybe_begins s v r (Some x) e h =
      let p : ◌≡◌ {A = Option A × List ℕ} (Some x.0, x.1) (v, r) = cc in
      elim (la.begins s x.0 x.1 e) [
        | inl q ↦ absurd (both_ways _ solid q.1)
        | inr q ↦ inr (λ l i. q l (subst (λ r. sees l r ≡ true) (sym (ap (λ p. p.1) p)) i))
      ]

  maybe_leads : (v : Option A) (t : List ℕ) → MaybeSpells a.Spells v t → Leads true a.front t
  maybe_leads None t s = inl (s, refl)
  maybe_leads (Some v) t s = elim (la.leads v t s) [ inl p ↦ absurd (both_ways _ solid p.1) | inr p ↦ inr p ]

  maybe_utf8 : (v : Option A) (t : List ℕ) → MaybeSpells a.Spells v t → IsUtf8 t
  maybe_utf8 None t s = subst IsUtf8 (sym s) IsUtf8-nil
  maybe_utf8 (Some v) t s = la.utf8 v t s

  pub lawful_maybe : Lawful (maybe a)
  lawful_maybe = record {
    takes = λ s v r u h. maybe_takes s v r u (a.read s) refl h;
    again = maybe_again;
    begins = λ s v r h. maybe_begins s v r (a.read s) refl h;
    leads = maybe_leads;
    utf8 = maybe_utf8;
  }

  abbrev Many : List ℕ → List A × List ℕ → Type 0
  Many s x = (t : List ℕ) × ManySpell a.Spells x.0 t × (s ≡ t ++ x.1)

  many_at : (s : List ℕ) (f : List ℕ → List A × List ℕ) → IsUtf8 s → ((r : List ℕ) → IsUtf8 r → Many r (f r)) → (o : Option (A × List ℕ)) → a.read s ≡ o → Many s (more_read s f o)
  many_at s f u ih None e = ([], refl, refl)
  many_at s f u ih (Some x) e =
      let one = la.takes s x.0 x.1 u e in
      let rest = ih x.1 (utf8_rest s one.0 x.1 u (la.utf8 x.0 one.0 one.1) one.2) in
      (one.0 ++ rest.0, (one.0, rest.0, one.1, rest.1, refl), joined s x.1 (f x.1).1 (f x.1).1 one.0 rest.0 one.2 rest.2 refl)

  many_takes_in : (n : ℕ) (s : List ℕ) → IsUtf8 s → Many s (many_in n a.read s)
  many_takes_in zero s u = ([], refl, refl)
  many_takes_in (suc n) s u = many_at s (many_in n a.read) u (λ r. many_takes_in n r) (a.read s) refl

  many_takes : (s : List ℕ) (v : List A) (r : List ℕ) → IsUtf8 s → (many a).read s ≡ Some (v, r) → (t : List ℕ) × (many a).Spells v t × (s ≡ t ++ r)
  unfolding many_read
  many_takes s v r u h =
      let same : ◌≡◌ {A = List A × List ℕ} (many_in (length s) a.read s) (v, r) = cc in
      subst (Many s) same (many_takes_in (length s) s u)

  many_utf8 : (v : List A) (t : List ℕ) → ManySpell a.Spells v t → IsUtf8 t
  many_utf8 [] t s = subst IsUtf8 (sym s) IsUtf8-nil
  many_utf8 (v ∷ vs) t (t1, t2, one, rest, e) = subst IsUtf8 (sym e) (IsUtf8-append t1 t2 (la.utf8 v t1 one) (many_utf8 vs t2 rest))

  some_of : (v : A) (t : List ℕ) → a.Spells v t → (t ≢ []) × ((l : Look) (r : List ℕ) → sees l r ≡ true → sees (a.front l) (t ++ r) ≡ true)
  some_of v t s = elim (la.leads v t s) [ inl p ↦ absurd (both_ways _ solid p.1) | inr p ↦ p ]

  many_leads : (v : List A) (t : List ℕ) → ManySpell a.Spells v t → Leads true (λ l. a.front anything) t
  many_leads [] t s = inl (s, refl)
  many_leads (v ∷ vs) t (t1, t2, one, rest, e) =
      let lead = some_of v t1 one in
      inr (longer t1 t2 t e lead.0, λ l r i. subst (λ s. sees (a.front anything) s ≡ true) (sym (ap (λ t. t ++ r) e ∙ append_assoc t1 t2 r)) (lead.1 anything (t2 ++ r) (sees_anything (t2 ++ r))))
    where
      longer : (t1 t2 t : List ℕ) → t ≡ t1 ++ t2 → t1 ≢ [] → t ≢ []
      longer [] t2 t e some = absurd (some refl)
      longer (b ∷ bs) t2 t e some = λ n. absurd (cc)

  many_unseen : (v : List A) (t r : List ℕ) → apart (a.front anything) a.bars ≡ true → ManySpell a.Spells v t → sees (many a).bars r ≡ false → sees a.bars (t ++ r) ≡ false
  many_unseen [] t r h s out = subst (λ t. sees a.bars (t ++ r) ≡ false) (sym s) (unseen a.bars (a.front anything) r out).0
  many_unseen (v ∷ vs) t r h s out =
      elim (many_leads (v ∷ vs) t s) [
        | inl p ↦ subst (λ t. sees a.bars (t ++ r) ≡ false) (sym p.0) (unseen a.bars (a.front anything) r out).0
        | inr p ↦ sees_apart (a.front anything) a.bars (t ++ r) h (p.1 anything r (sees_anything r))
      ]

  more : (n : ℕ) (s m : List ℕ) (v : A) (x : List A × List ℕ) → a.read s ≡ Some (v, m) → many_in n a.read m ≡ x → many_in (suc n) a.read s ≡ (v ∷ x.0, x.1)
  more n s m v x e f = rw e (rw f refl)

  many_stop : (n : ℕ) (r : List ℕ) → a.read r ≡ None → many_in n a.read r ≡ ([], r)
  many_stop zero r e = refl
  many_stop (suc n) r e = rw e refl

  many_again_in : apart (a.front anything) a.bars ≡ true → (n : ℕ) (v : List A) (t r : List ℕ) → ManySpell a.Spells v t → sees (many a).bars r ≡ false → length (t ++ r) ≤ n → many_in n a.read (t ++ r) ≡ (v, r)
  many_again_in h n [] t r s out le = rw s (many_stop n r (misses a la solid r (unseen a.bars (a.front anything) r out).1))
  many_again_in h zero (v ∷ vs) t r (t1, t2, one, rest, e) out le = absurd (none_left t1 (some_of v t1 one).0 (omega (arith, ap length e, length-append t r, length-append t1 t2)))
    where
      none_left : (t : List ℕ) → t ≢ [] → length t ≤ 0 → ⊥
      none_left [] some le = some refl
      none_left (b ∷ bs) some le = omega arith
  many_again_in h (suc n) (v ∷ vs) t r (t1, t2, one, rest, e) out le =
      let split : t ++ r ≡ t1 ++ (t2 ++ r) = rw e (append_assoc t1 t2 r) in
      let first = la.again v t1 (t2 ++ r) one (many_unseen vs t2 r h rest out) in
      let less : length (t2 ++ r) ≤ n = shorter t1 (t2 ++ r) n (some_of v t1 one).0 (subst (λ s. length s ≤ suc n) split le) in
      ap (many_in (suc n) a.read) split ∙ more n (t1 ++ (t2 ++ r)) (t2 ++ r) v (vs, r) first (many_again_in h n vs t2 r rest out less)
    where
      shorter : (t x : List ℕ) (n : ℕ) → t ≢ [] → length (t ++ x) ≤ suc n → length x ≤ n
      shorter [] x n some le = absurd (some refl)
      shorter (b ∷ bs) x n some le = omega (arith, length-append bs x)

  more_begins : (s : List ℕ) (f : List ℕ → List A × List ℕ) (o : Option (A × List ℕ)) → a.read s ≡ o → Begins true (λ l. a.front anything) s (more_read s f o).1
  more_begins s f None e = inl (refl, refl)
  more_begins s f (Some x) e = elim (la.begins s x.0 x.1 e) [
    | inl q ↦ absurd (both_ways _ solid q.1)
    | inr q ↦ inr (λ l i. q anything (sees_anything x.1))
  ]

  many_begins_in : (n : ℕ) (s : List ℕ) → Begins true (λ l. a.front anything) s (many_in n a.read s).1
  many_begins_in zero s = inl (refl, refl)
  many_begins_in (suc n) s = more_begins s (many_in n a.read) (a.read s) refl

  many_begins : (s : List ℕ) (v : List A) (r : List ℕ) → (many a).read s ≡ Some (v, r) → Begins true (λ l. a.front anything) s r
  unfolding many_read
  many_begins s v r h =
      let same : ◌≡◌ {A = List A × List ℕ} (many_in (length s) a.read s) (v, r) = cc in
      subst (Begins true (λ l. a.front anything) s) (ap (λ p. p.1) same) (many_begins_in (length s) s)

  pub lawful_many : apart (a.front anything) a.bars ≡ true → Lawful (many a)
  unfolding many_read
  lawful_many h = record {
    takes = many_takes;
    again = λ v t r s out. ap Some (many_again_in h (length (t ++ r)) v t r s out (omega arith));
    begins = many_begins;
    leads = many_leads;
    utf8 = many_utf8;
  }

  -- a step of a loop over them
  shrinks : (s : List ℕ) (x : A × List ℕ) → IsUtf8 s → a.read s ≡ Some x → (length x.1 < length s) × IsUtf8 x.1
  shrinks s x u e =
      let one = la.takes s x.0 x.1 u e in
      (shorter one.0 x.1 s (some_of x.0 one.0 one.1).0 one.2, utf8_rest s one.0 x.1 u (la.utf8 x.0 one.0 one.1) one.2)
    where
      shorter : (t r s : List ℕ) → t ≢ [] → s ≡ t ++ r → length r < length s
      shorter [] r s some e = absurd (some refl)
      shorter (b ∷ bs) r s some e = omega (arith, ap length e, length-append bs r)

  stuck : (n : ℕ) (s : List ℕ) → IsUtf8 s → length s ≤ 0 → many_in n a.read s ≡ ([], s)
  stuck zero s u le = refl
  stuck (suc n) s u le = at (a.read s) refl
    where
      at : (o : Option (A × List ℕ)) → a.read s ≡ o → more_read s (many_in n a.read) o ≡ ([], s)
      at None e = refl
      at (Some x) e = absurd (let less = (shrinks s x u e).0 in omega arith)

  same_at : (n m : ℕ) (s : List ℕ) → IsUtf8 s → ((r : List ℕ) → IsUtf8 r → length r < length s → many_in n a.read r ≡ many_in m a.read r) → (o : Option (A × List ℕ)) → a.read s ≡ o → more_read s (many_in n a.read) o ≡ more_read s (many_in m a.read) o
  same_at n m s u ih None e = refl
  same_at n m s u ih (Some x) e =
      let less = shrinks s x u e in
      let same = ih x.1 less.1 less.0 in
      ap (λ y. (x.0 ∷ y.0, y.1)) same

  enough : (n m : ℕ) (s : List ℕ) → IsUtf8 s → length s ≤ n → length s ≤ m → many_in n a.read s ≡ many_in m a.read s
  enough zero m s u i j = sym (stuck m s u i)
  enough (suc n) zero s u i j = stuck (suc n) s u j
  enough (suc n) (suc m) s u i j = same_at n m s u (λ r v less. enough n m r v (omega arith) (omega arith)) (a.read s) refl

  step_in : (n : ℕ) (s : List ℕ) (x : A × List ℕ) → IsUtf8 s → length s ≤ n → a.read s ≡ Some x → (many_in n a.read s).1 ≡ (many_in (length x.1) a.read x.1).1
  step_in zero s x u le e = absurd (let less = (shrinks s x u e).0 in omega arith)
  step_in (suc n) s x u le e =
      let less = shrinks s x u e in
      let same = enough n (length x.1) x.1 less.1 (omega arith) (omega arith) in
      rw e (ap (λ y. y.1) same)

  pub many_step : (s : List ℕ) (x : A × List ℕ) → IsUtf8 s → a.read s ≡ Some x → (length x.1 < length s) × ((many_read a.read s).1 ≡ (many_read a.read x.1).1) × IsUtf8 x.1
  unfolding many_read
  many_step s x u e = ((shrinks s x u e).0, step_in (length s) s x u (omega arith) e, (shrinks s x u e).1)

  pub many_end : (s : List ℕ) → a.read s ≡ None → (many_read a.read s).1 ≡ s
  unfolding many_read
  many_end s e = ap (λ y. y.1) (many_stop (length s) s e)
