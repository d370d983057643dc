-- What a form that is lawful gives. What was read is spelled so where the text is UTF-8; that what is spelled so is read
-- again asks nothing of what follows.
use Rattle.std.proofs.Common.{◌≡◌, ℕ, List, [], ◌∷◌, ◌++◌, false, refl, ap, sym, subst, ◌∙◌, Option, Some, None, append-nil}
use Rattle.std.specs.Str.{IsUtf8}
use Rattle.xt_scan.specs.Look.{sees}
use Rattle.std.specs.Option.{option_map, IfSome, IfNone}
use Rattle.xt_scan.specs.Form.{Form}
use Rattle.xt_scan.specs.Front.{Front, NoFront, whole, EndsIn}
use Rattle.xt_scan.proofs.Laws.{Lawful}
use Rattle.xt_scan.proofs.Steps.{utf8_rest}
pub use Rattle.xt_scan.proofs.Calls.{after_all_is, after_word_is, drop_while_is, boundary_behind, boundary_behind_or_start, byte_len, space_ascii, stripped}
pub use Rattle.xt_scan.proofs.Laws.{Lawful, Leads, lawful_both, lawful_either, lawful_given, lawful_many, lawful_maybe, lawful_spelled, lawful_such, many_end, many_step}
pub use Rattle.xt_scan.proofs.Leaves.{any_quoted_again, any_quoted_takes, front_utf8, lawful_blank, lawful_piece, lawful_quoted, lawful_quoted_ascii, lawful_space, lawful_step, lawful_word, quote_small}
pub use Rattle.xt_scan.proofs.Looks.{sees_anything, sees_apart, sees_nothing}
pub use Rattle.xt_scan.proofs.Steps.{Stops, after_all_again, after_all_takes, all_weaker, ascii, ascii_from, bind_some, blank_utf8, boundary_at_stop, take_while_is, take_while_passes, take_while_split, take_while_utf8, space_small, stops_at, strip, utf8_behind, utf8_rest}

-- what was read, and that what follows is text
pub taken : {A : Type 0} (f : Form A) → Lawful f → (s : List ℕ) (v : A) (r : List ℕ) → IsUtf8 s → f.read s ≡ Some (v, r) → (t : List ℕ) × f.Spells v t × (s ≡ t ++ r) × IsUtf8 r
taken f lf s v r u h = let one = lf.takes s v r u h in (one.0, one.1, one.2, utf8_rest s one.0 r u (lf.utf8 v one.0 one.1) one.2)

-- where nothing is read, nothing of it stands in front that may end there
pub nothing_else : {A : Type 0} (f : Form A) → Lawful f → (s : List ℕ) → f.read s ≡ None → NoFront f s
nothing_else {A} f lf s none v t r spells e out =
    let again = lf.again v t r spells out in
    let bad : ◌≡◌ {A = Option (A × List ℕ)} None (Some (v, r)) = sym none ∙ ap f.read e ∙ again in
    absurd (cc)

-- what is read is the only reading that may end there
pub only_reading : {A : Type 0} (f : Form A) → Lawful f → (s : List ℕ) (v w : A) (t r q : List ℕ) → f.read s ≡ Some (w, q) → f.Spells v t → s ≡ t ++ r → sees f.bars r ≡ false → (v ≡ w) × (r ≡ q)
only_reading {A} f lf s v w t r q found spells e out =
    let again = lf.again v t r spells out in
    let both : ◌≡◌ {A = Option (A × List ℕ)} (Some (v, r)) (Some (w, q)) = sym again ∙ sym (ap f.read e) ∙ found in
    let same : ◌≡◌ {A = A × List ℕ} (v, r) (w, q) = cc in
    (ap (λ p. p.0) same, ap (λ p. p.1) same)

whole_by : {A : Type 0} (f : Form A) → Lawful f → (s : List ℕ) (v : A) → IsUtf8 s → (o : Option (A × List ℕ)) → f.read s ≡ o → whole o ≡ Some v → f.Spells v s
whole_by f lf s v u None e h = absurd (cc)
whole_by f lf s v u (Some (w, [])) e h =
    let one = lf.takes s w [] u e in
    let same : w ≡ v = cc in
    subst (λ v. f.Spells v s) same (subst (f.Spells w) (sym (one.2 ∙ append-nil one.0)) one.1)
whole_by f lf s v u (Some (w, b ∷ bs)) e h = absurd (cc)

pub whole_takes : {A : Type 0} (f : Form A) → Lawful f → (s : List ℕ) (v : A) → IsUtf8 s → whole (f.read s) ≡ Some v → f.Spells v s
whole_takes f lf s v u h = whole_by f lf s v u (f.read s) refl h

pub whole_again : {A : Type 0} (f : Form A) → Lawful f → sees f.bars [] ≡ false → (s : List ℕ) (v : A) → f.Spells v s → whole (f.read s) ≡ Some v
whole_again f lf ends s v spells =
    let again : f.read s ≡ Some (v, []) = ap f.read (sym (append-nil s)) ∙ lf.again v s [] spells ends in
    rw again refl

-- a text spells one value
pub one_value : {A : Type 0} (f : Form A) → Lawful f → sees f.bars [] ≡ false → (s : List ℕ) (v w : A) → f.Spells v s → f.Spells w s → v ≡ w
one_value f lf ends s v w a b =
    let x = whole_again f lf ends s v a in
    let y = whole_again f lf ends s w b in
    let same : Some v ≡ Some w = sym x ∙ y in
    cc

-- the clauses of a call whose answer is what the form reads
pub answers_only : {A R : Type 0} (f : Form A) (g : R → A × List ℕ) → Lawful f → (s : List ℕ) → IsUtf8 s → (o : Option R) → option_map g o ≡ f.read s → IfSome o (λ x. Front f s (g x).0 (g x).1)
answers_only f g lf s u None e = tt
answers_only f g lf s u (Some x) e = lf.takes s (g x).0 (g x).1 u (sym e)

pub answers_none : {A R : Type 0} (f : Form A) (g : R → A × List ℕ) → Lawful f → (s : List ℕ) (o : Option R) → option_map g o ≡ f.read s → IfNone o (NoFront f s)
answers_none f g lf s None e = nothing_else f lf s (sym e)
answers_none f g lf s (Some x) e = tt

-- what is left stands at the end of the text
pub ends_in : {A : Type 0} (f : Form A) → Lawful f → (s : List ℕ) → IsUtf8 s → (v : A) (r : List ℕ) → f.read s ≡ Some (v, r) → EndsIn s r
ends_in f lf s u v r e = let one = lf.takes s v r u e in (one.0, one.2)

-- the clauses of a call that reads a whole text
pub whole_only : {A R : Type 0} (f : Form A) (g : R → A) → Lawful f → (s : List ℕ) → IsUtf8 s → (o : Option R) → option_map g o ≡ whole (f.read s) → IfSome o (λ x. f.Spells (g x) s)
whole_only f g lf s u None e = tt
whole_only f g lf s u (Some x) e = whole_takes f lf s (g x) u (sym e)

pub whole_one : {A R : Type 0} (f : Form A) (g : R → A) → Lawful f → sees f.bars [] ≡ false → (s : List ℕ) → IsUtf8 s → (o : Option R) → option_map g o ≡ whole (f.read s) → IfSome o (λ x. (v : A) → f.Spells v s → v ≡ g x)
whole_one f g lf ends s u None e = tt
whole_one f g lf ends s u (Some x) e = λ v spells. one_value f lf ends s v (g x) spells (whole_takes f lf s (g x) u (sym e))

pub whole_none : {A R : Type 0} (f : Form A) (g : R → A) → Lawful f → sees f.bars [] ≡ false → (s : List ℕ) → (o : Option R) → option_map g o ≡ whole (f.read s) → IfNone o ((v : A) → f.Spells v s → ⊥)
whole_none f g lf ends s None e = λ v spells. let again = whole_again f lf ends s v spells in let bad : None ≡ Some v = e ∙ again in absurd (cc)
whole_none f g lf ends s (Some x) e = tt
