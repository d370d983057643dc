-- The steps that tags and attributes are made of.
use Rattle.std.proofs.Common.{◌≡◌, ℕ, List, [], ◌∷◌, ◌++◌, Bool, true, false, eqb, refl, ap, subst, ◌∙◌, arith, inl, inr, Some, None, eqb-true, append-nil}
use Rattle.std.proofs.lemmas.Bool.{cases_Bool, and_parts}
use Rattle.std.proofs.lemmas.Bool.Decides.{nat_tests}
use Rattle.std.specs.List.{list_all, prefix_len}
use Rattle.std.specs.Str.{IsUtf8}
use Rattle.std.proofs.lemmas.Str.{IsUtf8-take}
use Rattle.xt_spec.specs.Char.{is_space}
use Rattle.xt_spec.specs.Name.{are_ncname_chars, IsNCName}
use Rattle.xt_lex.specs.NameTest.{is_name_byte}
use Rattle.std.specs.Str.{chars}
use Rattle.xt_lex.specs.Scan.{take_while, drop_while, after, after_ncname}
use Rattle.xt_lex.proofs.Runs.{take_while_is, boundary_at_stop, stop_ascii}
use Rattle.xt_lex.proofs.NameLemmas.{ncname_from_test, test_from_ncname, ncname_passes}
pub use Rattle.xt_scan.proofs.Theorems.{bind_some, take_while_split, take_while_passes, utf8_behind}

pub take_while_append : (p : ℕ → Bool) (a r : List ℕ) → list_all p a ≡ true → take_while p (a ++ r) ≡ a ++ take_while p r
take_while_append p [] r h = refl
take_while_append p (x ∷ xs) r h =
    let both = and_parts _ _ h in
    let first : p x ≡ true = both.0 in
    rw first (ap (λ t. x ∷ t) (take_while_append p xs r both.1))

pub drop_while_append : (p : ℕ → Bool) (a r : List ℕ) → list_all p a ≡ true → drop_while p (a ++ r) ≡ drop_while p r
drop_while_append p [] r h = refl
drop_while_append p (x ∷ xs) r h =
    let both = and_parts _ _ h in
    let first : p x ≡ true = both.0 in
    rw first (drop_while_append p xs r both.1)

pub after_takes : (c : ℕ) (s r : List ℕ) → after c s ≡ Some r → s ≡ c ∷ r
after_takes c [] r h = absurd (cc)
after_takes c (b ∷ bs) r h =
    elim (cases_Bool (eqb b c)) [
      | inl e ↦ let same : b ≡ c = eqb-true b c e in let rest : Some bs ≡ Some r = rw e at h in cc
      | inr e ↦ let none : None ≡ Some r = rw e at h in absurd (cc)
    ]

-- a run of bytes of names is text
pub name_run_utf8 : (s : List ℕ) → IsUtf8 s → IsUtf8 (take_while is_name_byte s)
name_run_utf8 s u = subst IsUtf8 (take_while_is is_name_byte s) (IsUtf8-take s (prefix_len is_name_byte s) u (boundary_at_stop is_name_byte s stop_ascii))

pub after_ncname_takes : (s r : List ℕ) → IsUtf8 s → after_ncname s ≡ Some r → IsNCName (take_while is_name_byte s) × (s ≡ take_while is_name_byte s ++ r)
after_ncname_takes s r u h =
    elim (cases_Bool (are_ncname_chars (chars (take_while is_name_byte s)))) [
      | inl e ↦
          let rest : Some (drop_while is_name_byte s) ≡ Some r = rw e at h in
          let same : drop_while is_name_byte s ≡ r = cc in
          (ncname_from_test _ (name_run_utf8 s u) e, take_while_split is_name_byte s ∙ ap (λ t. take_while is_name_byte s ++ t) same)
      | inr e ↦ let none : None ≡ Some r = rw e at h in absurd (cc)
    ]

pub after_ncname_again : (name r : List ℕ) → IsNCName name → take_while is_name_byte r ≡ [] → drop_while is_name_byte r ≡ r → after_ncname (name ++ r) ≡ Some r
after_ncname_again name r q none all =
    let bytes = ncname_passes name q in
    let front : take_while is_name_byte (name ++ r) ≡ name = take_while_append is_name_byte name r bytes ∙ ap (λ t. name ++ t) none ∙ append-nil name in
    let back : drop_while is_name_byte (name ++ r) ≡ r = drop_while_append is_name_byte name r bytes ∙ all in
    rw (front, test_from_ncname name q, back) refl

pub space_no_name : (b : ℕ) → is_space b ≡ true → is_name_byte b ≡ false
space_no_name b h = grind (arith, nat_tests)
