-- Texts whose characters, or bytes, pass a test.
use Rattle.std.proofs.Common.{◌≡◌, ℕ, ◌<◌, List, [], ◌∷◌, ◌++◌, length, get_or, Bool, true, false, not, eqb, ltb, ltb-true, refl, ap, sym, ◌∙◌, arith, inl, inr, encode_utf8, encode_utf8_all, append_assoc, append-nil}
use Rattle.std.proofs.lemmas.Bool.{cases_Bool, and_parts, and_from, both_ways, not_from_false}
use Rattle.std.proofs.lemmas.Bool.Decides.{nat_tests}
use Rattle.std.proofs.lemmas.List.Folds.{list_all-append}
use Rattle.std.proofs.lemmas.List.Recursion.{and_from_places}
use Rattle.std.proofs.lemmas.Str.{encode_ascii, NoCharPasses-byte}
use Rattle.std.specs.List.{list_all}
use Rattle.std.specs.Str.{NonePass}
use Rattle.xt_spec.specs.Name.{IsSpeltBy}
pub use Rattle.xt_scan.proofs.Theorems.{strip}

pub list_all_weaker : (p q : ℕ → Bool) → ((b : ℕ) → p b ≡ true → q b ≡ true) → (xs : List ℕ) → list_all p xs ≡ true → list_all q xs ≡ true
list_all_weaker p q weaker [] h = refl
list_all_weaker p q weaker (x ∷ xs) h =
    let both = and_parts _ _ h in
    and_from _ _ (weaker x both.0) (list_all_weaker p q weaker xs both.1)

pub list_all_joined : (p : ℕ → Bool) (xs ys : List ℕ) → list_all p xs ≡ true → list_all p ys ≡ true → list_all p (xs ++ ys) ≡ true
list_all_joined p xs ys a b = rw list_all-append (and_from _ _ a b)

pub list_all_behind : (p : ℕ → Bool) (xs ys : List ℕ) → list_all p (xs ++ ys) ≡ true → list_all p ys ≡ true
list_all_behind p [] ys h = h
list_all_behind p (x ∷ xs) ys h = list_all_behind p xs ys (and_parts _ _ h).1

pub encode_joined : (cs ds : List ℕ) → encode_utf8_all (cs ++ ds) ≡ encode_utf8_all cs ++ encode_utf8_all ds
encode_joined [] ds = refl
encode_joined (c ∷ cs) ds = ap (λ t. encode_utf8 c ++ t) (encode_joined cs ds) ∙ sym (append_assoc (encode_utf8 c) (encode_utf8_all cs) (encode_utf8_all ds))

pub spelt_joined : (p : ℕ → Bool) (x y : List ℕ) → IsSpeltBy (λ cs. list_all p cs) x → IsSpeltBy (λ cs. list_all p cs) y → IsSpeltBy (λ cs. list_all p cs) (x ++ y)
spelt_joined p x y (cs, e, h) (ds, f, k) = (cs ++ ds, encode_joined cs ds ∙ ap (λ t. t ++ encode_utf8_all ds) e ∙ ap (λ t. x ++ t) f, list_all_joined p cs ds h k)

pub encode_small : (xs : List ℕ) → list_all (λ b. ltb b 128) xs ≡ true → encode_utf8_all xs ≡ xs
encode_small [] h = refl
encode_small (x ∷ xs) h =
    let both = and_parts _ _ h in
    ap (λ t. t ++ encode_utf8_all xs) (encode_ascii x (ltb-true x 128 both.0)) ∙ ap (λ t. x ∷ t) (encode_small xs both.1)

-- an ASCII text is its characters
pub spelt_ascii : (p : ℕ → Bool) (xs : List ℕ) → list_all (λ b. ltb b 128) xs ≡ true → list_all p xs ≡ true → IsSpeltBy (λ cs. list_all p cs) xs
spelt_ascii p xs small h = (xs, encode_small xs small, h)

pub spelt_char : (p : ℕ → Bool) (c : ℕ) → p c ≡ true → IsSpeltBy (λ cs. list_all p cs) (encode_utf8 c)
spelt_char p c h = (c ∷ [], append-nil (encode_utf8 c), and_from _ _ h refl)

none_is : (p : ℕ) (cs : List ℕ) → list_all (λ c. not (eqb c p)) cs ≡ true → NonePass (λ d. eqb d p) cs
none_is p [] h = tt
none_is p (c ∷ cs) h =
    let both = and_parts _ _ h in
    elim (cases_Bool (eqb c p)) [
      | inl e ↦ let fact : not (eqb c p) ≡ true = both.0 in let bad : false ≡ true = rw e at fact in absurd (cc)
      | inr e ↦ (e, none_is p cs both.1)
    ]

byte_lacks : (p : ℕ) (text : List ℕ) (i : ℕ) → p < 128 → IsSpeltBy (λ cs. list_all (λ c. not (eqb c p)) cs) text → i < length text → not (eqb (get_or text i 0) p) ≡ true
byte_lacks p text i small (cs, e, h) within =
    elim (cases_Bool (eqb (get_or text i 0) p)) [
      | inl is ↦ absurd (both_ways (eqb (get_or text i 0) p) (NoCharPasses-byte (λ d. eqb d p) text i (cs, e, none_is p cs h) within (grind (arith, nat_tests))) is)
      | inr not_ ↦ not_from_false _ not_
    ]

-- where no character is the ASCII one, no byte is
pub bytes_lack : (p : ℕ) (text : List ℕ) → p < 128 → IsSpeltBy (λ cs. list_all (λ c. not (eqb c p)) cs) text → list_all (λ b. not (eqb b p)) text ≡ true
bytes_lack p text small spelt = and_from_places (list_all (λ b. not (eqb b p))) (λ b. not (eqb b p)) refl (λ _ _. refl) text 0 (λ i within. byte_lacks p text i small spelt within)
