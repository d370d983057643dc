-- What spells a token, from simpler facts.
use Rattle.std.proofs.Common.{◌≡◌, zero, suc, ℕ, ◌<◌, List, [], ◌∷◌, get_or, true, false, ltb, ◌⊎◌, refl, sym, subst, arith, inl, inr, codes}
use Rattle.std.proofs.lemmas.Bool.{and_parts, both_ways}
use Rattle.std.proofs.lemmas.Bool.Decides.{nat_tests}
use Rattle.std.proofs.lemmas.List.{get_or_past}
use Rattle.std.specs.List.{AllByRecursion}
use Rattle.xt_spec.specs.Char.{is_char, is_space}
use Rattle.xt_spec.specs.Name.{IsNCName}
use Rattle.xt_spec.specs.Reference.{IsEntityRef, IsPredefined, StandsFor}
use Rattle.xt_spec.specs.Tag.{IsBlank, IsSpace}
use Rattle.xt_spec.specs.Token.{char_data, char_ref, entity_ref, IsPlain, HoldsNoClose, Spells}
use Rattle.xt_lex.specs.Fast.{is_plain_name}
use Rattle.xt_lex.proofs.DataLemmas.{close_reads}
use Rattle.xt_lex.proofs.NameLemmas.{ncname_from_test}
use Rattle.xt_lex.proofs.Sound.{plain_ncname, plain_ascii}
use Rattle.xt_lex.proofs.Spelling.{encode_small, list_all_weaker}
use Rattle.xt_lex.proofs.Utf8.{ascii}
use Rattle.xt_scan.proofs.Theorems.{space_small}

pub plain_is_ncname : (name : List ℕ) → is_plain_name name ≡ true → IsNCName name
plain_is_ncname name h = ncname_from_test name (ascii name (plain_ascii name h)) (plain_ncname name h)

-- a reference to a predefined entity is an entity reference
pub predefined_entity : (t : List ℕ) (c : ℕ) → IsPredefined t c → IsEntityRef t
predefined_entity t c (inl (e, f)) = (codes "lt", plain_is_ncname (codes "lt") refl, e)
predefined_entity t c (inr (inl (e, f))) = (codes "gt", plain_is_ncname (codes "gt") refl, e)
predefined_entity t c (inr (inr (inl (e, f)))) = (codes "amp", plain_is_ncname (codes "amp") refl, e)
predefined_entity t c (inr (inr (inr (inl (e, f))))) = (codes "apos", plain_is_ncname (codes "apos") refl, e)
predefined_entity t c (inr (inr (inr (inr (e, f))))) = (codes "quot", plain_is_ncname (codes "quot") refl, e)

-- what stands for a character spells a token of one of the two kinds
pub stands_spells : (t : List ℕ) (c : ℕ) → StandsFor t c → Spells char_ref t ⊎ Spells entity_ref t
stands_spells t c (inl names) = inl (c, names)
stands_spells t c (inr known) = inr (predefined_entity t c known)

space_char : (b : ℕ) → is_space b ≡ true → is_char b ≡ true
space_char b h = grind (arith, nat_tests)

space_is_not : (b c : ℕ) → is_space b ≡ true → is_space c ≡ false → b ≡ c → ⊥
space_is_not b c h isnt e = both_ways (is_space c) isnt (subst (λ b. is_space b ≡ true) e h)

space_plain : (b : ℕ) → is_space b ≡ true → IsPlain b
space_plain b h = (space_char b h, λ e. space_is_not b 60 h refl e, λ e. space_is_not b 38 h refl e)

spaces_plain : (t : List ℕ) → IsBlank t → AllByRecursion IsPlain t
spaces_plain [] h = tt
spaces_plain (b ∷ bs) h =
    let both = and_parts _ _ h in
    (space_plain b both.0, spaces_plain bs both.1)

space_at : (t : List ℕ) (k b : ℕ) → IsBlank t → get_or t k 0 ≡ b → 0 < b → is_space b ≡ true
space_at [] k b h e some = let none : get_or {A = ℕ} [] k 0 ≡ 0 = get_or_past [] k 0 (omega arith) in absurd (omega arith)
space_at (x ∷ xs) zero b h e some = subst (λ b. is_space b ≡ true) e (and_parts _ _ h).0
space_at (x ∷ xs) (suc k) b h e some = space_at xs k b (and_parts _ _ h).1 e some

blank_holds_no_close : (t : List ℕ) → IsBlank t → HoldsNoClose t
blank_holds_no_close t h k closes = both_ways (is_space 93) refl (space_at t k 93 h (close_reads t k closes).0 (omega arith))

-- white space, of which there is some, is character data
pub space_spells : (t : List ℕ) → IsSpace t → Spells char_data t
space_spells t (blank, some) = (t, some, spaces_plain t blank, sym (encode_small t (list_all_weaker is_space (λ b. ltb b 128) space_small t blank)), blank_holds_no_close t blank)
