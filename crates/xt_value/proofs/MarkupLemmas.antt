-- What a comment holds, and the parts of a processing instruction.
use Rattle.std.proofs.Common.{◌≡◌, ◌∙◌, ℕ, List, [], ◌∷◌, ◌++◌, refl, sym, ap, true, false, inl, inr, append_assoc}
use Rattle.std.proofs.lemmas.Bool.{and_parts, and_from, not_from_false, cases_Bool, both_ways}
use Rattle.std.specs.List.{list_all}
use Rattle.xt_spec.specs.Char.{is_space}
use Rattle.xt_spec.specs.Name.{IsNCName}
use Rattle.xt_spec.specs.Tag.{IsBlank}
use Rattle.xt_spec.specs.Markup.{begins_blank, IsPiOf}
use Rattle.xt_lex.specs.NameTest.{is_name_byte}
use Rattle.xt_scan.specs.Step.{drop_while}
use Rattle.xt_lex.proofs.Theorems.{ncname_passes, drop_while_append, space_no_name}
use Rattle.xt_value.specs.Parts.{lacks_all, Stops, IsCut}
use Rattle.xt_value.proofs.Searches.{cut_unique}

no_space : (b : ℕ) → is_name_byte b ≡ true → is_space b ≡ false
no_space b name =
    elim (cases_Bool (is_space b)) [
      | inl is ↦ absurd (both_ways (is_name_byte b) (space_no_name b is) name)
      | inr lacks ↦ lacks
    ]

names_lack : (text : List ℕ) → list_all is_name_byte text ≡ true → lacks_all is_space text ≡ true
names_lack [] are = refl
names_lack (b ∷ text) are =
    let both = and_parts (is_name_byte b) (list_all is_name_byte text) are in
    and_from _ _ (not_from_false (is_space b) (no_space b both.0)) (names_lack text both.1)

-- a target has no white space
pub target_lacks : (target : List ℕ) → IsNCName target → lacks_all is_space target ≡ true
target_lacks target name = names_lack target (ncname_passes target name)

space_stops : (space inner : List ℕ) → IsBlank space → (space ≡ [] → inner ≡ []) → Stops is_space (space ++ inner)
space_stops [] inner blank apart = inl (apart refl)
space_stops (b ∷ space) inner blank apart = inr (b, space ++ inner, refl, (and_parts (is_space b) (list_all is_space space) blank).0)

pub data_stay : (inner : List ℕ) → begins_blank inner ≡ false → drop_while is_space inner ≡ inner
data_stay [] begins = refl
data_stay (b ∷ inner) begins = let lacks : is_space b ≡ false = begins in rw lacks refl

-- the target, and the data behind the white space
pub pi_cut : (pi target inner body front rest : List ℕ) → (is : IsPiOf pi target inner) → body ≡ target ++ is.space ++ inner → IsCut is_space body front rest → (target ≡ front) × (inner ≡ drop_while is_space rest)
pi_cut pi target inner body front rest is spelled cut =
    let same = cut_unique is_space target front (is.space ++ inner) rest (target_lacks target is.is_target.0) cut.lacks (space_stops is.space inner is.is_space is.apart) cut.stops (sym (append_assoc target is.space inner) ∙ sym spelled ∙ sym cut.joined) in
    (same.0, sym (data_stay inner is.begins) ∙ sym (drop_while_append is_space is.space inner is.is_space) ∙ ap (drop_while is_space) same.1)

-- .. and so cut, the body joins again
pub pi_is_cut : (pi target inner : List ℕ) → (is : IsPiOf pi target inner) → IsCut is_space (target ++ is.space ++ inner) target (is.space ++ inner)
pi_is_cut pi target inner is = record {
  joined = sym (append_assoc target is.space inner);
  lacks = target_lacks target is.is_target.0;
  stops = space_stops is.space inner is.is_space is.apart;
}
