-- The values of attributes, one after the other.
use Rattle.std.proofs.Common.{◌≡◌, ◌∙◌, ℕ, List, [], ◌∷◌, ◌++◌, map, refl, sym, ap, subst, append_assoc}
use Rattle.std.proofs.lemmas.List.{append-nil}
use Rattle.xt_spec.specs.Content.{HaveValues, typed}
use Rattle.xt_spec.specs.Namespace.{NamedValue}
use Rattle.xt_spec.specs.Value.{HasAttributeValue}
use Rattle.xt_lex.specs.declared.attribute.AttrSrc.{AttrSrc}
use Rattle.xt_tree.specs.Meaning.{at_span}
use Rattle.ent_doc.specs.Steps.{attribute_at, IsCut, AreCut}

-- the values so far, and those that are left
abbrev pub ReadsValues : List ℕ → List AttrSrc → List AttrSrc → List NamedValue → Type 0
ReadsValues bytes sources rest values = (others : List NamedValue) → HaveValues (map (attribute_at bytes) sources) others
    → (more : List NamedValue) × HaveValues (map (attribute_at bytes) rest) more × (others ≡ values ++ more)

pub values_begin : (bytes : List ℕ) (sources : List AttrSrc) (values : List NamedValue) → values ≡ [] → ReadsValues bytes sources sources values
values_begin bytes sources values none others have = (others, have, rw none refl)

pub values_step : (bytes : List ℕ) (sources left rest : List AttrSrc) (d : AttrSrc) (name quoted value : List ℕ) (read : NamedValue) (values joined : List NamedValue) → left ≡ d ∷ rest → name ≡ at_span bytes d.name → quoted ≡ at_span bytes d.value
    → ((other : List ℕ) → HasAttributeValue quoted other → typed name other ≡ value) → read ≡ record { name = name; value = value } → joined ≡ values ++ read ∷ []
    → ReadsValues bytes sources left values → ReadsValues bytes sources rest joined
values_step bytes sources left rest d name quoted value read values joined next name_is quoted_is exact made same so_far others have =
    let (more, have_more, split) = so_far others have in
    let (v, behind, has, have_behind, is) = subst (λ (l : List AttrSrc). HaveValues (map (attribute_at bytes) l) more) next have_more in
    let typed_is : typed (at_span bytes d.name) v ≡ value = subst (λ (n : List ℕ). typed n v ≡ value) name_is (exact v (rw quoted_is has)) in
    let first : more ≡ read ∷ behind = is ∙ ap (λ (x : List ℕ). record { name = at_span bytes d.name; value = x } ∷ behind) typed_is ∙ ap (λ (n : List ℕ). record { name = n; value = value } ∷ behind) (sym name_is) ∙ ap (λ (r : NamedValue). r ∷ behind) (sym made) in
    (behind, have_behind, split ∙ ap (λ (l : List NamedValue). values ++ l) first ∙ sym (append_assoc values (read ∷ []) behind) ∙ ap (λ (l : List NamedValue). l ++ behind) (sym same))

pub values_end : (bytes : List ℕ) (sources left : List AttrSrc) (values others : List NamedValue) → left ≡ [] → ReadsValues bytes sources left values → HaveValues (map (attribute_at bytes) sources) others → others ≡ values
values_end bytes sources left values others past so_far have =
    let (more, have_more, split) = so_far others have in
    let none : more ≡ [] = subst (λ (l : List AttrSrc). HaveValues (map (attribute_at bytes) l) more) past have_more in
    split ∙ ap (λ (l : List NamedValue). values ++ l) none ∙ append-nil values

-- the first of the attributes that are left, and the others
pub first_cut : (bytes : List ℕ) (left rest : List AttrSrc) (d : AttrSrc) → left ≡ d ∷ rest → AreCut bytes left → IsCut bytes d.name × IsCut bytes d.value × AreCut bytes rest
first_cut bytes left rest d is are = subst (λ (l : List AttrSrc). AreCut bytes l) is are
