-- A place that leads along a path leads to an item.
use Rattle.std.proofs.Common.{◌≡◌, ◌∙◌, ℕ, zero, suc, ◌-◌, List, [], ◌∷◌, refl, sym, subst, Bool, true, false, Option, Some, None, option_map, if◌then◌else◌}
use Rattle.xt_spec.specs.Tree.{Item, element_item, leaf_item, Items, nil, element, leaf}
use Rattle.xt_spec.specs.Paths.{item_in, item_at}
use Rattle.bk_spec.specs.NodePaths.{gives_node}
use Rattle.ed_spec.specs.Place.{child_index, index_of, content_of, step_along, path_along, path_of}
use Rattle.ed_session.specs.declared.refusal.Refusal.{Refusal}
use Rattle.ed_session.specs.declared.refusal.Refusal.TheVariants.{NoSuchPlace, WrongKind, BadRange, BadText, TooLarge}
use Rattle.ed_session.specs.declared.refusal.EditFault.TheVariants.{Refused}
use Rattle.ed_session.specs.Edits.{IsNoTextAt, IsNoText}

abbrev IsThere : Items → ℕ → Type 0
IsThere items index = (item : Item) × (item_in items index [] ≡ Some item)

behind_one : (found : Option ℕ) (index : ℕ) → option_map suc found ≡ Some index → (less : ℕ) × (found ≡ Some less) × (index ≡ suc less)
behind_one None index is = absurd (cc)
behind_one (Some less) index is = (less, refl, cc)

counted_index : (number : ℕ) (others : Option ℕ) (index : ℕ) → child_index number others ≡ Some index → (P : ℕ → Type 0) → P 0 → ((less : ℕ) → others ≡ Some less → P (suc less)) → P index
counted_index zero others index is P first next = absurd (cc)
counted_index (suc zero) others index is P first next = let same : 0 ≡ index = cc in subst P same first
counted_index (suc (suc number)) others index is P first next =
    let (less, found, same) = behind_one others index is in
    subst P (sym same) (next less found)

-- at the index of a child is an item
index_there : (items : Items) (number index : ℕ) → index_of items number ≡ Some index → IsThere items index
index_there nil number index is = absurd (cc)
index_there (element open_tag kids close rest) number index is =
    counted_index number (index_of rest (number - 1)) index is (λ (i : ℕ). IsThere (element open_tag kids close rest) i) (element_item open_tag kids close, refl) (λ less found. index_there rest (number - 1) less found)
index_there (leaf kind text rest) number index is = by (gives_node kind text) is (λ n less found. index_there rest n less found)
  where
    by : (t : Bool) → (if t then child_index number (index_of rest (number - 1)) else option_map suc (index_of rest number)) ≡ Some index
        → ((n less : ℕ) → index_of rest n ≡ Some less → IsThere rest less) → IsThere (leaf kind text rest) index
    by true is others =
        counted_index number (index_of rest (number - 1)) index is (λ (i : ℕ). IsThere (leaf kind text rest) i) (leaf_item kind text, refl) (λ less found. others (number - 1) less found)
    by false is others =
        let (less, found, same) = behind_one (index_of rest number) index is in
        subst (λ (i : ℕ). IsThere (leaf kind text rest) i) (sym same) (others number less found)

-- a longer path goes on in what the item holds
goes_on : (items : Items) (index next : ℕ) (path : List ℕ) → item_in items index (next ∷ path) ≡ item_in (content_of items index) next path
goes_on nil index next path = refl
goes_on (leaf kind text rest) zero next path = refl
goes_on (leaf kind text rest) (suc index) next path = goes_on rest index next path
goes_on (element open_tag kids close rest) zero next path = refl
goes_on (element open_tag kids close rest) (suc index) next path = goes_on rest index next path

consed : (index : ℕ) (found : Option (List ℕ)) (path : List ℕ) → option_map (λ more. index ∷ more) found ≡ Some path → (more : List ℕ) × (found ≡ Some more) × (path ≡ index ∷ more)
consed index None path is = absurd (cc)
consed index (Some more) path is = (more, refl, cc)

-- where the first index is that of an item, and the rest leads to one in it
leads_by : (items : Items) (number index : ℕ) (place path : List ℕ) → index_of items number ≡ Some index → option_map (λ more. index ∷ more) (path_along (content_of items index) place) ≡ Some path
    → ((next : ℕ) (others more : List ℕ) → place ≡ next ∷ others → path_along (content_of items index) (next ∷ others) ≡ Some more → (item : Item) × (item_at (content_of items index) more ≡ Some item))
    → (item : Item) × (item_at items path ≡ Some item)
leads_by items number index [] path found is inner =
    let same : index ∷ [] ≡ path = cc in
    let (item, there) = index_there items number index found in
    (item, subst (λ (l : List ℕ). item_at items l ≡ Some item) same there)
leads_by items number index (next ∷ others) path found is inner =
    let (more, rest, same) = consed index (path_along (content_of items index) (next ∷ others)) path is in
    let (item, there) = inner next others more refl rest in
    (item, subst (λ (l : List ℕ). item_at items l ≡ Some item) (sym same) (inside item more there))
  where
    inside : (item : Item) (more : List ℕ) → item_at (content_of items index) more ≡ Some item → item_at items (index ∷ more) ≡ Some item
    inside item [] there = absurd (cc)
    inside item (j ∷ more) there = goes_on items index j more ∙ there

pub along_there : (items : Items) (number : ℕ) (place path : List ℕ) → path_along items (number ∷ place) ≡ Some path → (item : Item) × (item_at items path ≡ Some item)
along_there items number [] path is = by (index_of items number) refl is
  where
    by : (found : Option ℕ) → found ≡ index_of items number → step_along found (λ index. path_along (content_of items index) []) ≡ Some path → (item : Item) × (item_at items path ≡ Some item)
    by None e is = absurd (cc)
    by (Some index) e is = leads_by items number index [] path (sym e) is (λ next others more same. absurd (cc))
along_there items number (next ∷ place) path is = by (index_of items number) refl is (λ index more. along_there (content_of items index) next place more)
  where
    by : (found : Option ℕ) → found ≡ index_of items number → step_along found (λ index. path_along (content_of items index) (next ∷ place)) ≡ Some path
        → ((index : ℕ) (more : List ℕ) → path_along (content_of items index) (next ∷ place) ≡ Some more → (item : Item) × (item_at (content_of items index) more ≡ Some item))
        → (item : Item) × (item_at items path ≡ Some item)
    by None e is inner = absurd (cc)
    by (Some index) e is inner = leads_by items number index (next ∷ place) path (sym e) is (λ n others more same along. inner index more (subst (λ (l : List ℕ). path_along (content_of items index) l ≡ Some more) (sym same) along))

pub leads_there : (items : Items) (place path : List ℕ) → path_of items place ≡ Some path → (item : Item) × (item_at items path ≡ Some item)
leads_there items [] path is = absurd (cc)
leads_there items (number ∷ place) path is = along_there items number place path is

-- a path that leads to no text is that of a place without one
pub no_text_of : (items : Items) (place path : List ℕ) (refusal : Refusal) → path_of items place ≡ Some path → IsNoTextAt items path refusal → IsNoText items place (Refused refusal)
no_text_of items place path NoSuchPlace leads none = let (item, there) = leads_there items place path leads in let bad = sym none ∙ there in absurd (cc)
no_text_of items place path WrongKind leads (item, there, other) = (path, item, record { leads = leads; there = there }, other)
no_text_of items place path BadRange leads none = none
no_text_of items place path BadText leads none = none
no_text_of items place path TooLarge leads none = none
