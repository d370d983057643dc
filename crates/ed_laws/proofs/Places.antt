-- A place leads to an item, one number after the other.
use Rattle.std.proofs.Common.{◌≡◌, ◌∙◌, ℕ, zero, suc, ◌-◌, List, [], ◌∷◌, refl, sym, ap, arith, Option, Some, None, option_map, Bool, true, false, if◌then◌else◌}
use Rattle.xt_spec.specs.Tree.{Items, nil, element, leaf, Item, element_item, leaf_item}
use Rattle.xt_spec.specs.Paths.{item_in, item_at}
use Rattle.bk_spec.specs.NodePaths.{gives_node}
use Rattle.ed_spec.specs.Place.{child_index, index_of, content_of, step_along, path_along, path_of}

-- ---- indices and paths, found or not

pub no_first : (found : Option ℕ) → option_map suc found ≡ Some zero → ⊥
no_first None is = absurd (cc)
no_first (Some index) is = absurd (cc)

pub one_less : (found : Option ℕ) (index : ℕ) → option_map suc found ≡ Some (suc index) → found ≡ Some index
one_less None index is = absurd (cc)
one_less (Some other) index is = cc

-- the index of the next number, as it is behind the first child
pub number_less : (items : Items) (number index : ℕ) → option_map suc (index_of items (suc (suc number) - 1)) ≡ Some (suc index) → index_of items (suc number) ≡ Some index
number_less items number index is =
    let less : suc (suc number) - 1 ≡ suc number = omega arith in
    ap (λ n. index_of items n) (sym less) ∙ one_less (index_of items (suc (suc number) - 1)) index is

pub no_end : (found : Option ℕ) (others : ℕ → Option (List ℕ)) → step_along found others ≡ Some [] → ⊥
no_end None others is = absurd (cc)
no_end (Some index) others is = by (others index) is
  where
    by : (more : Option (List ℕ)) → option_map (λ path. index ∷ path) more ≡ Some [] → ⊥
    by None is = absurd (cc)
    by (Some path) is = absurd (cc)

pub one_step : (found : Option ℕ) (others : ℕ → Option (List ℕ)) (index : ℕ) (path : List ℕ) → step_along found others ≡ Some (index ∷ path) → (found ≡ Some index) × (others index ≡ Some path)
one_step None others index path is = absurd (cc)
one_step (Some other) others index path is = by (others other) refl is
  where
    by : (more : Option (List ℕ)) → others other ≡ more → option_map (λ path. other ∷ path) more ≡ Some (index ∷ path) → (Some other ≡ Some index) × (others index ≡ Some path)
    by None found is = absurd (cc)
    by (Some rest) found is =
        let same : other ≡ index = cc in
        let paths : rest ≡ path = cc in
        (ap Some same, ap others (sym same) ∙ found ∙ ap Some paths)

-- ---- which number an item behind another has

-- behind an item that gives a node the number is one less
pub behind_node : (rest : Items) (number index : ℕ) → child_index number (index_of rest (number - 1)) ≡ Some (suc index) → (n : ℕ) × (number ≡ suc (suc n)) × (index_of rest (suc n) ≡ Some index)
behind_node rest zero index at = absurd (cc)
behind_node rest (suc zero) index at = absurd (cc)
behind_node rest (suc (suc n)) index at = (n, refl, number_less rest n index at)

-- .. so the item that gives it is the first one where the number is 1
pub first_node : (rest : Items) (number : ℕ) → child_index number (index_of rest (number - 1)) ≡ Some zero → number ≡ 1
first_node rest zero at = absurd (cc)
first_node rest (suc zero) at = refl
first_node rest (suc (suc n)) at = absurd (no_first (index_of rest (suc (suc n) - 1)) at)

-- a number further on, behind a leaf
behind_leaf : (gives : Bool) (rest : Items) (number index : ℕ) → (if gives then child_index number (index_of rest (number - 1)) else option_map suc (index_of rest number)) ≡ Some (suc index) → (n : ℕ) × (index_of rest n ≡ Some index)
behind_leaf true rest number index at = let (n, is, there) = behind_node rest number index at in (suc n, there)
behind_leaf false rest number index at = (number, one_less (index_of rest number) index at)

-- ---- a place leads to an item

leads_in : (items : Items) (number : ℕ) (place : List ℕ) (index : ℕ) (path : List ℕ) → index_of items number ≡ Some index → path_along (content_of items index) place ≡ Some path → (item : Item) × (item_in items index path ≡ Some item)
leads_in nil number place index path at along = absurd (cc)
leads_in (leaf kind text rest) number place zero path at along = leaf_leads place path along
  where
    leaf_leads : (place path : List ℕ) → path_along nil place ≡ Some path → (item : Item) × (item_in (leaf kind text rest) zero path ≡ Some item)
    leaf_leads [] [] along = (leaf_item kind text, refl)
    leaf_leads [] (n ∷ path) along = absurd (cc)
    leaf_leads (n ∷ place) path along = absurd (cc)
leads_in (leaf kind text rest) number place (suc index) path at along =
    let (n, there) = behind_leaf (gives_node kind text) rest number index at in
    leads_in rest n place index path there along
leads_in (element open_tag kids close rest) number [] zero [] at along = (element_item open_tag kids close, refl)
leads_in (element open_tag kids close rest) number [] zero (n ∷ path) at along = absurd (cc)
leads_in (element open_tag kids close rest) number (next ∷ place) zero [] at along = absurd (no_end (index_of kids next) (λ i. path_along (content_of kids i) place) along)
leads_in (element open_tag kids close rest) number (next ∷ place) zero (n ∷ path) at along =
    let step = one_step (index_of kids next) (λ i. path_along (content_of kids i) place) n path along in
    leads_in kids next place n path step.0 step.1
leads_in (element open_tag kids close rest) number place (suc index) path at along =
    let (n, is, there) = behind_node rest number index at in
    leads_in rest (suc n) place index path there along

pub place_leads : (items : Items) (place path : List ℕ) → path_of items place ≡ Some path → (item : Item) × (item_at items path ≡ Some item)
place_leads items [] path is = absurd (cc)
place_leads items (number ∷ place) [] is = absurd (no_end (index_of items number) (λ i. path_along (content_of items i) place) is)
place_leads items (number ∷ place) (index ∷ path) is =
    let step = one_step (index_of items number) (λ i. path_along (content_of items i) place) index path is in
    leads_in items number place index path step.0 step.1
