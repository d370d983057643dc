-- Places and paths, item by item.
use Rattle.std.proofs.Common.{◌≡◌, ◌∙◌, ℕ, zero, suc, ◌<◌, ◌≤◌, ◌+◌, ◌-◌, ◌++◌, List, append_assoc, [], ◌∷◌, drop, length, get_or, refl, sym, ap, subst, arith, true, false, Option, Some, None, option_map, if◌then◌else◌, drop-cons, ◌==◌}
use Rattle.std.proofs.lemmas.List.{append-nil, drop_all}
use Rattle.std.proofs.lemmas.Bool.Decides.{nat_tests}
use Rattle.xt_spec.specs.Tree.{Item, element_item, leaf_item, Items, nil, element, leaf, before}
use Rattle.ed_spec.specs.Place as spec
use Rattle.ed_session.specs.Items.{gives_node_item, IsChild, item_count, AreNarrowWithin, IsNarrow}
use Rattle.xt_tree.specs.declared.source.Src.{Src, out-Src}
use Rattle.xt_tree.specs.declared.source.Src.TheOpen.{Src-F}
use Rattle.xt_tree.specs.declared.source.Src.TheFolds.{map-Src, fold_out-Src}
use Rattle.xt_tree.specs.Meaning.{item_of, item_step, items_in}
use Rattle.xt_tree.specs.Spans.{kids_at, kids_of}

-- the index of a child, where the first item is this one
pub index_of-before : (item : Item) (rest : Items) (number : ℕ)
    → spec.index_of (before item rest) number ≡ (if gives_node_item item then spec.child_index number (spec.index_of rest (number - 1)) else option_map suc (spec.index_of rest number))
index_of-before (element_item open_tag kids close) rest number = refl
index_of-before (leaf_item kind text) rest number = refl

shifted : (i : ℕ) (found : Option ℕ) → option_map (λ k. i + k) (option_map suc found) ≡ option_map (λ k. suc i + k) found
shifted i None = refl
shifted i (Some k) = ap (λ (n : ℕ). Some n) (omega arith)

-- what an item holds
pub holds : (bytes : List ℕ) (x : Src) (rest : Items) → spec.content_of (before (item_of bytes x) rest) zero ≡ items_in bytes (kids_of x)
holds bytes x rest = ap (λ (i : Item). spec.content_of (before i rest) zero) (fold_out-Src Item (item_step bytes) x) ∙ layer (out-Src x)
  where
    layer : (y : Src-F Src) → spec.content_of (before (item_step bytes (map-Src Src Item (item_of bytes) y)) rest) zero ≡ items_in bytes (kids_at y)
    layer (Src-F.Elem tail head kids) = refl
    layer (Src-F.Text span) = refl
    layer (Src-F.Ref span) = refl
    layer (Src-F.Comment span) = refl
    layer (Src-F.Pi span) = refl
    layer (Src-F.Gap span) = refl

content_behind : (item : Item) (rest : Items) (k : ℕ) → spec.content_of (before item rest) (suc k) ≡ spec.content_of rest k
content_behind (element_item open_tag kids close) rest k = refl
content_behind (leaf_item kind text) rest k = refl

-- what is left to find, among the items that are left, of which the first has this index
pub record IsLeft (bytes : List ℕ) (level : Items) (number index : ℕ) (left : List Src) (wanted : ℕ) : Type 0 where
  pub along : spec.index_of level number ≡ option_map (λ k. index + k) (spec.index_of (items_in bytes left) wanted)
  pub held : (k : ℕ) → spec.content_of level (index + k) ≡ spec.content_of (items_in bytes left) k

pub left_begins : (bytes : List ℕ) (items left : List Src) (number : ℕ) → left ≡ items → IsLeft bytes (items_in bytes items) number 0 left number
left_begins bytes items left number same = rw same (record { along = none (spec.index_of (items_in bytes items) number); held = λ k. (let e : 0 + k ≡ k = omega arith in ap (λ n. spec.content_of (items_in bytes items) n) e) })
  where
    none : (found : Option ℕ) → found ≡ option_map (λ k. 0 + k) found
    none None = refl
    none (Some k) = ap (λ (n : ℕ). Some n) (omega arith)

next_held : (bytes : List ℕ) (level : Items) (number i : ℕ) (left rest : List Src) (x : Src) (wanted : ℕ) → left ≡ x ∷ rest → IsLeft bytes level number i left wanted
    → (k : ℕ) → spec.content_of level ((i + 1) + k) ≡ spec.content_of (items_in bytes rest) k
next_held bytes level number i left rest x wanted is so_far k =
    let more : (i + 1) + k ≡ i + suc k = omega arith in
    ap (λ (n : ℕ). spec.content_of level n) more ∙ so_far.held (suc k) ∙ ap (λ (l : List Src). spec.content_of (items_in bytes l) (suc k)) is ∙ content_behind (item_of bytes x) (items_in bytes rest) k

-- what is found from an item on
found_from : (bytes : List ℕ) (left rest : List Src) (x : Src) (wanted : ℕ) → left ≡ x ∷ rest
    → spec.index_of (items_in bytes left) wanted
    ≡ (if gives_node_item (item_of bytes x) then spec.child_index wanted (spec.index_of (items_in bytes rest) (wanted - 1)) else option_map suc (spec.index_of (items_in bytes rest) wanted))
found_from bytes left rest x wanted is = ap (λ (l : List Src). spec.index_of (items_in bytes l) wanted) is ∙ index_of-before (item_of bytes x) (items_in bytes rest) wanted

-- where the item gives no node
pub left_over : (bytes : List ℕ) (level : Items) (number i : ℕ) (left rest : List Src) (x : Src) (wanted : ℕ) → left ≡ x ∷ rest → IsLeft bytes level number i left wanted → gives_node_item (item_of bytes x) ≡ false
    → IsLeft bytes level number (i + 1) rest wanted
left_over bytes level number i left rest x wanted is so_far none =
    let more : suc i ≡ i + 1 = omega arith in
    let step : spec.index_of (items_in bytes left) wanted ≡ option_map suc (spec.index_of (items_in bytes rest) wanted) = found_from bytes left rest x wanted is ∙ rw none refl in
    record {
      along = so_far.along ∙ rw step (rw (← more) (shifted i (spec.index_of (items_in bytes rest) wanted)));
      held = next_held bytes level number i left rest x wanted is so_far;
    }

-- where it gives one that isn't meant
pub left_counted : (bytes : List ℕ) (level : Items) (number i : ℕ) (left rest : List Src) (x : Src) (wanted : ℕ) → left ≡ x ∷ rest → IsLeft bytes level number i left wanted → gives_node_item (item_of bytes x) ≡ true → 1 < wanted
    → IsLeft bytes level number (i + 1) rest (wanted - 1)
left_counted bytes level number i left rest x zero is so_far gives more = absurd (omega arith)
left_counted bytes level number i left rest x (suc zero) is so_far gives more = absurd (omega arith)
left_counted bytes level number i left rest x (suc (suc wanted)) is so_far gives more =
    let next : suc i ≡ i + 1 = omega arith in
    let less : suc (suc wanted) - 1 ≡ suc wanted = omega arith in
    record {
      along = so_far.along ∙ rw (found_from bytes left rest x (suc (suc wanted)) is) (rw gives (rw less (rw (← next) (shifted i (spec.index_of (items_in bytes rest) (suc wanted))))));
      held = next_held bytes level number i left rest x (suc (suc wanted)) is so_far;
    }

-- where it is the one that is meant
pub left_here : (bytes : List ℕ) (level left rest : List Src) (number i : ℕ) (x : Src) (kids : List Src) (wanted : ℕ) → left ≡ x ∷ rest → IsLeft bytes (items_in bytes level) number i left wanted → gives_node_item (item_of bytes x) ≡ true → wanted ≡ 1 → kids ≡ kids_of x
    → IsChild bytes level number i kids
left_here bytes level left rest number i x kids wanted is so_far gives one same =
    let at : i + 0 ≡ i = omega arith in
    record {
      found = so_far.along ∙ rw (found_from bytes left rest x wanted is) (rw gives (rw one (ap (λ (n : ℕ). Some n) at)));
      holds = ap (λ (n : ℕ). spec.content_of (items_in bytes level) n) (sym at) ∙ so_far.held 0 ∙ ap (λ (l : List Src). spec.content_of (items_in bytes l) zero) is ∙ holds bytes x (items_in bytes rest) ∙ ap (λ (l : List Src). items_in bytes l) (sym same);
    }

-- no child has the number zero
pub left_never : (bytes : List ℕ) (level : Items) (number i : ℕ) (left rest : List Src) (x : Src) (wanted : ℕ) → left ≡ x ∷ rest → IsLeft bytes level number i left wanted → gives_node_item (item_of bytes x) ≡ true → wanted ≡ 0
    → spec.index_of level number ≡ None
left_never bytes level number i left rest x wanted is so_far gives none = so_far.along ∙ rw (found_from bytes left rest x wanted is) (rw gives (rw none refl))

-- and none stands behind the last item
pub left_ends : (bytes : List ℕ) (level : Items) (number i : ℕ) (left : List Src) (wanted : ℕ) → left ≡ [] → IsLeft bytes level number i left wanted → spec.index_of level number ≡ None
left_ends bytes level number i left wanted none so_far = so_far.along ∙ rw none refl

pub item_count-items : (bytes : List ℕ) (items : List Src) → item_count (items_in bytes items) ≡ length items
item_count-items bytes [] = refl
item_count-items bytes (x ∷ items) = counted (item_of bytes x) (items_in bytes items) ∙ ap suc (item_count-items bytes items)
  where
    counted : (item : Item) (rest : Items) → item_count (before item rest) ≡ suc (item_count rest)
    counted (element_item open_tag kids close) rest = refl
    counted (leaf_item kind text) rest = refl

pub narrow_content : (most : ℕ) (items : Items) (i : ℕ) → AreNarrowWithin most items → IsNarrow most (spec.content_of items i)
narrow_content most nil i are = (omega arith, tt)
narrow_content most (leaf kind text rest) zero are = (omega arith, tt)
narrow_content most (leaf kind text rest) (suc i) are = narrow_content most rest i are
narrow_content most (element open_tag kids close rest) zero are = (are.0, are.1)
narrow_content most (element open_tag kids close rest) (suc i) are = narrow_content most rest i are.2

-- what an item holds is as narrow as the list in which it stands
pub narrow_next : (most : ℕ) (bytes : List ℕ) (level next : List Src) (number index : ℕ) → IsNarrow most (items_in bytes level) → IsChild bytes level number index next → IsNarrow most (items_in bytes next)
narrow_next most bytes level next number index narrow child = subst (λ (l : Items). IsNarrow most l) child.holds (narrow_content most (items_in bytes level) index narrow.1)

mapped : (path : List ℕ) (index : ℕ) (found : Option (List ℕ)) → option_map (λ more. path ++ more) (option_map (λ more. index ∷ more) found) ≡ option_map (λ more. (path ++ index ∷ []) ++ more) found
mapped path index None = refl
mapped path index (Some more) = ap (λ (l : List ℕ). Some l) (sym (append_assoc path (index ∷ []) more))

-- a number that is found leads on
pub goes_along : (bytes : List ℕ) (level next : List Src) (place path : List ℕ) (k number index : ℕ) → k < length place → number ≡ get_or place k 0 → IsChild bytes level number index next
    → option_map (λ more. path ++ more) (spec.path_along (items_in bytes level) (drop k place)) ≡ option_map (λ more. (path ++ index ∷ []) ++ more) (spec.path_along (items_in bytes next) (drop (k + 1) place))
goes_along bytes level next place path k number index below is child =
    let more : suc k ≡ k + 1 = omega arith in
    let rest : drop k place ≡ number ∷ drop (k + 1) place = drop-cons place k 0 below ∙ rw more (ap (λ (y : ℕ). y ∷ drop (k + 1) place) (sym is)) in
    rw rest (rw child.found (rw child.holds (mapped path index (spec.path_along (items_in bytes next) (drop (k + 1) place)))))

-- one that isn't leads nowhere
pub goes_nowhere : (bytes : List ℕ) (level : List Src) (place path : List ℕ) (k number : ℕ) → k < length place → number ≡ get_or place k 0 → spec.index_of (items_in bytes level) number ≡ None
    → option_map (λ more. path ++ more) (spec.path_along (items_in bytes level) (drop k place)) ≡ None
goes_nowhere bytes level place path k number below is none =
    let more : suc k ≡ k + 1 = omega arith in
    let rest : drop k place ≡ number ∷ drop (k + 1) place = drop-cons place k 0 below ∙ rw more (ap (λ (y : ℕ). y ∷ drop (k + 1) place) (sym is)) in
    rw rest (rw none refl)

-- a path along some numbers is that of a place, which has one at least
pub place_is : (items : Items) (place : List ℕ) → (length place == 0) ≡ false → spec.path_of items place ≡ spec.path_along items place
place_is items [] some = absurd (cc)
place_is items (n ∷ place) some = refl

pub no_place : (items : Items) (place : List ℕ) → (length place == 0) ≡ true → spec.path_of items place ≡ None
no_place items [] none = refl
no_place items (n ∷ place) none = grind (arith, nat_tests)

-- at the end of the numbers the path is whole
pub path_whole : (items : Items) (place path : List ℕ) (k : ℕ) → length place ≤ k → option_map (λ more. path ++ more) (spec.path_along items (drop k place)) ≡ Some path
path_whole items place path k past = rw (drop_all k place past) (ap (λ (l : List ℕ). Some l) (append-nil path))
