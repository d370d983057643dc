-- Attributes of one tag by their expanded names.
use Rattle.std.proofs.Common.{arith, ◌≡◌, ◌∙◌, sym, ◌≤◌, ℕ, Bool, true, false, cond, nat_eq, length, List, [], ◌∷◌, map, Bor, Ordering, refl, ap, bytes_eq, not, ◌&&◌, ◌||◌}
use Rattle.std.proofs.lemmas.Cmp.{then_total}
use Rattle.std.proofs.lemmas.List.{length-map}
use Rattle.std.proofs.lemmas.Map.Made.{distinct_count-le}
use Rattle.std.proofs.lemmas.Map.Text.{is_eq-slice_cmp}
use Rattle.std.specs.Cmp.{IsTotalOrder, tied_then}
use Rattle.std.specs.Cmp.Lexicographic.{slice_cmp, on_texts}
use Rattle.std.specs.Ordering.{nat_cmp, is_eq, eq_by_cmp, ordering_then}
use Rattle.std.specs.Set.{is_member, unique_keys, distinct_count}
use Rattle.std.specs.List.{list_any}
use Rattle.bk_spec.specs.Node as spec
use Rattle.bk_spec.specs.DocumentNodes.{has_name, are_distinct}
use Rattle.bk_info.specs.declared.attr.Attr.{Attr}
use Rattle.bk_info.specs.Nodes.{attr_in, attrs_in}
use Rattle.ent_doc.specs.Steps.{are_apart, key_texts, attr_texts}

any_named : (a : spec.Attr) (attrs : List Attr) → list_any (λ (other : Attr). has_name a (attr_in other)) attrs ≡ list_any (has_name a) (attrs_in attrs)
any_named a [] = refl
any_named a (other ∷ attrs) = ap (λ (b : Bool). has_name a (attr_in other) || b) (any_named a attrs)

pub apart_distinct : (attrs : List Attr) → are_apart attrs ≡ are_distinct (attrs_in attrs)
apart_distinct [] = refl
apart_distinct (a ∷ others) =
    ap (λ (b : Bool). not b && are_apart others) (any_named (attr_in a) others) ∙ ap (λ (b : Bool). not (list_any (has_name (attr_in a)) (attrs_in others)) && b) (apart_distinct others)

abbrev pub Key : Type 0
Key = Bor (List ℕ) × Bor (List ℕ)

pub key_is : (key : Key) (space local : List ℕ) → key.0.now ≡ space → key.1.now ≡ local → ◌≡◌ {A = List ℕ × List ℕ} (key_texts key) (space, local)
key_is key space local first second = λ i. (first i, second i)

-- in the order of a set's keys
abbrev pub key_cmp : Key → Key → Ordering
key_cmp a b = ordering_then (slice_cmp nat_cmp a.0.now b.0.now) (slice_cmp nat_cmp a.1.now b.1.now)

pub key_total : IsTotalOrder key_cmp
key_total = then_total (on_texts (λ (key : Key). key.0.now)) (on_texts (λ (key : Key). key.1.now))

abbrev same_texts : List ℕ × List ℕ → List ℕ × List ℕ → Bool
same_texts a b = bytes_eq a.0 b.0 && bytes_eq a.1 b.1

abbrev texts_apart : List (List ℕ × List ℕ) → Bool
texts_apart [] = true
texts_apart (a ∷ others) = not (list_any (same_texts a) others) && texts_apart others

key_same : (a b : Key) → eq_by_cmp key_cmp a b ≡ same_texts (key_texts a) (key_texts b)
key_same a b =
    sym (tied_then (slice_cmp nat_cmp a.0.now b.0.now) (slice_cmp nat_cmp a.1.now b.1.now))
    ∙ ap (λ (x : Bool). x && is_eq (slice_cmp nat_cmp a.1.now b.1.now)) (is_eq-slice_cmp a.0.now b.0.now)
    ∙ ap (λ (x : Bool). bytes_eq a.0.now b.0.now && x) (is_eq-slice_cmp a.1.now b.1.now)

is_member_key : (key : Key) (keys : List Key) → is_member (eq_by_cmp key_cmp) keys key ≡ list_any (same_texts (key_texts key)) (map key_texts keys)
is_member_key key [] = refl
is_member_key key (k ∷ keys) =
    ap (λ (b : Bool). b || is_member (eq_by_cmp key_cmp) keys key) (key_same key k) ∙ ap (λ (b : Bool). same_texts (key_texts key) (key_texts k) || b) (is_member_key key keys)

count_step : (again : Bool) (u keys : List Key) (key : Key) (d : Bool) → length u ≤ length keys → nat_eq (length u) (length keys) ≡ d → nat_eq (length (cond again u (key ∷ u))) (length (key ∷ keys)) ≡ (not again && d)
count_step true u keys key d le e = grind (arith)
count_step false u keys key true le e = grind (arith)
count_step false u keys key false le e = grind (arith)

-- as many different keys as keys: no two are one
count_distinct : (keys : List Key) → nat_eq (distinct_count (eq_by_cmp key_cmp) keys) (length keys) ≡ texts_apart (map key_texts keys)
count_distinct [] = refl
count_distinct (key ∷ keys) =
    count_step (is_member (eq_by_cmp key_cmp) keys key) (unique_keys (eq_by_cmp key_cmp) keys) keys key _ (distinct_count-le (eq_by_cmp key_cmp) keys) (count_distinct keys)
    ∙ ap (λ (b : Bool). not b && texts_apart (map key_texts keys)) (is_member_key key keys)

any_texts : (a : Attr) (attrs : List Attr) → list_any (same_texts (attr_texts a)) (map attr_texts attrs) ≡ list_any (λ (other : Attr). has_name (attr_in a) (attr_in other)) attrs
any_texts a [] = refl
any_texts a (other ∷ attrs) = ap (λ (b : Bool). has_name (attr_in a) (attr_in other) || b) (any_texts a attrs)

texts_distinct : (attrs : List Attr) → texts_apart (map attr_texts attrs) ≡ are_apart attrs
texts_distinct [] = refl
texts_distinct (a ∷ others) =
    ap (λ (b : Bool). not b && texts_apart (map attr_texts others)) (any_texts a others) ∙ ap (λ (b : Bool). not (list_any (λ (other : Attr). has_name (attr_in a) (attr_in other)) others) && b) (texts_distinct others)

pub set_distinct : (keys : List Key) (attrs : List Attr) (count : ℕ) → map key_texts keys ≡ map attr_texts attrs → count ≡ distinct_count (eq_by_cmp key_cmp) keys → nat_eq count (length attrs) ≡ are_distinct (attrs_in attrs)
set_distinct keys attrs count same counted =
    ap (λ (k : ℕ). nat_eq k (length attrs)) counted
    ∙ ap (λ (k : ℕ). nat_eq (distinct_count (eq_by_cmp key_cmp) keys) k) (sym (length-map attrs attr_texts) ∙ sym (ap length same) ∙ length-map keys key_texts)
    ∙ count_distinct keys ∙ ap texts_apart same ∙ texts_distinct attrs ∙ apart_distinct attrs
