-- Names of attributes by their spans.
use Rattle.std.proofs.Common.{arith, ◌≡◌, ◌∙◌, sym, ◌≤◌, ℕ, Bool, true, false, cond, nat_eq, length, List, [], ◌∷◌, map, Bor, Ordering, refl, ap, bytes_eq, not, ◌&&◌, ◌||◌}
use Rattle.std.proofs.lemmas.List.{length-map}
use Rattle.std.proofs.lemmas.Map.Made.{distinct_count-le}
use Rattle.std.proofs.lemmas.Map.Text.{is_eq-slice_cmp}
use Rattle.std.specs.Cmp.Lexicographic.{slice_cmp}
use Rattle.std.specs.Ordering.{nat_cmp, eq_by_cmp}
use Rattle.std.specs.Set.{is_member, unique_keys, distinct_count}
use Rattle.std.specs.List.{list_any}
use Rattle.xt_lex.specs.declared.attribute.AttrSrc.{AttrSrc}
use Rattle.xt_spec.specs.Reading.{are_distinct}
use Rattle.xt_tree.specs.Meaning.{at_span}
use Rattle.xt_read.specs.Progress.{names_at, are_apart}

any_name : (bytes name : List ℕ) (attrs : List AttrSrc) → list_any (λ other. bytes_eq name (at_span bytes other.name)) attrs ≡ list_any (λ other. bytes_eq name other) (names_at bytes attrs)
any_name bytes name [] = refl
any_name bytes name (a ∷ others) = ap (λ b. bytes_eq name (at_span bytes a.name) || b) (any_name bytes name others)

pub apart_distinct : (bytes : List ℕ) (attrs : List AttrSrc) → are_apart bytes attrs ≡ are_distinct (names_at bytes attrs)
apart_distinct bytes [] = refl
apart_distinct bytes (a ∷ others) =
    ap (λ b. not b && are_apart bytes others) (any_name bytes (at_span bytes a.name) others)
    ∙ ap (λ b. not (list_any (λ other. bytes_eq (at_span bytes a.name) other) (names_at bytes others)) && b) (apart_distinct bytes others)

-- names behind references, in the order of a set's keys
abbrev pub name_cmp : Bor (List ℕ) → Bor (List ℕ) → Ordering
name_cmp a b = slice_cmp nat_cmp a.now b.now

is_member_name : (name : Bor (List ℕ)) (names : List (Bor (List ℕ))) → is_member (eq_by_cmp name_cmp) names name ≡ list_any (λ other. bytes_eq name.now other) (map (λ n. n.now) names)
is_member_name name [] = refl
is_member_name name (n ∷ names) =
    ap (λ b. b || is_member (eq_by_cmp name_cmp) names name) (is_eq-slice_cmp name.now n.now)
    ∙ ap (λ b. bytes_eq name.now n.now || b) (is_member_name name names)

count_step : (again : Bool) (u names : List (Bor (List ℕ))) (n : Bor (List ℕ)) (d : Bool) → length u ≤ length names → nat_eq (length u) (length names) ≡ d → nat_eq (length (cond again u (n ∷ u))) (length (n ∷ names)) ≡ (not again && d)
count_step true u names n d le e = grind (arith)
count_step false u names n true le e = grind (arith)
count_step false u names n false le e = grind (arith)

-- as many different names as names: no two are one
pub count_distinct : (names : List (Bor (List ℕ))) → nat_eq (distinct_count (eq_by_cmp name_cmp) names) (length names) ≡ are_distinct (map (λ n. n.now) names)
count_distinct [] = refl
count_distinct (n ∷ names) =
    count_step (is_member (eq_by_cmp name_cmp) names n) (unique_keys (eq_by_cmp name_cmp) names) names n _ (distinct_count-le (eq_by_cmp name_cmp) names) (count_distinct names)
    ∙ ap (λ b. not b && are_distinct (map (λ n. n.now) names)) (is_member_name n names)

pub set_distinct : (names : List (Bor (List ℕ))) (bytes : List ℕ) (attrs : List AttrSrc) (count : ℕ) → map (λ n. n.now) names ≡ names_at bytes attrs → count ≡ distinct_count (eq_by_cmp name_cmp) names → nat_eq count (length attrs) ≡ are_distinct (names_at bytes attrs)
set_distinct names bytes attrs count same counted =
    ap (λ k. nat_eq k (length attrs)) counted
    ∙ ap (λ k. nat_eq (distinct_count (eq_by_cmp name_cmp) names) k) (sym (length-map attrs (λ a. at_span bytes a.name)) ∙ sym (ap length same) ∙ length-map names (λ n. n.now))
    ∙ count_distinct names
    ∙ ap are_distinct same
