-- The two laws: what is read is spelled so, and what is spelled so is read.
use Rattle.std.proofs.Common.{◌≡◌, ℕ, zero, suc, ◌^◌, ◌≤◌, Bool, true, false, ◌&&◌, cond, leb, eqb, List, [], ◌∷◌, ◌++◌, length, Option, Some, None, refl, sym, ap, subst, ◌∙◌, append_assoc, arith}
use Rattle.std.specs.Prelude.{IfSome, nat_eq}
use Rattle.std.specs.List.{flat_map, AllByRecursion}
use Rattle.std.specs.Int.{w16, w32, to_be_bytes}
use Rattle.std.specs.Cmp.Lexicographic.{pointwise, bytes_decides}
use Rattle.std.proofs.lemmas.Bool.{eqb-true, leb-true, le-leb}
use Rattle.std.proofs.lemmas.List.{append-nil, nil_from_length}
use Rattle.std.proofs.lemmas.List.Concat.{flat_map-cons}
use Rattle.xt_spec.specs.Limit.{most_file_bytes, most_saved_files}
use Rattle.bk_name.specs.FileName.{is_file_name}
use Rattle.jr_form.specs.declared.item.Item.{Item}
use Rattle.jr_form.specs.Journal.{most_journal_bytes, mark, name_field, entry, spelling, comes_after, Ascend, Fits, IsJournal}
use Rattle.jr_form.specs.Reading.{◌>>=◌, bytes_at, number_at, name_at, file_at, item_at, items_at, mark_at, reading}
use Rattle.jr_form.proofs.Fields.{IsBytes, bind_some, guard, some_is, Takes, Takes-then, wide16, wide32, number_takes, number_again, bytes_take, bytes_again}

-- ---- names and files

name_takes : (bytes name rest : List ℕ) → IsBytes bytes → name_at bytes ≡ Some (name, rest) → Takes bytes (name_field name) rest × (is_file_name name ≡ true)
unfolding name_at
name_takes bytes name rest fits e =
    let a = bind_some (number_at w16 bytes) (λ n. bytes_at n.0 n.1 >>= λ name. cond (is_file_name name.0) (Some name) None) (name, rest) e in
    let b = bind_some (bytes_at a.0.0 a.0.1) (λ name. cond (is_file_name name.0) (Some name) None) (name, rest) a.2 in
    let g = guard (is_file_name b.0.0) (Some b.0) (name, rest) b.2 in
    let t0 = number_takes w16 (2 ^ 16) wide16 bytes a.0.0 a.0.1 fits a.1 in
    let t1 = bytes_take a.0.0 a.0.1 b.0.0 b.0.1 t0.0.rest_fits b.1 in
    let both = Takes-then bytes (to_be_bytes w16 a.0.0) a.0.1 b.0.0 b.0.1 t0.0 t1.0 in
    let whole : Takes bytes (name_field b.0.0) b.0.1 = subst (λ (k : ℕ). Takes bytes (to_be_bytes w16 k ++ b.0.0) b.0.1) (sym t1.1) both in
    subst (λ (p : List ℕ × List ℕ). Takes bytes (name_field p.0) p.1 × (is_file_name p.0 ≡ true)) (some_is b.0 (name, rest) g.1) (whole, g.0)

-- both parts of a test that holds
pub both_hold : (a b : Bool) → (a && b) ≡ true → (a ≡ true) × (b ≡ true)
both_hold true b e = (refl, e)
both_hold false b e = absurd cc

pub length-name : (name : List ℕ) → is_file_name name ≡ true → length name ≤ 255
unfolding is_file_name
length-name name is =
    let first = (both_hold _ _ is).0 in
    leb-true _ _ (both_hold _ _ first).1

name_again : (name rest : List ℕ) → is_file_name name ≡ true → name_at (name_field name ++ rest) ≡ Some (name, rest)
unfolding name_at
name_again name rest is = ap name_at (append_assoc (to_be_bytes w16 (length name)) name rest) ∙ rw (number_again w16 (2 ^ 16) wide16 (length name) (name ++ rest) (omega (arith, length-name name is)), bytes_again name rest, is) refl

abbrev file_field : List ℕ → List ℕ
file_field file = to_be_bytes w32 (length file) ++ file

file_takes : (bytes file rest : List ℕ) → IsBytes bytes → file_at bytes ≡ Some (file, rest) → Takes bytes (file_field file) rest × (length file ≤ most_file_bytes)
unfolding file_at
file_takes bytes file rest fits e =
    let a = bind_some (number_at w32 bytes) (λ n. cond (leb n.0 most_file_bytes) (bytes_at n.0 n.1) None) (file, rest) e in
    let g = guard (leb a.0.0 most_file_bytes) (bytes_at a.0.0 a.0.1) (file, rest) a.2 in
    let small : a.0.0 ≤ most_file_bytes = leb-true _ _ g.0 in
    let t0 = number_takes w32 (2 ^ 32) wide32 bytes a.0.0 a.0.1 fits a.1 in
    let t1 = bytes_take a.0.0 a.0.1 file rest t0.0.rest_fits g.1 in
    let both = Takes-then bytes (to_be_bytes w32 a.0.0) a.0.1 file rest t0.0 t1.0 in
    (subst (λ (k : ℕ). Takes bytes (to_be_bytes w32 k ++ file) rest) (sym t1.1) both, omega (arith, small, t1.1))

file_again : (file rest : List ℕ) → length file ≤ most_file_bytes → file_at (file_field file ++ rest) ≡ Some (file, rest)
unfolding file_at
file_again file rest le = ap file_at (append_assoc (to_be_bytes w32 (length file)) file rest) ∙ rw (number_again w32 (2 ^ 32) wide32 (length file) (file ++ rest) (omega (arith, le)), le-leb _ _ le, bytes_again file rest) refl

-- ---- items

IsBytes-rest : (b : ℕ) (bytes : List ℕ) → IsBytes (b ∷ bytes) → IsBytes bytes
IsBytes-rest b bytes h i = h (suc i)

behind : (b : ℕ) (bytes text rest : List ℕ) → Takes bytes text rest → Takes (b ∷ bytes) (b ∷ text) rest
behind b bytes text rest t = record { parts = ap (λ (l : List ℕ). b ∷ l) t.parts; rest_fits = t.rest_fits }

item_takes : (bytes : List ℕ) (x : Item × List ℕ) → IsBytes bytes → item_at bytes ≡ Some x → Takes bytes (entry x.0) x.1 × Fits x.0
unfolding item_at
item_takes [] x fits e = absurd cc
item_takes (zero ∷ bytes) x fits e =
    let a = bind_some (name_at bytes) (λ name. Some (record { name = name.0; bytes = None }, name.1)) x e in
    let t = name_takes bytes a.0.0 a.0.1 (IsBytes-rest 0 bytes fits) a.1 in
    let made : Item × List ℕ = (record { name = a.0.0; bytes = None }, a.0.1) in
    let first = behind 0 bytes (name_field a.0.0) a.0.1 t.0 in
    let whole : Takes (0 ∷ bytes) (entry made.0) made.1 = subst (λ (l : List ℕ). Takes (0 ∷ bytes) l a.0.1) (sym (append-nil (0 ∷ name_field a.0.0))) first in
    subst (λ (y : Item × List ℕ). Takes (0 ∷ bytes) (entry y.0) y.1 × Fits y.0) (some_is made x a.2) (whole, record { name = t.1; bytes = tt })
item_takes (suc zero ∷ bytes) x fits e =
    let a = bind_some (name_at bytes) (λ name. file_at name.1 >>= λ file. Some (record { name = name.0; bytes = Some file.0 }, file.1)) x e in
    let b = bind_some (file_at a.0.1) (λ file. Some (record { name = a.0.0; bytes = Some file.0 }, file.1)) x a.2 in
    let t0 = name_takes bytes a.0.0 a.0.1 (IsBytes-rest 1 bytes fits) a.1 in
    let t1 = file_takes a.0.1 b.0.0 b.0.1 t0.0.rest_fits b.1 in
    let made : Item × List ℕ = (record { name = a.0.0; bytes = Some b.0.0 }, b.0.1) in
    let whole : Takes (1 ∷ bytes) (entry made.0) made.1 = behind 1 bytes (name_field a.0.0 ++ file_field b.0.0) b.0.1 (Takes-then bytes (name_field a.0.0) a.0.1 (file_field b.0.0) b.0.1 t0.0 t1.0) in
    subst (λ (y : Item × List ℕ). Takes (1 ∷ bytes) (entry y.0) y.1 × Fits y.0) (some_is made x b.2) (whole, record { name = t0.1; bytes = t1.1 })
item_takes (suc (suc b) ∷ bytes) x fits e = absurd cc

item_again : (name : List ℕ) (file : Option (List ℕ)) (rest : List ℕ) → is_file_name name ≡ true → IfSome file (λ bytes. length bytes ≤ most_file_bytes) → item_at (entry (record { name = name; bytes = file }) ++ rest) ≡ Some (record { name = name; bytes = file }, rest)
unfolding item_at
item_again name None rest is fits =
    let regrouped : ((0 ∷ name_field name) ++ []) ++ rest ≡ 0 ∷ (name_field name ++ rest) = ap (λ (l : List ℕ). l ++ rest) (append-nil (0 ∷ name_field name)) in
    ap item_at regrouped ∙ rw (name_again name rest is) refl
item_again name (Some bytes) rest is fits =
    let regrouped : ((1 ∷ name_field name) ++ file_field bytes) ++ rest ≡ 1 ∷ (name_field name ++ (file_field bytes ++ rest)) = append_assoc (1 ∷ name_field name) (file_field bytes) rest in
    ap item_at regrouped ∙ rw (name_again name (file_field bytes ++ rest) is, file_again bytes rest fits) refl

items_take : (n : ℕ) (before : Option (List ℕ)) (bytes : List ℕ) (x : List Item × List ℕ) → IsBytes bytes → items_at n before bytes ≡ Some x → Takes bytes (flat_map entry x.0) x.1 × (length x.0 ≡ n) × AllByRecursion Fits x.0 × Ascend before x.0
unfolding items_at
items_take zero before bytes x fits e =
    subst (λ (y : List Item × List ℕ). Takes bytes (flat_map entry y.0) y.1 × (length y.0 ≡ 0) × AllByRecursion Fits y.0 × Ascend before y.0) (some_is ([], bytes) x e) (record { parts = refl; rest_fits = fits }, refl, tt, tt)
items_take (suc n) before bytes x fits e =
    let a = bind_some (item_at bytes) (λ first. cond (comes_after before first.0.name) (items_at n (Some first.0.name) first.1 >>= λ others. Some (first.0 ∷ others.0, others.1)) None) x e in
    let g = guard (comes_after before a.0.0.name) (items_at n (Some a.0.0.name) a.0.1 >>= λ others. Some (a.0.0 ∷ others.0, others.1)) x a.2 in
    let b = bind_some (items_at n (Some a.0.0.name) a.0.1) (λ others. Some (a.0.0 ∷ others.0, others.1)) x g.1 in
    let first = item_takes bytes a.0 fits a.1 in
    let second = items_take n (Some a.0.0.name) a.0.1 b.0 first.0.rest_fits b.1 in
    let both = Takes-then bytes (entry a.0.0) a.0.1 (flat_map entry b.0.0) b.0.1 first.0 second.0 in
    let made : List Item × List ℕ = (a.0.0 ∷ b.0.0, b.0.1) in
    subst (λ (y : List Item × List ℕ). Takes bytes (flat_map entry y.0) y.1 × (length y.0 ≡ suc n) × AllByRecursion Fits y.0 × Ascend before y.0) (some_is made x b.2) (rw flat_map-cons both, ap suc second.1, (first.1, second.2), (g.0, second.3))

items_again : (items : List Item) (before : Option (List ℕ)) (rest : List ℕ) → AllByRecursion Fits items → Ascend before items → items_at (length items) before (flat_map entry items ++ rest) ≡ Some (items, rest)
unfolding items_at
items_again [] before rest fits ascend = refl
items_again (item ∷ items) before rest fits ascend =
    let regrouped : flat_map entry (item ∷ items) ++ rest ≡ entry item ++ (flat_map entry items ++ rest) = ap (λ (x : List ℕ). x ++ rest) (flat_map-cons entry item items) ∙ append_assoc (entry item) (flat_map entry items) rest in
    ap (items_at (suc (length items)) before) regrouped ∙ rw (item_again item.name item.bytes (flat_map entry items ++ rest) fits.0.name fits.0.bytes, ascend.0, items_again items (Some item.name) rest fits.1 ascend.1) refl

-- ---- the whole

mark_takes : (bytes front rest : List ℕ) → IsBytes bytes → mark_at bytes ≡ Some (front, rest) → Takes bytes mark rest
unfolding mark_at
mark_takes bytes front rest fits e =
    let a = bind_some (bytes_at 8 bytes) (λ front. cond (pointwise nat_eq front.0 mark) (Some front) None) (front, rest) e in
    let g = guard (pointwise nat_eq a.0.0 mark) (Some a.0) (front, rest) a.2 in
    let t = bytes_take 8 bytes a.0.0 a.0.1 fits a.1 in
    let is : a.0.0 ≡ mark = (bytes_decides a.0.0 mark).0 g.0 in
    let rest_is : a.0.1 ≡ rest = ap (λ (p : List ℕ × List ℕ). p.1) (some_is a.0 (front, rest) g.1) in
    subst (λ (l : List ℕ). Takes bytes mark l) rest_is (subst (λ (l : List ℕ). Takes bytes l a.0.1) is t.0)

mark_again : (rest : List ℕ) → mark_at (mark ++ rest) ≡ Some (mark, rest)
unfolding mark_at
mark_again rest = rw (bytes_again mark rest) refl

pub reading_takes : (bytes : List ℕ) (items : List Item) → IsBytes bytes → reading bytes ≡ Some items → IsJournal items bytes
unfolding reading
reading_takes bytes items fits e =
    let g = guard (leb (length bytes) most_journal_bytes) (mark_at bytes >>= λ front. number_at w32 front.1 >>= λ n. cond (leb 1 n.0 && leb n.0 most_saved_files) (items_at n.0 None n.1 >>= λ items. cond (eqb (length items.1) 0) (Some items.0) None) None) items e in
    let a = bind_some (mark_at bytes) (λ front. number_at w32 front.1 >>= λ n. cond (leb 1 n.0 && leb n.0 most_saved_files) (items_at n.0 None n.1 >>= λ items. cond (eqb (length items.1) 0) (Some items.0) None) None) items g.1 in
    let b = bind_some (number_at w32 a.0.1) (λ n. cond (leb 1 n.0 && leb n.0 most_saved_files) (items_at n.0 None n.1 >>= λ items. cond (eqb (length items.1) 0) (Some items.0) None) None) items a.2 in
    let h = guard (leb 1 b.0.0 && leb b.0.0 most_saved_files) (items_at b.0.0 None b.0.1 >>= λ items. cond (eqb (length items.1) 0) (Some items.0) None) items b.2 in
    let d = bind_some (items_at b.0.0 None b.0.1) (λ items. cond (eqb (length items.1) 0) (Some items.0) None) items h.1 in
    let k = guard (eqb (length d.0.1) 0) (Some d.0.0) items d.2 in
    let range = both_hold _ _ h.0 in
    let low : 1 ≤ b.0.0 = leb-true _ _ range.0 in
    let high : b.0.0 ≤ most_saved_files = leb-true _ _ range.1 in
    let t0 = mark_takes bytes a.0.0 a.0.1 fits a.1 in
    let t1 = number_takes w32 (2 ^ 32) wide32 a.0.1 b.0.0 b.0.1 t0.rest_fits b.1 in
    let t2 = items_take b.0.0 None b.0.1 d.0 t1.0.rest_fits d.1 in
    let nothing : d.0.1 ≡ [] = nil_from_length d.0.1 (eqb-true _ _ k.0) in
    let both = (Takes-then bytes (mark ++ to_be_bytes w32 b.0.0) b.0.1 (flat_map entry d.0.0) d.0.1 (Takes-then bytes mark a.0.1 (to_be_bytes w32 b.0.0) b.0.1 t0 t1.0) t2.0).parts in
    let whole : bytes ≡ spelling d.0.0 = both ∙ ap (λ (r : List ℕ). ((mark ++ to_be_bytes w32 b.0.0) ++ flat_map entry d.0.0) ++ r) nothing ∙ append-nil ((mark ++ to_be_bytes w32 b.0.0) ++ flat_map entry d.0.0) ∙ ap (λ (n : ℕ). (mark ++ to_be_bytes w32 n) ++ flat_map entry d.0.0) (sym t2.1) in
    let cap : length bytes ≤ most_journal_bytes = leb-true _ _ g.0 in
    subst (λ (v : List Item). IsJournal v bytes) (some_is d.0.0 items k.1) record {
      items_fit = record { some = omega (arith, low, t2.1); count = omega (arith, high, t2.1); fit = t2.2; ascend = t2.3 };
      spelled = whole;
      cap = cap;
    }

pub reading_again : (items : List Item) (bytes : List ℕ) → IsJournal items bytes → reading bytes ≡ Some items
unfolding reading
reading_again items bytes is =
    let fit = is.items_fit in
    let rest : items_at (length items) None (flat_map entry items) ≡ Some (items, []) = ap (items_at (length items) None) (sym (append-nil (flat_map entry items))) ∙ items_again items None [] fit.fit fit.ascend in
    let regrouped : bytes ≡ mark ++ (to_be_bytes w32 (length items) ++ flat_map entry items) = is.spelled ∙ append_assoc mark (to_be_bytes w32 (length items)) (flat_map entry items) in
    let marked : mark_at bytes ≡ Some (mark, to_be_bytes w32 (length items) ++ flat_map entry items) = ap mark_at regrouped ∙ mark_again (to_be_bytes w32 (length items) ++ flat_map entry items) in
    rw (le-leb _ _ is.cap, marked, number_again w32 (2 ^ 32) wide32 (length items) (flat_map entry items) (omega (arith, fit.count)), le-leb _ _ fit.some, le-leb _ _ fit.count, rest) refl
