-- How far a path has led.
use Rattle.std.proofs.Common.{◌≡◌, ◌∙◌, ℕ, zero, suc, ◌+◌, ◌-◌, ◌<◌, ◌≤◌, List, [], ◌∷◌, ◌++◌, length, take, drop, refl, sym, ap, subst, arith, Some, None, slice_range, slice_get, slice_index_or}
use Rattle.std.proofs.lemmas.List.{drop_more, drop_all, take_all}
use Rattle.xt_spec.specs.Tree.{Items, nil, Item, source_text}
use Rattle.xt_spec.specs.Paths.{item_in, item_at, replaced_in, replaced}
use Rattle.xt_spec.proofs.Theorems.{item_under, replaced_under, item_in-first, item_in-behind}
use Rattle.xt_lex.specs.declared.token.Span.{Span}
use Rattle.xt_tree.specs.declared.source.Src.{Src, out-Src}
use Rattle.xt_tree.specs.declared.source.Src.TheOpen.{Src-F}
use Rattle.xt_tree.specs.declared.source.Src.TheFolds.{map-Src, fold_out-Src}
use Rattle.xt_tree.specs.Meaning.{item_step, item_of, items_in}
use Rattle.xt_tree.specs.Places.{marks_in, marks_of, AreInPlace}
use Rattle.xt_tree.specs.Spans.{kids_at, kids_of, Stands, IsItemAt, IsItemSpan}
use Rattle.xt_tree.proofs.ItemPlaces.{Within, within-within, item_among, kids_in_place, in_order, range_from_start, range_to_end, text_in_place}

-- ---- which item it is

pub item_in-some : (bytes : List ℕ) (items : List Src) (index : ℕ) (item : Src) (path : List ℕ) → slice_get items index ≡ Some item → item_in (items_in bytes items) index path ≡ item_under (item_of bytes item) path
item_in-some bytes [] index item path is = absurd cc
item_in-some bytes (first ∷ items) zero item path is =
    let same : first ≡ item = cc in
    item_in-first (item_of bytes first) (items_in bytes items) path ∙ ap (λ i. item_under (item_of bytes i) path) same
item_in-some bytes (first ∷ items) (suc index) item path is = item_in-behind (item_of bytes first) (items_in bytes items) index path ∙ item_in-some bytes items index item path is

pub item_in-none : (bytes : List ℕ) (items : List Src) (index : ℕ) (path : List ℕ) → slice_get items index ≡ None → item_in (items_in bytes items) index path ≡ None
item_in-none bytes [] index path is = refl
item_in-none bytes (first ∷ items) zero path is = absurd cc
item_in-none bytes (first ∷ items) (suc index) path is = item_in-behind (item_of bytes first) (items_in bytes items) index path ∙ item_in-none bytes items index path is

layer_under : (bytes : List ℕ) (y : Src-F Src) (index : ℕ) (path : List ℕ) → item_under (item_step bytes (map-Src Src Item (item_of bytes) y)) (index ∷ path) ≡ item_in (items_in bytes (kids_at y)) index path
layer_under bytes (Src-F.Elem tail head kids) index path = refl
layer_under bytes (Src-F.Text span) index path = refl
layer_under bytes (Src-F.Ref span) index path = refl
layer_under bytes (Src-F.Comment span) index path = refl
layer_under bytes (Src-F.Pi span) index path = refl
layer_under bytes (Src-F.Gap span) index path = refl

under_kids : (bytes : List ℕ) (item : Src) (index : ℕ) (path : List ℕ) → item_under (item_of bytes item) (index ∷ path) ≡ item_in (items_in bytes (kids_of item)) index path
under_kids bytes item index path = ap (λ i. item_under i (index ∷ path)) (fold_out-Src Item (item_step bytes) item) ∙ layer_under bytes (out-Src item) index path

-- the first of what is left of a path
next_left : (rest : List ℕ) (i index : ℕ) → i < length rest → index ≡ slice_index_or rest i 0 → drop i rest ≡ index ∷ drop (i + 1) rest
next_left rest i index within is = drop_more rest i 0 within ∙ ap (λ n. n ∷ drop (i + 1) rest) (sym is)

-- a path is its first index and the rest
pub first_of_path : (path : List ℕ) → 1 ≤ length path → path ≡ slice_index_or path 0 0 ∷ take (length path - 1) (drop 1 path)
first_of_path [] one = absurd (omega (arith, one))
first_of_path (index ∷ rest) one = let n : length rest ≤ suc (length rest) - 1 = omega arith in ap (λ l. index ∷ l) (sym (take_all (suc (length rest) - 1) rest n))

pub leads_in : (bytes : List ℕ) (items : List Src) (path : List ℕ) (item : Src) → 1 ≤ length path → slice_get items (slice_index_or path 0 0) ≡ Some item
    → item_at (items_in bytes items) path ≡ item_under (item_of bytes item) (take (length path - 1) (drop 1 path))
leads_in bytes items path item one found =
    ap (item_at (items_in bytes items)) (first_of_path path one) ∙ item_in-some bytes items (slice_index_or path 0 0) item (take (length path - 1) (drop 1 path)) found

pub leads_out : (bytes : List ℕ) (items : List Src) (path : List ℕ) → 1 ≤ length path → slice_get items (slice_index_or path 0 0) ≡ None → item_at (items_in bytes items) path ≡ None
leads_out bytes items path one none =
    ap (item_at (items_in bytes items)) (first_of_path path one) ∙ item_in-none bytes items (slice_index_or path 0 0) (take (length path - 1) (drop 1 path)) none

pub leads_on : (bytes : List ℕ) (items : List Src) (path rest : List ℕ) (i index : ℕ) (item kid : Src) (kids : List Src) → i < length rest → index ≡ slice_index_or rest i 0 → kids ≡ kids_of item → slice_get kids index ≡ Some kid
    → item_at (items_in bytes items) path ≡ item_under (item_of bytes item) (drop i rest) → item_at (items_in bytes items) path ≡ item_under (item_of bytes kid) (drop (i + 1) rest)
leads_on bytes items path rest i index item kid kids within is kids_are found so_far =
    so_far ∙ ap (item_under (item_of bytes item)) (next_left rest i index within is) ∙ under_kids bytes item index (drop (i + 1) rest)
    ∙ ap (λ k. item_in (items_in bytes k) index (drop (i + 1) rest)) (sym kids_are) ∙ item_in-some bytes kids index kid (drop (i + 1) rest) found

pub leads_nowhere : (bytes : List ℕ) (items : List Src) (path rest : List ℕ) (i index : ℕ) (item : Src) (kids : List Src) → i < length rest → index ≡ slice_index_or rest i 0 → kids ≡ kids_of item → slice_get kids index ≡ None
    → item_at (items_in bytes items) path ≡ item_under (item_of bytes item) (drop i rest) → item_at (items_in bytes items) path ≡ None
leads_nowhere bytes items path rest i index item kids within is kids_are none so_far =
    so_far ∙ ap (item_under (item_of bytes item)) (next_left rest i index within is) ∙ under_kids bytes item index (drop (i + 1) rest)
    ∙ ap (λ k. item_in (items_in bytes k) index (drop (i + 1) rest)) (sym kids_are) ∙ item_in-none bytes kids index (drop (i + 1) rest) none

pub leads_to : (bytes : List ℕ) (items : List Src) (path rest : List ℕ) (i : ℕ) (item : Src) → length rest ≤ i
    → item_at (items_in bytes items) path ≡ item_under (item_of bytes item) (drop i rest) → item_at (items_in bytes items) path ≡ Some (item_of bytes item)
leads_to bytes items path rest i item past so_far = so_far ∙ ap (item_under (item_of bytes item)) (drop_all i rest past)

-- ---- where it stands

-- the path has led to this item in its place, and the rest of it is left
pub record Walks (bytes : List ℕ) (items : List Src) (path : List ℕ) (item : Src) (left : List ℕ) : Type 0 where
  pub from : ℕ
  pub to : ℕ
  pub marks : AreInPlace bytes from (marks_in item) to
  pub within : (others : Items) → Within bytes 0 (length bytes) from to (replaced (items_in bytes items) path others) (replaced_under (item_of bytes item) left others)

walks_first : (bytes : List ℕ) (items : List Src) (index : ℕ) (rest : List ℕ) (item : Src) → slice_get items index ≡ Some item → AreInPlace bytes 0 (marks_of items) (length bytes) → Walks bytes items (index ∷ rest) item rest
walks_first bytes items index rest item is place =
    let here = item_among bytes items index item 0 (length bytes) place is in
    record { from = here.at; to = here.end_at; marks = here.marks; within = λ others. here.within rest others }

pub walks_in : (bytes : List ℕ) (items : List Src) (path : List ℕ) (item : Src) → 1 ≤ length path → slice_get items (slice_index_or path 0 0) ≡ Some item → AreInPlace bytes 0 (marks_of items) (length bytes) → Walks bytes items path item (take (length path - 1) (drop 1 path))
walks_in bytes items path item one found place =
    subst (λ p. Walks bytes items p item (take (length path - 1) (drop 1 path))) (sym (first_of_path path one)) (walks_first bytes items (slice_index_or path 0 0) (take (length path - 1) (drop 1 path)) item found place)

walks_down : (bytes : List ℕ) (items : List Src) (path left : List ℕ) (index : ℕ) (item kid : Src) → slice_get (kids_of item) index ≡ Some kid → Walks bytes items path item (index ∷ left) → Walks bytes items path kid left
walks_down bytes items path left index item kid is so_far =
    let held = kids_in_place bytes item so_far.from so_far.to so_far.marks in
    let here = item_among bytes (kids_of item) index kid held.at held.end_at held.marks is in
    let order = in_order bytes here.at (marks_in kid) here.end_at here.marks in
    record {
      from = here.at;
      to = here.end_at;
      marks = here.marks;
      within = λ others.
          let inner = within-within bytes so_far.from so_far.to held.at held.end_at here.at here.end_at (replaced_under (item_of bytes item) (index ∷ left) others) (replaced_in (items_in bytes (kids_of item)) index left others) (replaced_under (item_of bytes kid) left others)
          (held.within index left others) (here.within left others) order in
          within-within bytes 0 (length bytes) so_far.from so_far.to here.at here.end_at (replaced (items_in bytes items) path others) (replaced_under (item_of bytes item) (index ∷ left) others) (replaced_under (item_of bytes kid) left others)
          (so_far.within others) inner order;
    }

pub walks_on : (bytes : List ℕ) (items : List Src) (path rest : List ℕ) (i index : ℕ) (item kid : Src) (kids : List Src) → i < length rest → index ≡ slice_index_or rest i 0 → kids ≡ kids_of item → slice_get kids index ≡ Some kid
    → Walks bytes items path item (drop i rest) → Walks bytes items path kid (drop (i + 1) rest)
walks_on bytes items path rest i index item kid kids within is kids_are found so_far =
    walks_down bytes items path (drop (i + 1) rest) index item kid (subst (λ k. slice_get k index ≡ Some kid) kids_are found)
    (subst (Walks bytes items path item) (next_left rest i index within is) so_far)

walks_all : (bytes : List ℕ) (items : List Src) (path : List ℕ) (item : Src) → Walks bytes items path item [] → IsItemAt bytes items path item
walks_all bytes items path item walked = record {
  from = walked.from;
  to = walked.to;
  marks = walked.marks;
  stands = record {
    order = in_order bytes walked.from (marks_in item) walked.to walked.marks;
    within = (walked.within nil).within;
    replaced = λ others. (walked.within others).text ∙ ap (λ t. t ++ source_text others ++ slice_range bytes walked.to (length bytes)) (range_from_start bytes walked.from) ∙ ap (λ t. take walked.from bytes ++ source_text others ++ t) (range_to_end bytes walked.to);
  };
}

pub walks_to : (bytes : List ℕ) (items : List Src) (path rest : List ℕ) (i : ℕ) (item : Src) → length rest ≤ i → Walks bytes items path item (drop i rest) → IsItemAt bytes items path item
walks_to bytes items path rest i item past so_far = walks_all bytes items path item (subst (Walks bytes items path item) (drop_all i rest past) so_far)

-- the span of an item in its place
pub span_of_item : (bytes : List ℕ) (items : List Src) (path : List ℕ) (item : Src) (span : Span) → IsItemAt bytes items path item → item_at (items_in bytes items) path ≡ Some (item_of bytes item)
    → ((from to : ℕ) → AreInPlace bytes from (marks_in item) to → (span.from ≡ from) × (span.to ≡ to)) → IsItemSpan bytes (items_in bytes items) path span
span_of_item bytes items path item span at found spans =
    let (from, to) = spans at.from at.to at.marks in
    record {
      item = item_of bytes item;
      found = found;
      text = ap (λ n. slice_range bytes n span.to) from ∙ ap (slice_range bytes at.from) to ∙ sym (text_in_place bytes item at.from at.to at.marks);
      stands = subst (λ n. Stands bytes (items_in bytes items) path n span.to) (sym from) (subst (Stands bytes (items_in bytes items) path at.from) (sym to) at.stands);
    }
