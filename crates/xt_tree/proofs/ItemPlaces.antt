-- Where an item of a list stands in the bytes, and what stands round it.
use Rattle.std.proofs.Common.{◌≡◌, ◌∙◌, ℕ, zero, suc, ◌+◌, ◌-◌, ◌≤◌, List, [], ◌∷◌, ◌++◌, length, take, drop, map, refl, sym, ap, subst, arith, append_assoc, append-nil, Option, Some, None, option_map, slice_range, slice_get}
use Rattle.std.proofs.lemmas.List.{drop-drop, length-drop, take_all}
use Rattle.std.proofs.Math.Seq.{take-add}
use Rattle.xt_spec.specs.Tree.{Items, nil, Item, element_item, leaf_item, LeafKind, text_item, reference_item, comment_item, pi_item, gap, before, source_text, close_text}
use Rattle.xt_spec.specs.Paths.{replaced_in}
use Rattle.xt_spec.proofs.Theorems.{replaced_under, replaced_in-first, replaced_in-behind, source_text-append, source_text-before, item_text}
use Rattle.xt_lex.specs.declared.token.Span.{Span}
use Rattle.xt_tree.specs.declared.source.Tag.{Tag}
use Rattle.xt_tree.specs.declared.source.Src.{Src, out-Src}
use Rattle.xt_tree.specs.declared.source.Src.TheVariants as src
use Rattle.xt_tree.specs.declared.source.Src.TheOpen.{Src-F}
use Rattle.xt_tree.specs.declared.source.Src.TheFolds.{map-Src, fold-roll-Src, fold_out-Src, ind-Src}
use Rattle.xt_tree.specs.Meaning.{at_span, item_step, item_of, items_in}
use Rattle.xt_tree.specs.Places.{Mark, tag_mark, span_mark, tail_marks, mark_step, marks_in, marks_of, AreInPlace}
use Rattle.xt_tree.specs.Spans.{kids_at, kids_of, IsClosed}
use Rattle.xt_tree.proofs.PlaceLemmas.{in_place-split}

-- ---- bytes from one place to another

pub joined_range : (bytes : List ℕ) (a b c : ℕ) → a ≤ b → b ≤ c → slice_range bytes a b ++ slice_range bytes b c ≡ slice_range bytes a c
joined_range bytes a b c first second =
    let n : (b - a) + (c - b) ≡ c - a = omega (arith, first, second) in
    let at : a + (b - a) ≡ b = omega (arith, first) in
    ap (λ r. slice_range bytes a b ++ take (c - b) r) (ap (λ n. drop n bytes) (sym at) ∙ sym (drop-drop (b - a) a bytes))
    ∙ sym (take-add (b - a) (c - b) (drop a bytes)) ∙ ap (λ n. take n (drop a bytes)) n

pub empty_range : (bytes : List ℕ) (a : ℕ) → slice_range bytes a a ≡ []
empty_range bytes a = let n : a - a ≡ 0 = omega arith in ap (λ n. take n (drop a bytes)) n

pub range_from_start : (bytes : List ℕ) (a : ℕ) → slice_range bytes 0 a ≡ take a bytes
range_from_start bytes a = let n : a - 0 ≡ a = omega arith in ap (λ n. take n bytes) n

pub range_to_end : (bytes : List ℕ) (a : ℕ) → slice_range bytes a (length bytes) ≡ drop a bytes
range_to_end bytes a = take_all (length bytes - a) (drop a bytes) (omega (arith, length-drop a bytes))

-- ---- what an element is

pub element_marks : (head : Tag) (kids : List Src) (tail : Option Span) → marks_in (src.Elem tail head kids) ≡ tag_mark head ∷ marks_of kids ++ tail_marks tail
element_marks head kids tail = ap marks_in (sym (src.rolls-Elem tail head kids)) ∙ fold-roll-Src (List Mark) mark_step (Src-F.Elem tail head kids)

pub element_is : (bytes : List ℕ) (head : Tag) (kids : List Src) (tail : Option Span) → item_of bytes (src.Elem tail head kids) ≡ element_item (at_span bytes head.span) (items_in bytes kids) (option_map (at_span bytes) tail)
element_is bytes head kids tail = ap (item_of bytes) (sym (src.rolls-Elem tail head kids)) ∙ fold-roll-Src Item (item_step bytes) (Src-F.Elem tail head kids)

pub in_order : (bytes : List ℕ) (from : ℕ) (marks : List Mark) (to : ℕ) → AreInPlace bytes from marks to → from ≤ to
in_order bytes from [] to is = omega (arith, is)
in_order bytes from (tag_mark tag ∷ marks) to is = omega (arith, is.0.whole.0, is.0.whole.1, in_order bytes tag.span.to marks to is.1)
in_order bytes from (span_mark span ∷ marks) to is = omega (arith, is.1, in_order bytes span.to marks to is.2)

-- ---- the text of an item is what stands at its place

abbrev HasItsText : List ℕ → Src → Type 0
HasItsText bytes item = (from to : ℕ) → AreInPlace bytes from (marks_in item) to → item_text (item_of bytes item) ≡ slice_range bytes from to

kids_have_text : (bytes : List ℕ) (kids : List ((s : Src) × HasItsText bytes s)) (from to : ℕ) → AreInPlace bytes from (marks_of (map (λ e. e.0) kids)) to → source_text (items_in bytes (map (λ e. e.0) kids)) ≡ slice_range bytes from to
kids_have_text bytes [] from to is = sym (empty_range bytes from) ∙ ap (slice_range bytes from) is
kids_have_text bytes (kid ∷ kids) from to is =
    let (mid, first, others) = in_place-split bytes from to (marks_in kid.0) (marks_of (map (λ e. e.0) kids)) is in
    source_text-before (item_of bytes kid.0) (items_in bytes (map (λ e. e.0) kids))
    ∙ ap (λ t. t ++ source_text (items_in bytes (map (λ e. e.0) kids))) (kid.1 from mid first)
    ∙ ap (λ t. slice_range bytes from mid ++ t) (kids_have_text bytes kids mid to others)
    ∙ joined_range bytes from mid to (in_order bytes from (marks_in kid.0) mid first) (in_order bytes mid (marks_of (map (λ e. e.0) kids)) to others)

tail_has_text : (bytes : List ℕ) (tail : Option Span) (from to : ℕ) → AreInPlace bytes from (tail_marks tail) to → close_text (option_map (at_span bytes) tail) ≡ slice_range bytes from to
tail_has_text bytes None from to is = sym (empty_range bytes from) ∙ ap (slice_range bytes from) is
tail_has_text bytes (Some span) from to is = ap (λ n. slice_range bytes n span.to) is.0 ∙ ap (slice_range bytes from) is.2

three_ranges : (bytes : List ℕ) (a b c d : ℕ) (x y z : List ℕ) → a ≤ b → b ≤ c → c ≤ d → x ≡ slice_range bytes a b → y ≡ slice_range bytes b c → z ≡ slice_range bytes c d → x ++ y ++ z ++ [] ≡ slice_range bytes a d
three_ranges bytes a b c d x y z ab bc cd x_is y_is z_is =
    append-nil (x ++ y ++ z) ∙ ap (λ t. t ++ y ++ z) x_is ∙ ap (λ t. slice_range bytes a b ++ t ++ z) y_is ∙ ap (λ t. slice_range bytes a b ++ slice_range bytes b c ++ t) z_is
    ∙ ap (λ t. t ++ slice_range bytes c d) (joined_range bytes a b c ab bc) ∙ joined_range bytes a c d (omega (arith, ab, bc)) cd

leaf_text : (bytes : List ℕ) (span : Span) (from to : ℕ) → AreInPlace bytes from (span_mark span ∷ []) to → at_span bytes span ++ [] ≡ slice_range bytes from to
leaf_text bytes span from to is = append-nil (at_span bytes span) ∙ ap (λ n. slice_range bytes n span.to) is.0 ∙ ap (slice_range bytes from) is.2

layer_text : (bytes : List ℕ) (y : Src-F ((s : Src) × HasItsText bytes s)) (from to : ℕ)
    → AreInPlace bytes from (mark_step (map-Src Src (List Mark) marks_in (map-Src ((s : Src) × HasItsText bytes s) Src (λ e. e.0) y))) to
    → item_text (item_step bytes (map-Src Src Item (item_of bytes) (map-Src ((s : Src) × HasItsText bytes s) Src (λ e. e.0) y))) ≡ slice_range bytes from to
layer_text bytes (Src-F.Elem tail head kids) from to is =
    let (mid, inside, behind) = in_place-split bytes head.span.to to (marks_of (map (λ e. e.0) kids)) (tail_marks tail) is.1 in
    let head_from : at_span bytes head.span ≡ slice_range bytes from head.span.to = ap (λ n. slice_range bytes n head.span.to) is.0.whole.0 in
    three_ranges bytes from head.span.to mid to (at_span bytes head.span) (source_text (items_in bytes (map (λ e. e.0) kids))) (close_text (option_map (at_span bytes) tail))
    (omega (arith, is.0.whole.0, is.0.whole.1)) (in_order bytes head.span.to (marks_of (map (λ e. e.0) kids)) mid inside) (in_order bytes mid (tail_marks tail) to behind)
    head_from (kids_have_text bytes kids head.span.to mid inside) (tail_has_text bytes tail mid to behind)
layer_text bytes (Src-F.Text span) from to is = leaf_text bytes span from to is
layer_text bytes (Src-F.Ref span) from to is = leaf_text bytes span from to is
layer_text bytes (Src-F.Comment span) from to is = leaf_text bytes span from to is
layer_text bytes (Src-F.Pi span) from to is = leaf_text bytes span from to is
layer_text bytes (Src-F.Gap span) from to is = leaf_text bytes span from to is

pub text_in_place : (bytes : List ℕ) (item : Src) (from to : ℕ) → AreInPlace bytes from (marks_in item) to → item_text (item_of bytes item) ≡ slice_range bytes from to
text_in_place bytes = ind-Src (HasItsText bytes) (λ x y same from to is.
    let layer = subst (λ z. AreInPlace bytes from (mark_step (map-Src Src (List Mark) marks_in z)) to → item_text (item_step bytes (map-Src Src Item (item_of bytes) z)) ≡ slice_range bytes from to) same (layer_text bytes y from to) in
    ap item_text (fold-roll-Src Item (item_step bytes) x) ∙ layer (subst (λ m. AreInPlace bytes from m to) (fold-roll-Src (List Mark) mark_step x) is))

pub texts_in_place : (bytes : List ℕ) (items : List Src) (from to : ℕ) → AreInPlace bytes from (marks_of items) to → source_text (items_in bytes items) ≡ slice_range bytes from to
texts_in_place bytes [] from to is = sym (empty_range bytes from) ∙ ap (slice_range bytes from) is
texts_in_place bytes (item ∷ items) from to is =
    let (mid, first, others) = in_place-split bytes from to (marks_in item) (marks_of items) is in
    source_text-before (item_of bytes item) (items_in bytes items)
    ∙ ap (λ t. t ++ source_text (items_in bytes items)) (text_in_place bytes item from mid first)
    ∙ ap (λ t. slice_range bytes from mid ++ t) (texts_in_place bytes items mid to others)
    ∙ joined_range bytes from mid to (in_order bytes from (marks_in item) mid first) (in_order bytes mid (marks_of items) to others)

-- ---- the whole span of an element

pub span_to_tail : (bytes : List ℕ) (item : Src) (head : Tag) (kids : List Src) (tail : Option Span) (span : Span) (from to : ℕ) → item ≡ src.Elem tail head kids → tail ≡ Some span
    → AreInPlace bytes from (marks_in item) to → (head.span.from ≡ from) × (span.to ≡ to)
span_to_tail bytes item head kids tail span from to is ends place =
    let marks : marks_in item ≡ tag_mark head ∷ marks_of kids ++ tail_marks (Some span) = ap marks_in is ∙ element_marks head kids tail ∙ ap (λ t. tag_mark head ∷ marks_of kids ++ tail_marks t) ends in
    let at = subst (λ m. AreInPlace bytes from m to) marks place in
    let (mid, inside, behind) = in_place-split bytes head.span.to to (marks_of kids) (tail_marks (Some span)) at.1 in
    (at.0.whole.0, behind.2)

before-not_nil : (item : Item) (rest : Items) → before item rest ≡ nil → ⊥
before-not_nil (element_item open_tag kids close) rest is = absurd cc
before-not_nil (leaf_item kind text) rest is = absurd cc

no_items : (bytes : List ℕ) (items : List Src) → items_in bytes items ≡ nil → items ≡ []
no_items bytes [] is = refl
no_items bytes (item ∷ items) is = absurd (before-not_nil (item_of bytes item) (items_in bytes items) is)

pub span_of_tag : (bytes : List ℕ) (item : Src) (head : Tag) (kids : List Src) (tail : Option Span) (from to : ℕ) → item ≡ src.Elem tail head kids → tail ≡ None
    → AreInPlace bytes from (marks_in item) to → IsClosed (item_of bytes item) → (head.span.from ≡ from) × (head.span.to ≡ to)
span_of_tag bytes item head kids tail from to is ends place closed =
    let item_is : item_of bytes item ≡ element_item (at_span bytes head.span) (items_in bytes kids) None = ap (item_of bytes) is ∙ element_is bytes head kids tail ∙ ap (λ t. element_item (at_span bytes head.span) (items_in bytes kids) (option_map (at_span bytes) t)) ends in
    let none : kids ≡ [] = no_items bytes kids (subst IsClosed item_is closed) in
    let marks : marks_in item ≡ tag_mark head ∷ [] = ap marks_in is ∙ element_marks head kids tail ∙ ap (λ t. tag_mark head ∷ marks_of kids ++ tail_marks t) ends ∙ ap (λ k. tag_mark head ∷ marks_of k ++ []) none in
    let at = subst (λ m. AreInPlace bytes from m to) marks place in
    (at.0.whole.0, at.1)

-- ---- an item among others, and those that an item holds

-- what stands within some bytes, and what is then within that
pub record Within (bytes : List ℕ) (from to a b : ℕ) (whole inner : Items) : Type 0 where
  pub order : from ≤ a
  pub within : b ≤ to
  pub text : source_text whole ≡ slice_range bytes from a ++ source_text inner ++ slice_range bytes b to

regroup : (a b x c d : List ℕ) → a ++ (b ++ x ++ c) ++ d ≡ (a ++ b) ++ x ++ (c ++ d)
regroup a b x c d = simp append_assoc

pub within-within : (bytes : List ℕ) (from to a b c d : ℕ) (whole middle inner : Items) → Within bytes from to a b whole middle → Within bytes a b c d middle inner → c ≤ d → Within bytes from to c d whole inner
within-within bytes from to a b c d whole middle inner outside inside order = record {
  order = omega (arith, outside.order, inside.order);
  within = omega (arith, outside.within, inside.within);
  text = outside.text ∙ ap (λ t. slice_range bytes from a ++ t ++ slice_range bytes b to) inside.text
      ∙ regroup (slice_range bytes from a) (slice_range bytes a c) (source_text inner) (slice_range bytes d b) (slice_range bytes b to)
      ∙ ap (λ t. t ++ source_text inner ++ (slice_range bytes d b ++ slice_range bytes b to)) (joined_range bytes from a c outside.order inside.order)
      ∙ ap (λ t. slice_range bytes from c ++ source_text inner ++ t) (joined_range bytes d b to inside.within outside.within);
}

-- the item of an index stands in its place, and so does what is put there
pub record IsAmong (bytes : List ℕ) (items : List Src) (index : ℕ) (item : Src) (from to : ℕ) : Type 0 where
  pub at : ℕ
  pub end_at : ℕ
  pub marks : AreInPlace bytes at (marks_in item) end_at
  pub within : (path : List ℕ) (others : Items) → Within bytes from to at end_at (replaced_in (items_in bytes items) index path others) (replaced_under (item_of bytes item) path others)

pub item_among : (bytes : List ℕ) (items : List Src) (index : ℕ) (item : Src) (from to : ℕ) → AreInPlace bytes from (marks_of items) to → slice_get items index ≡ Some item → IsAmong bytes items index item from to
item_among bytes [] index item from to place is = absurd cc
item_among bytes (first ∷ items) zero item from to place is =
    let (mid, here, others_place) = in_place-split bytes from to (marks_in first) (marks_of items) place in
    let same : first ≡ item = cc in
    subst (λ i. IsAmong bytes (first ∷ items) zero i from to) same (record {
      at = from;
      end_at = mid;
      marks = here;
      within = λ path others. record {
        order = omega arith;
        within = in_order bytes mid (marks_of items) to others_place;
        text = ap source_text (replaced_in-first (item_of bytes first) (items_in bytes items) path others)
            ∙ source_text-append (replaced_under (item_of bytes first) path others) (items_in bytes items)
            ∙ ap (λ t. source_text (replaced_under (item_of bytes first) path others) ++ t) (texts_in_place bytes items mid to others_place)
            ∙ ap (λ t. t ++ source_text (replaced_under (item_of bytes first) path others) ++ slice_range bytes mid to) (sym (empty_range bytes from));
      };
    })
item_among bytes (first ∷ items) (suc index) item from to place is =
    let (mid, here, others_place) = in_place-split bytes from to (marks_in first) (marks_of items) place in
    let more = item_among bytes items index item mid to others_place is in
    record {
      at = more.at;
      end_at = more.end_at;
      marks = more.marks;
      within = λ path others.
          let inner = more.within path others in
          let behind : Within bytes from to mid to (replaced_in (items_in bytes (first ∷ items)) (suc index) path others) (replaced_in (items_in bytes items) index path others) = record {
            order = in_order bytes from (marks_in first) mid here;
            within = omega arith;
            text = ap source_text (replaced_in-behind (item_of bytes first) (items_in bytes items) index path others)
                ∙ source_text-before (item_of bytes first) (replaced_in (items_in bytes items) index path others)
                ∙ ap (λ t. t ++ source_text (replaced_in (items_in bytes items) index path others)) (text_in_place bytes first from mid here)
                ∙ sym (append-nil (slice_range bytes from mid ++ source_text (replaced_in (items_in bytes items) index path others)))
                ∙ ap (λ t. slice_range bytes from mid ++ source_text (replaced_in (items_in bytes items) index path others) ++ t) (sym (empty_range bytes to));
          } in
          within-within bytes from to mid to more.at more.end_at (replaced_in (items_in bytes (first ∷ items)) (suc index) path others) (replaced_in (items_in bytes items) index path others) (replaced_under (item_of bytes item) path others)
          behind inner (in_order bytes more.at (marks_in item) more.end_at more.marks);
    }

-- the items that an item holds stand in its place
pub record AreKids (bytes : List ℕ) (item : Item) (kids : List Src) (from to : ℕ) : Type 0 where
  pub at : ℕ
  pub end_at : ℕ
  pub marks : AreInPlace bytes at (marks_of kids) end_at
  pub within : (index : ℕ) (path : List ℕ) (others : Items) → Within bytes from to at end_at (replaced_under item (index ∷ path) others) (replaced_in (items_in bytes kids) index path others)

leaf_kids : (bytes : List ℕ) (kind : LeafKind) (span : Span) (from to : ℕ) → AreInPlace bytes from (span_mark span ∷ []) to → AreKids bytes (leaf_item kind (at_span bytes span)) [] from to
leaf_kids bytes kind span from to is = record {
  at = from;
  end_at = from;
  marks = refl;
  within = λ index path others. record {
    order = omega arith;
    within = omega (arith, is.1, is.2);
    text = leaf_text bytes span from to is ∙ ap (λ t. t ++ [] ++ slice_range bytes from to) (sym (empty_range bytes from));
  };
}

layer_kids : (bytes : List ℕ) (y : Src-F Src) (from to : ℕ) → AreInPlace bytes from (mark_step (map-Src Src (List Mark) marks_in y)) to → AreKids bytes (item_step bytes (map-Src Src Item (item_of bytes) y)) (kids_at y) from to
layer_kids bytes (Src-F.Elem tail head kids) from to is =
    let (mid, inside, behind) = in_place-split bytes head.span.to to (marks_of kids) (tail_marks tail) is.1 in
    record {
      at = head.span.to;
      end_at = mid;
      marks = inside;
      within = λ index path others. record {
        order = omega (arith, is.0.whole.0, is.0.whole.1);
        within = in_order bytes mid (tail_marks tail) to behind;
        text = append-nil (at_span bytes head.span ++ source_text (replaced_in (items_in bytes kids) index path others) ++ close_text (option_map (at_span bytes) tail))
            ∙ ap (λ n. slice_range bytes n head.span.to ++ source_text (replaced_in (items_in bytes kids) index path others) ++ close_text (option_map (at_span bytes) tail)) is.0.whole.0
            ∙ ap (λ t. slice_range bytes from head.span.to ++ source_text (replaced_in (items_in bytes kids) index path others) ++ t) (tail_has_text bytes tail mid to behind);
      };
    }
layer_kids bytes (Src-F.Text span) from to is = leaf_kids bytes text_item span from to is
layer_kids bytes (Src-F.Ref span) from to is = leaf_kids bytes reference_item span from to is
layer_kids bytes (Src-F.Comment span) from to is = leaf_kids bytes comment_item span from to is
layer_kids bytes (Src-F.Pi span) from to is = leaf_kids bytes pi_item span from to is
layer_kids bytes (Src-F.Gap span) from to is = leaf_kids bytes gap span from to is

pub kids_in_place : (bytes : List ℕ) (item : Src) (from to : ℕ) → AreInPlace bytes from (marks_in item) to → AreKids bytes (item_of bytes item) (kids_of item) from to
kids_in_place bytes item from to is =
    subst (λ i. AreKids bytes i (kids_of item) from to) (sym (fold_out-Src Item (item_step bytes) item))
    (layer_kids bytes (out-Src item) from to (subst (λ m. AreInPlace bytes from m to) (fold_out-Src (List Mark) mark_step item) is))
