-- Items are tested for content, one by one.
use Rattle.std.proofs.Common.{◌≡◌, ◌∙◌, ℕ, ◌≤◌, List, [], ◌∷◌, ◌++◌, length, refl, sym, ap, subst, Bool, true, false, arith, IsTrue, ◌↔◌, Option, Some, None, option_map, inl, inr, suc, codes, not}
use Rattle.std.specs.List.{AllByRecursion}
use Rattle.xt_spec.specs.Tag.{Attribute, Tag, tag_text}
use Rattle.xt_spec.specs.Tree.{Items, nil, element, leaf, before, LeafKind, Item, element_item, leaf_item, text_item, reference_item, comment_item, pi_item, gap}
use Rattle.xt_spec.specs.Reading.{IsElement, IsContent, Stage, before_doctype, before_root, behind_root, Leads, tag_ending, IsMarked, IsDeclared, document, IsReading}
use Rattle.xt_spec.specs.Declaration.{is_xml_declaration}
use Rattle.xt_spec.specs.Markup.{IsComment, IsPi, begins}
use Rattle.xt_spec.specs.Namespace.{NamedValue}
use Rattle.xt_spec.specs.Text.{IsTextItem}
use Rattle.xt_spec.specs.Content.{nothing_given, element_content, text_content, typed, HaveValues}
use Rattle.xt_lex.specs.Place.{EndsTag}
use Rattle.xt_lex.specs.declared.token.Span.{Span}
use Rattle.xt_lex.proofs.Theorems.{tag_unique}
use Rattle.xt_tree.specs.declared.source.Tag.{Tag as TagSrc}
use Rattle.xt_tree.specs.declared.source.Src.{Src}
use Rattle.xt_tree.specs.declared.source.Src.TheVariants as src
use Rattle.xt_tree.specs.declared.source.Src.TheOpen.{Src-F}
use Rattle.xt_tree.specs.declared.source.Src.TheFolds.{fold-roll-Src}
use Rattle.xt_tree.specs.Meaning.{at_span, item_step, item_of, items_in}
use Rattle.xt_tree.specs.Places.{Mark, tag_mark, span_mark, AreInPlace, IsTagAt, ending, marks_in, marks_of, tail_marks}
use Rattle.xt_tree.proofs.Theorems.{in_place-split}
use Rattle.xt_read.proofs.Marks.{element_marks}
use Rattle.xt_read.proofs.LeafContent.{text_content_of, comment_content_of, pi_content_of}
use Rattle.xt_read.specs.ContentTest.{HasValue, AreSpelled, ArePlaced, GiveContent}

-- ---- the items of a reading are spelled

content_spelled : (level : ℕ) (list : Items) → IsContent level list → AreSpelled list
content_spelled level nil is = tt
content_spelled level (element o k c rest) is = (is.0.element, content_spelled (suc level) k is.1, content_spelled level rest is.2)
content_spelled level (leaf text_item t rest) is = (is.0, content_spelled level rest is.2)
content_spelled level (leaf reference_item t rest) is = content_spelled level rest is.2
content_spelled level (leaf gap t rest) is = absurd is
content_spelled level (leaf comment_item t rest) is = (is.0, content_spelled level rest is.1)
content_spelled level (leaf pi_item t rest) is = (is.0, content_spelled level rest is.1)

top_spelled : (stage last : Stage) (list : Items) → Leads stage list last → AreSpelled list
top_spelled stage last nil is = tt
top_spelled stage last (element o k c rest) is = (is.1.element, content_spelled 1 k is.2, top_spelled behind_root last rest is.3)
top_spelled stage last (leaf gap t rest) (inl is) = top_spelled before_root last rest is.2
top_spelled stage last (leaf gap t rest) (inr is) = top_spelled stage last rest is.2
top_spelled stage last (leaf comment_item t rest) is = (is.0, top_spelled stage last rest is.1)
top_spelled stage last (leaf pi_item t rest) is = (is.0, top_spelled stage last rest is.1)
top_spelled stage last (leaf text_item t rest) is = absurd is
top_spelled stage last (leaf reference_item t rest) is = absurd is

declared_spelled : (items : Items) → IsDeclared is_xml_declaration (λ main. Leads before_doctype main behind_root) items → AreSpelled items
declared_spelled items (inl (text, rest, is, declares, main)) = subst AreSpelled (sym is) (top_spelled before_doctype behind_root rest main)
declared_spelled items (inr main) = top_spelled before_doctype behind_root items main

marked_spelled : (items : Items) → IsMarked (IsDeclared is_xml_declaration (λ main. Leads before_doctype main behind_root)) items → AreSpelled items
marked_spelled items (inl (rest, is, main)) = subst AreSpelled (sym is) (declared_spelled rest main)
marked_spelled items (inr (none, main)) = declared_spelled items main

pub reading_spelled : (bytes : List ℕ) (items : Items) → IsReading document bytes items → AreSpelled items
reading_spelled bytes items is = marked_spelled items is.ordered

-- ---- an element

ends_source : (empty : Bool) → EndsTag (ending empty)
ends_source true = inr refl
ends_source false = inl refl

ends_close : (c : Option (List ℕ)) → EndsTag (tag_ending c)
ends_close None = inr refl
ends_close (Some t) = inl refl

-- the values of the attributes, one behind the other
values_of : (attributes : List Attribute) → AllByRecursion HasValue attributes → (values : List NamedValue) × HaveValues attributes values
values_of [] all = ([], refl)
values_of (a ∷ others) ((value, has), all) =
    let (more, have) = values_of others all in
    (record { name = a.name; value = typed a.name value } ∷ more, (value, more, has, have, refl))

values_all : (attributes : List Attribute) (values : List NamedValue) → HaveValues attributes values → AllByRecursion HasValue attributes
values_all [] values have = tt
values_all (a ∷ others) values (value, more, has, have, e) = ((value, has), values_all others more have)

-- an element gives content exactly where the attributes of its tag have values and what it holds gives content
pub element_content_is : (text : List ℕ) (source : TagSrc) (k : Items) (c : Option (List ℕ)) → (at : IsTagAt text source.span.from source) → IsElement (at_span text source.span) k c
    → ((AllByRecursion HasValue at.tag.attributes × GiveContent k) ↔ GiveContent (element (at_span text source.span) k c nil))
element_content_is text source k c at el = (forth, back)
  where
    forth : AllByRecursion HasValue at.tag.attributes × GiveContent k → GiveContent (element (at_span text source.span) k c nil)
    forth (all, (inner, holds)) =
        let same = tag_unique at.tag el.tag (ending source.empty) (tag_ending c) (ends_source source.empty) (ends_close c) at.parts el.parts (sym at.spelled ∙ el.spelled) in
        let (values, have) = values_of at.tag.attributes all in
        (element_content at.tag.name values inner nothing_given, (at.tag, values, inner, nothing_given, at.parts, at.spelled ∙ ap (tag_text at.tag) same.1, have, holds, refl, refl))

    back : GiveContent (element (at_span text source.span) k c nil) → AllByRecursion HasValue at.tag.attributes × GiveContent k
    back (content, (tag, values, inner, others, parts, spelled, have, holds, rest, is)) =
        let same = tag_unique tag at.tag (tag_ending c) (ending source.empty) (ends_close c) (ends_source source.empty) parts at.parts (sym spelled ∙ at.spelled) in
        (subst (λ (t : Tag). AllByRecursion HasValue t.attributes) same.0 (values_all tag.attributes values have), (inner, holds))

marks_after : (text : List ℕ) (marks : List Mark) (from to : ℕ) → AreInPlace text from marks to → from ≤ to
marks_after text [] from to place = omega (arith, place)
marks_after text (tag_mark t ∷ marks) from to place = omega (arith, place.0.whole.1, marks_after text marks t.span.to to place.1)
marks_after text (span_mark s ∷ marks) from to place = omega (arith, place.1, marks_after text marks s.to to place.2)

pub element_placed : (text : List ℕ) (item : Src) (head : TagSrc) (kids slice : List Src) (tail : Option Span) → item ≡ src.Elem tail head kids → slice ≡ kids → ArePlaced text (marks_in item) → IsTagAt text head.span.from head × (head.span.to ≤ length text) × ArePlaced text (marks_of slice)
element_placed text item head kids slice tail is same placed =
    let marks = ap marks_in is ∙ element_marks head kids tail in
    let here : AreInPlace text placed.from (tag_mark head ∷ marks_of kids ++ tail_marks tail) placed.to = subst (λ m. AreInPlace text placed.from m placed.to) marks placed.placed in
    let (mid, first, last) = in_place-split text head.span.to placed.to (marks_of kids) (tail_marks tail) here.1 in
    let end = tail_after tail mid placed.to last in
    let start = marks_after text (marks_of kids) head.span.to mid first in
    let at : IsTagAt text head.span.from head = subst (λ n. IsTagAt text n head) (sym here.0.whole.0) here.0 in (
      at,
      omega (arith, end, start, placed.within),
      record { from = head.span.to; to = mid; placed = subst (λ k. AreInPlace text head.span.to (marks_of k) mid) (sym same) first; within = omega (arith, end, placed.within) },
    )
  where
    tail_after : (tail : Option Span) (from to : ℕ) → AreInPlace text from (tail_marks tail) to → from ≤ to
    tail_after None from to place = omega (arith, place)
    tail_after (Some s) from to place = omega (arith, place.1, place.2)

-- ---- the items one by one

-- what is left of the items, and what is known of them
pub record ItemsLeft (text : List ℕ) (items : List Src) (all : Items) : Type 0 where
  pub placed : ArePlaced text (marks_of items)
  pub spelled : AreSpelled (items_in text items)
  pub forth : GiveContent all → GiveContent (items_in text items)
  pub back : GiveContent (items_in text items) → GiveContent all

spelled_before : (item : Item) (rest : Items) → AreSpelled (before item rest) → AreSpelled (before item nil) × AreSpelled rest
spelled_before (element_item o k c) rest h = ((h.0, h.1, tt), h.2)
spelled_before (leaf_item text_item t) rest h = ((h.0, tt), h.1)
spelled_before (leaf_item reference_item t) rest h = (tt, h)
spelled_before (leaf_item comment_item t) rest h = ((h.0, tt), h.1)
spelled_before (leaf_item pi_item t) rest h = ((h.0, tt), h.1)
spelled_before (leaf_item gap t) rest h = (tt, h)

-- an item and what stands behind it give content exactly where each does
content_before : (item : Item) (rest : Items) → GiveContent (before item rest) → GiveContent (before item nil) × GiveContent rest
content_before (element_item o k c) rest (content, (tag, values, inner, others, parts, spelled, have, holds, behind, is)) =
    ((element_content tag.name values inner nothing_given, (tag, values, inner, nothing_given, parts, spelled, have, holds, refl, refl)), (others, behind))
content_before (leaf_item text_item t) rest (content, (value, others, has, behind, is)) = ((text_content value nothing_given, (value, nothing_given, has, refl, refl)), (others, behind))
content_before (leaf_item comment_item t) rest (content, (inner, others, has, behind, is)) = ((_, (inner, nothing_given, has, refl, refl)), (others, behind))
content_before (leaf_item pi_item t) rest (content, (target, inner, others, has, behind, is)) = ((_, (target, inner, nothing_given, has, refl, refl)), (others, behind))
content_before (leaf_item gap t) rest (content, (none, behind)) = ((nothing_given, (none, refl)), (content, behind))
content_before (leaf_item reference_item t) rest (content, never) = absurd never

content_both : (item : Item) (rest : Items) → GiveContent (before item nil) → GiveContent rest → GiveContent (before item rest)
content_both (element_item o k c) rest (content, (tag, values, inner, none, parts, spelled, have, holds, end, is)) (others, behind) =
    (element_content tag.name values inner others, (tag, values, inner, others, parts, spelled, have, holds, behind, refl))
content_both (leaf_item text_item t) rest (content, (value, none, has, end, is)) (others, behind) = (text_content value others, (value, others, has, behind, refl))
content_both (leaf_item comment_item t) rest (content, (inner, none, has, end, is)) (others, behind) = (_, (inner, others, has, behind, refl))
content_both (leaf_item pi_item t) rest (content, (target, inner, none, has, end, is)) (others, behind) = (_, (target, inner, others, has, behind, refl))
content_both (leaf_item gap t) rest (content, (none, end)) (others, behind) = (others, (none, behind))
content_both (leaf_item reference_item t) rest (content, never) others = absurd never

-- the first of items, and the others: where they are, and that they are spelled
pub record FirstPlaced (text : List ℕ) (items : List Src) (item : Src) : Type 0 where
  pub placed : ArePlaced text (marks_in item)
  pub spelled : AreSpelled (before (item_of text item) nil)
  pub placed_others : ArePlaced text (marks_of items)
  pub spelled_others : AreSpelled (items_in text items)

pub first_placed : (text : List ℕ) (items rest : List Src) (item : Src) → items ≡ item ∷ rest → ArePlaced text (marks_of items) → AreSpelled (items_in text items) → FirstPlaced text rest item
first_placed text items rest item is placed spelled = cases (subst (λ (d : List Src). ArePlaced text (marks_of d)) is placed) (subst (λ (d : List Src). AreSpelled (items_in text d)) is spelled)
  where
    cases : ArePlaced text (marks_of (item ∷ rest)) → AreSpelled (items_in text (item ∷ rest)) → FirstPlaced text rest item
    cases p s =
        let (mid, first, others) = in_place-split text p.from p.to (marks_in item) (marks_of rest) p.placed in
        let end = marks_after text (marks_of rest) mid p.to others in
        let both = spelled_before (item_of text item) (items_in text rest) s in
        record {
          placed = record { from = p.from; to = mid; placed = first; within = omega (arith, end, p.within) };
          spelled = both.0;
          placed_others = record { from = mid; to = p.to; placed = others; within = p.within };
          spelled_others = both.1;
        }

-- the first of what is left, and the others
pub record FirstItem (text : List ℕ) (items : List Src) (item : Src) (all : Items) : Type 0 where
  pub placed : ArePlaced text (marks_in item)
  pub spelled : AreSpelled (before (item_of text item) nil)
  pub placed_others : ArePlaced text (marks_of items)
  pub spelled_others : AreSpelled (items_in text items)
  pub forth : GiveContent all → GiveContent (before (item_of text item) nil) × GiveContent (items_in text items)
  pub back : GiveContent (before (item_of text item) nil) → GiveContent (items_in text items) → GiveContent all

pub first_item : (text : List ℕ) (items rest : List Src) (item : Src) (all : Items) → items ≡ item ∷ rest → ItemsLeft text items all → FirstItem text rest item all
first_item text items rest item all is l =
    let f = first_placed text items rest item is l.placed l.spelled in
    cases f (subst (λ (d : List Src). ItemsLeft text d all) is l)
  where
    cases : FirstPlaced text rest item → ItemsLeft text (item ∷ rest) all → FirstItem text rest item all
    cases f l = record {
      placed = f.placed;
      spelled = f.spelled;
      placed_others = f.placed_others;
      spelled_others = f.spelled_others;
      forth = λ p. content_before (item_of text item) (items_in text rest) (l.forth p);
      back = λ x y. l.back (content_both (item_of text item) (items_in text rest) x y);
    }

pub items_more : (text : List ℕ) (items : List Src) (item : Src) (all : Items) (has : Bool) → FirstItem text items item all → (IsTrue has ↔ GiveContent (before (item_of text item) nil)) → has ≡ true → ItemsLeft text items all
items_more text items item all has f test is = record { placed = f.placed_others; spelled = f.spelled_others; forth = λ p. (f.forth p).1; back = λ p. f.back (test.0 is) p }

pub items_fail : (text : List ℕ) (items : List Src) (item : Src) (all : Items) (has : Bool) → FirstItem text items item all → (IsTrue has ↔ GiveContent (before (item_of text item) nil)) → has ≡ false → GiveContent all → ⊥
items_fail text items item all has f test is p = let h : has ≡ true = test.1 (f.forth p).0 in absurd (cc)

pub items_done : (text : List ℕ) (items : List Src) (all : Items) → items ≡ [] → ItemsLeft text items all → GiveContent all
items_done text items all none l = (subst (λ (d : List Src). ItemsLeft text d all) none l).back (nothing_given, refl)

-- ---- each kind of item

item_element : (bytes : List ℕ) (head : TagSrc) (kids : List Src) (tail : Option Span) → item_of bytes (src.Elem tail head kids) ≡ element_item (at_span bytes head.span) (items_in bytes kids) (option_map (at_span bytes) tail)
item_element bytes head kids tail = ap (item_of bytes) (sym (src.rolls-Elem tail head kids)) ∙ fold-roll-Src Item (item_step bytes) (Src-F.Elem tail head kids)

abbrev ElementOf : List ℕ → TagSrc → List Src → Option Span → Items
ElementOf text head kids tail = element (at_span text head.span) (items_in text kids) (option_map (at_span text) tail) nil

element_shape : (text : List ℕ) (item : Src) (head : TagSrc) (kids slice : List Src) (tail : Option Span) → item ≡ src.Elem tail head kids → slice ≡ kids → before (item_of text item) nil ≡ ElementOf text head slice tail
element_shape text item head kids slice tail is same =
    ap (λ i. before (item_of text i) nil) is ∙ ap (λ i. before i nil) (item_element text head kids tail) ∙ ap (λ k. ElementOf text head k tail) (sym same)

pub element_spelled : (text : List ℕ) (item : Src) (head : TagSrc) (kids slice : List Src) (tail : Option Span) → item ≡ src.Elem tail head kids → slice ≡ kids → AreSpelled (before (item_of text item) nil) → AreSpelled (items_in text slice)
element_spelled text item head kids slice tail is same spelled =
    let here : AreSpelled (ElementOf text head slice tail) = subst AreSpelled (element_shape text item head kids slice tail is same) spelled in here.1

element_is : (text : List ℕ) (item : Src) (head : TagSrc) (kids slice : List Src) (tail : Option Span) → item ≡ src.Elem tail head kids → slice ≡ kids → AreSpelled (before (item_of text item) nil) → (at : IsTagAt text head.span.from head)
    → ((AllByRecursion HasValue at.tag.attributes × GiveContent (items_in text slice)) ↔ GiveContent (before (item_of text item) nil))
element_is text item head kids slice tail is same spelled at =
    let shape = element_shape text item head kids slice tail is same in
    let here : AreSpelled (ElementOf text head slice tail) = subst AreSpelled shape spelled in
    subst (λ i. (AllByRecursion HasValue at.tag.attributes × GiveContent (items_in text slice)) ↔ GiveContent i) (sym shape) (element_content_is text head (items_in text slice) (option_map (at_span text) tail) at here.0)

-- where the attributes have values, an element gives content exactly where what it holds does
pub element_tested : (text : List ℕ) (item : Src) (head : TagSrc) (kids slice : List Src) (tail : Option Span) (values inner : Bool) → item ≡ src.Elem tail head kids → slice ≡ kids → AreSpelled (before (item_of text item) nil) → (at : IsTagAt text head.span.from head)
    → (IsTrue values ↔ AllByRecursion HasValue at.tag.attributes) → values ≡ true → (IsTrue inner ↔ GiveContent (items_in text slice)) → (IsTrue inner ↔ GiveContent (before (item_of text item) nil))
element_tested text item head kids slice tail values inner is same spelled at test holds inner_test =
    let both = element_is text item head kids slice tail is same spelled at in
    ((λ i. both.0 (test.0 holds, inner_test.0 i)), (λ c. inner_test.1 (both.1 c).1))

-- .. and where one has none, it gives none
pub element_fails : (text : List ℕ) (item : Src) (head : TagSrc) (kids : List Src) (tail : Option Span) (values : Bool) → item ≡ src.Elem tail head kids → AreSpelled (before (item_of text item) nil) → (at : IsTagAt text head.span.from head)
    → (IsTrue values ↔ AllByRecursion HasValue at.tag.attributes) → values ≡ false → GiveContent (before (item_of text item) nil) → ⊥
element_fails text item head kids tail values is spelled at test fails content =
    let both = element_is text item head kids kids tail is refl spelled at in
    let never : values ≡ true = test.1 (both.1 content).0 in absurd (cc)

-- what gives content always
always : (items : Items) → GiveContent items → (IsTrue true ↔ GiveContent items)
always items gives = ((λ t. gives), (λ g. refl))

leaf_shape : (text t : List ℕ) (kind : LeafKind) (item : Src) → item_of text item ≡ leaf_item kind t → before (item_of text item) nil ≡ leaf kind t nil
leaf_shape text t kind item is = ap (λ i. before i nil) is

text_shape : (text : List ℕ) (item : Src) (span : Span) → item ≡ src.Text span → before (item_of text item) nil ≡ leaf text_item (at_span text span) nil
text_shape text item span is = leaf_shape text (at_span text span) text_item item (ap (item_of text) (is ∙ sym (src.rolls-Text span)) ∙ fold-roll-Src Item (item_step text) (Src-F.Text span))

comment_shape : (text : List ℕ) (item : Src) (span : Span) → item ≡ src.Comment span → before (item_of text item) nil ≡ leaf comment_item (at_span text span) nil
comment_shape text item span is = leaf_shape text (at_span text span) comment_item item (ap (item_of text) (is ∙ sym (src.rolls-Comment span)) ∙ fold-roll-Src Item (item_step text) (Src-F.Comment span))

pi_shape : (text : List ℕ) (item : Src) (span : Span) → item ≡ src.Pi span → before (item_of text item) nil ≡ leaf pi_item (at_span text span) nil
pi_shape text item span is = leaf_shape text (at_span text span) pi_item item (ap (item_of text) (is ∙ sym (src.rolls-Pi span)) ∙ fold-roll-Src Item (item_step text) (Src-F.Pi span))

pub text_spelled : (text : List ℕ) (item : Src) (span : Span) → item ≡ src.Text span → AreSpelled (before (item_of text item) nil) → IsTextItem (at_span text span)
text_spelled text item span is spelled =
    let here : AreSpelled (leaf text_item (at_span text span) nil) = subst AreSpelled (text_shape text item span is) spelled in here.0

pub comment_spelled : (text : List ℕ) (item : Src) (span : Span) → item ≡ src.Comment span → AreSpelled (before (item_of text item) nil) → IsComment (at_span text span)
comment_spelled text item span is spelled =
    let here : AreSpelled (leaf comment_item (at_span text span) nil) = subst AreSpelled (comment_shape text item span is) spelled in here.0

pub pi_spelled : (text : List ℕ) (item : Src) (span : Span) → item ≡ src.Pi span → AreSpelled (before (item_of text item) nil) → IsPi (at_span text span)
pi_spelled text item span is spelled =
    let here : AreSpelled (leaf pi_item (at_span text span) nil) = subst AreSpelled (pi_shape text item span is) spelled in here.0

pub text_gives : (text : List ℕ) (item : Src) (span : Span) → item ≡ src.Text span → AreSpelled (before (item_of text item) nil) → (IsTrue true ↔ GiveContent (before (item_of text item) nil))
text_gives text item span is spelled =
    subst (λ i. IsTrue true ↔ GiveContent i) (sym (text_shape text item span is)) (always (leaf text_item (at_span text span) nil) (text_content_of (at_span text span) (text_spelled text item span is spelled)))

pub comment_gives : (text : List ℕ) (item : Src) (span : Span) → item ≡ src.Comment span → AreSpelled (before (item_of text item) nil) → (IsTrue true ↔ GiveContent (before (item_of text item) nil))
comment_gives text item span is spelled =
    subst (λ i. IsTrue true ↔ GiveContent i) (sym (comment_shape text item span is)) (always (leaf comment_item (at_span text span) nil) (comment_content_of (at_span text span) (comment_spelled text item span is spelled)))

pub pi_gives : (text : List ℕ) (item : Src) (span : Span) → item ≡ src.Pi span → AreSpelled (before (item_of text item) nil) → (IsTrue true ↔ GiveContent (before (item_of text item) nil))
pi_gives text item span is spelled =
    subst (λ i. IsTrue true ↔ GiveContent i) (sym (pi_shape text item span is)) (always (leaf pi_item (at_span text span) nil) (pi_content_of (at_span text span) (pi_spelled text item span is spelled)))

reference_shape : (text : List ℕ) (item : Src) (span : Span) → item ≡ src.Ref span → before (item_of text item) nil ≡ leaf reference_item (at_span text span) nil
reference_shape text item span is = leaf_shape text (at_span text span) reference_item item (ap (item_of text) (is ∙ sym (src.rolls-Ref span)) ∙ fold-roll-Src Item (item_step text) (Src-F.Ref span))

gap_shape : (text : List ℕ) (item : Src) (span : Span) → item ≡ src.Gap span → before (item_of text item) nil ≡ leaf gap (at_span text span) nil
gap_shape text item span is = leaf_shape text (at_span text span) gap item (ap (item_of text) (is ∙ sym (src.rolls-Gap span)) ∙ fold-roll-Src Item (item_step text) (Src-F.Gap span))

never : (t : List ℕ) → GiveContent (leaf reference_item t nil) → ⊥
never t (content, has) = has

pub reference_gives : (text : List ℕ) (item : Src) (span : Span) → item ≡ src.Ref span → (IsTrue false ↔ GiveContent (before (item_of text item) nil))
reference_gives text item span is =
    subst (λ i. IsTrue false ↔ GiveContent i) (sym (reference_shape text item span is)) ((λ no. absurd (cc)), λ gives. absurd (never (at_span text span) gives))

gap_test : (t : List ℕ) (doctype : Bool) → doctype ≡ begins (codes "<!DOCTYPE") t → (IsTrue (not doctype) ↔ GiveContent (leaf gap t nil))
gap_test t true is = ((λ no. absurd (cc)), λ gives. let other : true ≡ false = is ∙ gives.1.0 in absurd (cc))
gap_test t false is = ((λ yes. (nothing_given, (sym is, refl))), λ gives. refl)

pub gap_gives : (text gap_text : List ℕ) (item : Src) (span : Span) (doctype : Bool) → item ≡ src.Gap span → gap_text ≡ at_span text span → doctype ≡ begins (codes "<!DOCTYPE") gap_text → (IsTrue (not doctype) ↔ GiveContent (before (item_of text item) nil))
gap_gives text gap_text item span doctype is same test =
    subst (λ i. IsTrue (not doctype) ↔ GiveContent i) (sym (gap_shape text item span is)) (gap_test (at_span text span) doctype (test ∙ ap (begins (codes "<!DOCTYPE")) same))
