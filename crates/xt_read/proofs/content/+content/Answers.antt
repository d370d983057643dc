use Rattle.std.proofs.Common.{arith, refl, ap, ◌∙◌, List, ℕ}
use Rattle.xt_tree.specs.Items.{head_in, item_in}
use Rattle.xt_tree.specs.Meaning.{at_span, items_in}
use Rattle.xt_tree.proofs.Theorems.{kids_fewer, item_fewer}
use Rattle.xt_read.proofs.ItemContent.{first_item, items_more, items_fail, items_done, element_placed, element_spelled, element_tested, element_fails, text_gives, comment_gives, pi_gives, reference_gives, gap_gives}
use Rattle.xt_read.proofs.content.+content.Goals as goal

pub items_have_content-item_has_content-requires : goal.items_have_content-item_has_content-requires
items_have_content-item_has_content-requires t c =
    let f = first_item c.args.text.now c.loop-item.left c.in-Some.rest (item_in c.in-Some.item) (items_in c.args.text.now c.args.items.now) c.in-Some.ensures.value c.loop-item.invariant.left in
    let bound = (item_fewer c.loop-item.left c.in-Some.rest (item_in c.in-Some.item) c.in-Some.ensures.value).0 in
    let fewer = c.loop-item.invariant.fewer in
    let size = c.requires.1.0 in
    (omega (arith, bound, fewer, size), (f.placed, f.spelled))

pub items_have_content-returns-then-not-item_has_content : goal.items_have_content-returns-then-not-item_has_content
items_have_content-returns-then-not-item_has_content t c =
    let f = first_item c.args.text.now c.loop-item.left c.in-Some.rest (item_in c.in-Some.item) (items_in c.args.text.now c.args.items.now) c.in-Some.ensures.value c.loop-item.invariant.left in
    ((λ never. absurd (cc)), λ gives. absurd (items_fail c.args.text.now _ (item_in c.in-Some.item) (items_in c.args.text.now c.args.items.now) c.item_has_content.result f c.item_has_content.ensures c.if-not-item_has_content.true gives))

pub items_have_content-loop-item-preserved : goal.items_have_content-loop-item-preserved
items_have_content-loop-item-preserved t c =
    let f = first_item c.args.text.now c.loop-item.left c.in-Some.rest (item_in c.in-Some.item) (items_in c.args.text.now c.args.items.now) c.in-Some.ensures.value c.loop-item.invariant.left in
    record {
      left = items_more c.args.text.now _ (item_in c.in-Some.item) (items_in c.args.text.now c.args.items.now) c.item_has_content.result f c.item_has_content.ensures c.if-not-item_has_content.false;
      fewer = omega (arith, (item_fewer c.loop-item.left c.in-Some.rest (item_in c.in-Some.item) c.in-Some.ensures.value).1, c.loop-item.invariant.fewer);
    }

pub items_have_content-returns : goal.items_have_content-returns
items_have_content-returns t c =
    ((λ yes. items_done c.args.text.now c.loop-item.left (items_in c.args.text.now c.args.items.now) c.in_default.ensures.value c.loop-item.invariant.left), λ gives. refl)

pub item_has_content-returns-then-not-tag_has_values : goal.item_has_content-returns-then-not-tag_has_values
item_has_content-returns-then-not-tag_has_values t c =
    let e = element_placed c.args.text.now (item_in c.args.item.now) (head_in c.in-Elem.head) c.in-Elem.kids c.in-Elem.kids c.in-Elem.tail (ap item_in c.in-Elem.is) refl c.requires.1.1.0 in
    ((λ never. absurd (cc)), λ gives. absurd (element_fails c.args.text.now (item_in c.args.item.now) (head_in c.in-Elem.head) c.in-Elem.kids c.in-Elem.tail c.tag_has_values.result (ap item_in c.in-Elem.is) c.requires.1.1.1 e.0 (c.tag_has_values.ensures e.0) c.if-not-tag_has_values.true gives))

pub item_has_content-items_have_content-requires : goal.item_has_content-items_have_content-requires
item_has_content-items_have_content-requires t c =
    let size = c.requires.1.0 in
    let fewer = kids_fewer (item_in c.args.item.now) (head_in c.in-Elem.head) c.in-Elem.kids c.in-Elem.tail (ap item_in c.in-Elem.is) in
    let placed = element_placed c.args.text.now (item_in c.args.item.now) (head_in c.in-Elem.head) c.in-Elem.kids c.in-Elem.kids c.in-Elem.tail (ap item_in c.in-Elem.is) refl c.requires.1.1.0 in
    let spelled = element_spelled c.args.text.now (item_in c.args.item.now) (head_in c.in-Elem.head) c.in-Elem.kids c.in-Elem.kids c.in-Elem.tail (ap item_in c.in-Elem.is) refl c.requires.1.1.1 in
    (omega (arith, fewer, size), (placed.2, spelled))

pub item_has_content-returns-else-not-tag_has_values : goal.item_has_content-returns-else-not-tag_has_values
item_has_content-returns-else-not-tag_has_values t c =
    let e = element_placed c.args.text.now (item_in c.args.item.now) (head_in c.in-Elem.head) c.in-Elem.kids c.in-Elem.kids c.in-Elem.tail (ap item_in c.in-Elem.is) refl c.requires.1.1.0 in
    element_tested c.args.text.now (item_in c.args.item.now) (head_in c.in-Elem.head) c.in-Elem.kids c.in-Elem.kids c.in-Elem.tail c.tag_has_values.result c.items_have_content.result (ap item_in c.in-Elem.is) refl c.requires.1.1.1 e.0 (c.tag_has_values.ensures e.0) c.if-not-tag_has_values.false c.items_have_content.ensures

pub item_has_content-returns-in-Text : goal.item_has_content-returns-in-Text
item_has_content-returns-in-Text t c = text_gives c.args.text.now (item_in c.args.item.now) c.in-Text.field-0 (ap item_in c.in-Text.is) c.requires.1.1.1

pub item_has_content-returns-in-Comment : goal.item_has_content-returns-in-Comment
item_has_content-returns-in-Comment t c = comment_gives c.args.text.now (item_in c.args.item.now) c.in-Comment.field-0 (ap item_in c.in-Comment.is) c.requires.1.1.1

pub item_has_content-returns-in-Pi : goal.item_has_content-returns-in-Pi
item_has_content-returns-in-Pi t c = pi_gives c.args.text.now (item_in c.args.item.now) c.in-Pi.field-0 (ap item_in c.in-Pi.is) c.requires.1.1.1

pub item_has_content-tag_has_values-requires : goal.item_has_content-tag_has_values-requires
item_has_content-tag_has_values-requires t c = record {
  tag = (element_placed c.args.text.now (item_in c.args.item.now) (head_in c.in-Elem.head) c.in-Elem.kids c.in-Elem.kids c.in-Elem.tail (ap item_in c.in-Elem.is) refl c.requires.1.1.0).0;
}

pub item_has_content-returns-in-Gap : goal.item_has_content-returns-in-Gap
item_has_content-returns-in-Gap t c = gap_gives c.args.text.now c.bytes_at.result.now (item_in c.args.item.now) c.in-Gap.span c.is_doctype.result (ap item_in c.in-Gap.is) (c.bytes_at.ensures ∙ ap (λ (b : List ℕ). at_span b c.in-Gap.span) c.as_bytes.ensures.value) c.is_doctype.ensures

pub item_has_content-returns-in-Ref : goal.item_has_content-returns-in-Ref
item_has_content-returns-in-Ref t c = reference_gives c.args.text.now (item_in c.args.item.now) c.in-Ref.field-0 (ap item_in c.in-Ref.is)
