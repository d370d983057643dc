-- Items that are spelled give content by themselves, or give none.
use Rattle.std.proofs.Common.{◌≡◌, ◌∙◌, ℕ, List, [], ◌∷◌, refl, sym, subst, ◌⊎◌, inl, inr, codes, Option, None, Some}
use Rattle.std.proofs.lemmas.Bool.{cases_Bool, both_ways}
use Rattle.std.specs.List.{AllByRecursion}
use Rattle.xt_spec.specs.Tag.{Attribute, IsAttribute, Tag}
use Rattle.xt_spec.specs.Markup.{begins}
use Rattle.xt_spec.specs.Namespace.{NamedValue}
use Rattle.xt_spec.specs.Reading.{document, tag_ending, IsElement, IsReading}
use Rattle.xt_spec.specs.Tree.{Items, nil, element, leaf, text_item, reference_item, comment_item, pi_item, gap}
use Rattle.xt_spec.specs.Content.{Content, nothing_given, element_content, text_content, comment_content, pi_content, typed, HaveValues, HasContent}
use Rattle.xt_spec.specs.Value.{HasAttributeValue}
use Rattle.xt_lex.specs.Place.{EndsTag}
use Rattle.xt_lex.proofs.Theorems.{tag_unique}
use Rattle.xt_read.specs.ContentTest.{GiveContent, AreSpelled}
use Rattle.xt_read.proofs.LeafContent.{text_content_of, comment_content_of, pi_content_of}
use Rattle.xt_read.proofs.TagValues.{value_or_none}
use Rattle.xt_read.proofs.ItemContent.{reading_spelled}

abbrev OrNot : Type 0 → Type 0
OrNot A = A ⊎ ¬ A

values_or_none : (attributes : List Attribute) → AllByRecursion IsAttribute attributes → OrNot ((values : List NamedValue) × HaveValues attributes values)
values_or_none [] are = inl ([], refl)
values_or_none (a ∷ others) are = by (value_or_none a.quoted are.0.quoted) (values_or_none others are.1)
  where
    by : OrNot ((value : List ℕ) × HasAttributeValue a.quoted value) → OrNot ((values : List NamedValue) × HaveValues others values) → OrNot ((values : List NamedValue) × HaveValues (a ∷ others) values)
    by (inl one) (inl rest) = inl (record { name = a.name; value = typed a.name one.0 } ∷ rest.0, (one.0, rest.0, one.1, rest.1, refl))
    by (inl one) (inr never) = inr (λ some. never (some.1.1, some.1.3))
    by (inr never) rest = inr (λ some. never (some.1.0, some.1.2))

ends_tag : (close : Option (List ℕ)) → EndsTag (tag_ending close)
ends_tag None = inr refl
ends_tag (Some text) = inl refl

with_element : (open_tag : List ℕ) (kids : Items) (close : Option (List ℕ)) (rest : Items) → IsElement open_tag kids close → OrNot (GiveContent kids) → OrNot (GiveContent rest) → OrNot (GiveContent (element open_tag kids close rest))
with_element open_tag kids close rest e inside behind = by (values_or_none e.tag.attributes e.parts.attributes) inside behind
  where
    same : (content : Content) → (is : HasContent (element open_tag kids close rest) content) → is.0 ≡ e.tag
    same content is = (tag_unique is.0 e.tag (tag_ending close) (tag_ending close) (ends_tag close) (ends_tag close) is.4 e.parts (sym is.5 ∙ e.spelled)).0

    by : OrNot ((values : List NamedValue) × HaveValues e.tag.attributes values) → OrNot (GiveContent kids) → OrNot (GiveContent rest) → OrNot (GiveContent (element open_tag kids close rest))
    by (inr never) k r = inr (λ some. never (some.1.1, subst (λ (t : Tag). HaveValues t.attributes some.1.1) (same some.0 some.1) some.1.6))
    by (inl values) (inr never) r = inr (λ some. never (some.1.2, some.1.7))
    by (inl values) (inl k) (inr never) = inr (λ some. never (some.1.3, some.1.8))
    by (inl values) (inl k) (inl r) = inl (element_content e.tag.name values.0 k.0 r.0, (e.tag, values.0, k.0, r.0, e.parts, e.spelled, values.1, k.1, r.1, refl))

pub content_or_none : (items : Items) → AreSpelled items → OrNot (GiveContent items)
content_or_none nil are = inl (nothing_given, refl)
content_or_none (element open_tag kids close rest) are = with_element open_tag kids close rest are.0 (content_or_none kids are.1) (content_or_none rest are.2)
content_or_none (leaf text_item text rest) are = elim (content_or_none rest are.1) [
  | inl r ↦ let one = (text_content_of text are.0).1 in inl (text_content one.0 r.0, (one.0, r.0, one.2, r.1, refl))
  | inr never ↦ inr (λ some. never (some.1.1, some.1.3))
]
content_or_none (leaf comment_item text rest) are = elim (content_or_none rest are.1) [
  | inl r ↦ let one = (comment_content_of text are.0).1 in inl (comment_content _ r.0, (one.0, r.0, one.2, r.1, refl))
  | inr never ↦ inr (λ some. never (some.1.1, some.1.3))
]
content_or_none (leaf pi_item text rest) are = elim (content_or_none rest are.1) [
  | inl r ↦ let one = (pi_content_of text are.0).1 in inl (pi_content one.0 _ r.0, (one.0, one.1, r.0, one.3, r.1, refl))
  | inr never ↦ inr (λ some. never (some.1.2, some.1.4))
]
content_or_none (leaf reference_item text rest) are = inr (λ some. some.1)
content_or_none (leaf gap text rest) are = elim (cases_Bool (begins (codes "<!DOCTYPE") text)) [
  | inl doctype_ ↦ inr (λ some. both_ways (begins (codes "<!DOCTYPE") text) some.1.0 doctype_)
  | inr other ↦ elim (content_or_none rest are) [
    | inl r ↦ inl (r.0, (other, r.1))
    | inr never ↦ inr (λ some. never (some.0, some.1.1))
  ]
]

pub document_content_or_none : (bytes : List ℕ) (items : Items) → IsReading document bytes items → OrNot ((content : Content) × HasContent items content)
document_content_or_none bytes items is = content_or_none items (reading_spelled bytes items is)
