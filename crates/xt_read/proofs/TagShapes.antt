-- A tag that stands at its place has the shape that a tape keeps.
use Rattle.std.proofs.Common.{◌≡◌, ◌∙◌, ℕ, ◌+◌, List, [], ◌∷◌, length, sym, ap, subst, arith}
use Rattle.xt_spec.specs.Tag.{Attribute, attribute_text}
use Rattle.xt_lex.specs.declared.attribute.AttrSrc.{AttrSrc}
use Rattle.xt_tree.specs.declared.source.Tag.{Tag as TagSrc}
use Rattle.xt_tree.specs.Levels.{span}
use Rattle.xt_tree.specs.Rows.{AreChained, IsShaped}
use Rattle.xt_tree.specs.Places.{AreAttributesAt, IsTagAt}

-- one attribute right behind the other, each ends with its value
chained : (at from : ℕ) (attributes : List Attribute) (spans : List AttrSrc) → from ≡ at → AreAttributesAt at attributes spans → AreChained from spans
chained at from [] spans same is = subst (AreChained from) (sym is) tt
chained at from (a ∷ others) [] same is = absurd is
chained at from (a ∷ others) (s ∷ spans) same (first, more) = (
  ap (λ f. span f s.whole.to) (first.whole_from ∙ sym same) ∙ ap (span from) (first.whole_to ∙ sym first.value_to),
  chained (at + length (attribute_text a)) s.value.to others spans first.value_to more,
)

pub tag_shaped : (text : List ℕ) (at : ℕ) (source : TagSrc) → IsTagAt text at source → IsShaped source
tag_shaped text at source is = record {
  order = omega (arith, is.whole.0, is.whole.1);
  name = ap (λ f. span f source.name.to) (is.name.0 ∙ ap (λ a. a + 1) (sym is.whole.0));
  attrs = chained (at + 1 + length is.tag.name) source.name.to is.tag.attributes source.attrs is.name.1 is.attributes;
}
