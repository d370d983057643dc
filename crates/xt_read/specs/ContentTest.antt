-- What is known of the items of a document that are tested for content, one by one.
--
--   HasValue     an attribute has a value by itself
--   GiveContent  items give content by themselves
--   StandsIn     an attribute stands at its spans
--   StandAll     .. and so do those of a tag
--   AreSpelled   each element of the items has a tag, spelled, and each text, comment and processing instruction is one
--   ArePlaced    marks stand one right behind the other
use Rattle.std.specs.Prelude.{◌≡◌, ◌≤◌, ℕ, List, [], ◌∷◌, length}
use Rattle.xt_spec.specs.Tag.{Attribute, IsAttribute}
use Rattle.xt_spec.specs.Markup.{IsComment, IsPi}
use Rattle.xt_spec.specs.Tree.{Items, nil, element, leaf, text_item, reference_item, comment_item, pi_item, gap}
use Rattle.xt_spec.specs.Text.{IsTextItem}
use Rattle.xt_spec.specs.Reading.{IsElement}
use Rattle.xt_spec.specs.Value.{HasAttributeValue}
use Rattle.xt_spec.specs.Content.{Content, HasContent}
use Rattle.xt_lex.specs.declared.attribute.AttrSrc.{AttrSrc}
use Rattle.xt_tree.specs.Meaning.{at_span}
use Rattle.xt_tree.specs.Places.{Mark, AreInPlace}

-- each reference of the attribute's value stands for a character
abbrev pub HasValue : Attribute → Type 0
HasValue a = (value : List ℕ) × HasAttributeValue a.quoted value

-- the items give some content
abbrev pub GiveContent : Items → Type 0
GiveContent items = (content : Content) × HasContent items content

pub record StandsIn (text : List ℕ) (spans : AttrSrc) (a : Attribute) : Type 0 where
  pub is : IsAttribute a
  pub value : at_span text spans.value ≡ a.quoted
  pub within : spans.value.to ≤ length text

abbrev pub StandAll : List ℕ → List AttrSrc → List Attribute → Type 0
StandAll text [] [] = Unit {0}
StandAll text [] (a ∷ others) = ⊥
StandAll text (s ∷ spans) [] = ⊥
StandAll text (s ∷ spans) (a ∷ others) = StandsIn text s a × StandAll text spans others

abbrev pub AreSpelled : Items → Type 0
AreSpelled nil = Unit {0}
AreSpelled (element open_tag kids close rest) = IsElement open_tag kids close × AreSpelled kids × AreSpelled rest
AreSpelled (leaf text_item text rest) = IsTextItem text × AreSpelled rest
AreSpelled (leaf comment_item text rest) = IsComment text × AreSpelled rest
AreSpelled (leaf pi_item text rest) = IsPi text × AreSpelled rest
AreSpelled (leaf reference_item text rest) = AreSpelled rest
AreSpelled (leaf gap text rest) = AreSpelled rest

-- the marks stand one right behind the other in the text
pub record ArePlaced (text : List ℕ) (marks : List Mark) : Type 0 where
  pub from : ℕ
  pub to : ℕ
  pub placed : AreInPlace text from marks to
  pub within : to ≤ length text
