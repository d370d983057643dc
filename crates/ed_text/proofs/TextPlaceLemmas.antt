-- Which items are text items.
use Rattle.std.proofs.Common.{◌≡◌, ◌∙◌, ℕ, List, sym, ap, Option, Some, None, Bool, true, false, refl, option_map, IsTrue, ◌↔◌}
use Rattle.xt_spec.specs.Tree.{Item, LeafKind, element_item, leaf_item, text_item}
use Rattle.xt_lex.specs.declared.token.Span.{Span}
use Rattle.xt_tree.specs.declared.source.Tag.{Tag as TagSrc}
use Rattle.xt_tree.specs.declared.source.Src.{Src}
use Rattle.xt_tree.specs.declared.source.Src.TheVariants as src
use Rattle.xt_tree.specs.Meaning.{at_span, item_of, items_in}
use Rattle.xt_tree.proofs.Theorems.{text_is, element_is}
use Rattle.ed_text.specs.TextPlace.{IsText}

pub is_text : (bytes : List ℕ) (item : Src) (span : Span) → item ≡ src.Text span → IsTrue true ↔ IsText (item_of bytes item)
is_text bytes item span is = ((λ _. (at_span bytes span, ap (item_of bytes) is ∙ text_is bytes span)), (λ _. refl))

pub is_element : (bytes : List ℕ) (item : Src) (head : TagSrc) (kids : List Src) (tail : Option Span) → item ≡ src.Elem tail head kids → IsTrue false ↔ IsText (item_of bytes item)
is_element bytes item head kids tail is = ((λ never. absurd cc), (λ (text, e). let same : element_item (at_span bytes head.span) (items_in bytes kids) (option_map (at_span bytes) tail) ≡ leaf_item text_item text = sym (ap (item_of bytes) is ∙ element_is bytes head kids tail) ∙ e in absurd cc))

pub is_other : (bytes : List ℕ) (item same : Src) (kind : LeafKind) (span : Span) → item ≡ same → item_of bytes same ≡ leaf_item kind (at_span bytes span) → (kind ≡ text_item → ⊥) → IsTrue false ↔ IsText (item_of bytes item)
is_other bytes item same kind span is leaf other = ((λ never. absurd cc), (λ (text, e). let both : leaf_item kind (at_span bytes span) ≡ leaf_item text_item text = sym (ap (item_of bytes) is ∙ leaf) ∙ e in absurd (other (cc))))

pub found_text : (found : Option Item) (item : Item) (b : Bool) → found ≡ Some item → (IsTrue b ↔ IsText item) → IsTrue b ↔ ((text : List ℕ) × (found ≡ Some (leaf_item text_item text)))
found_text found item b is both = ((λ t. let (text, e) = both.0 t in (text, is ∙ ap Some e)), (λ (text, e). both.1 (text, (let same : Some item ≡ Some (leaf_item text_item text) = sym is ∙ e in cc))))

pub none_found : (found : Option Item) → found ≡ None → IsTrue false ↔ ((text : List ℕ) × (found ≡ Some (leaf_item text_item text)))
none_found found is = ((λ t. absurd cc), (λ (text, e). absurd cc))
