-- A text of a tree stands somewhere in the bytes of its file.
use Rattle.std.proofs.Common.{◌≡◌, ◌∙◌, ◌+◌, ℕ, zero, suc, List, [], ◌∷◌, ◌++◌, Some, length, take, drop, refl, sym, ap, arith, append_assoc, length-append}
use Rattle.std.proofs.lemmas.List.{take_at, drop_at}
use Rattle.xt_spec.specs.Tree.{Items, nil, element, leaf, leaf_item, text_item, source_text, close_text}
use Rattle.xt_spec.specs.Paths.{item_in, item_at, replaced_in}
use Rattle.xt_spec.proofs.Theorems.{source_text-append}
use Rattle.xt_tree.specs.Spans.{Stands}

-- the bytes before it, its own and those behind it; what is put in its place comes between
record IsAround (items : Items) (index : ℕ) (path : List ℕ) : Type 0 where
  front : List ℕ
  inner : List ℕ
  back : List ℕ
  whole : source_text items ≡ front ++ inner ++ back
  others_are : (others : Items) → source_text (replaced_in items index path others) ≡ front ++ source_text others ++ back

behind_it : (w f t b : List ℕ) → w ++ (f ++ t ++ b) ≡ (w ++ f) ++ t ++ b
behind_it w f t b = sym (append_assoc w (f ++ t) b) ∙ ap (λ (l : List ℕ). l ++ b) (sym (append_assoc w f t))

between_it : (o f t b c r : List ℕ) → o ++ (f ++ t ++ b) ++ c ++ r ≡ (o ++ f) ++ t ++ (b ++ c ++ r)
between_it o f t b c r =
    ap (λ (l : List ℕ). l ++ c ++ r) (behind_it o f t b) ∙ ap (λ (l : List ℕ). l ++ r) (append_assoc ((o ++ f) ++ t) b c) ∙ append_assoc ((o ++ f) ++ t) (b ++ c) r

around : (items : Items) (index : ℕ) (path text : List ℕ) → item_in items index path ≡ Some (leaf_item text_item text) → IsAround items index path
around nil index path text is = absurd (cc)
around (leaf kind t rest) zero [] text is = record { front = []; inner = t; back = source_text rest; whole = refl; others_are = λ others. source_text-append others rest }
around (leaf kind t rest) zero (next ∷ path) text is = absurd (cc)
around (leaf kind t rest) (suc index) path text is =
    let r = around rest index path text is in
    record {
      front = t ++ r.front;
      inner = r.inner;
      back = r.back;
      whole = ap (λ (l : List ℕ). t ++ l) r.whole ∙ behind_it t r.front r.inner r.back;
      others_are = λ others. ap (λ (l : List ℕ). t ++ l) (r.others_are others) ∙ behind_it t r.front (source_text others) r.back;
    }
around (element open_tag kids close rest) zero [] text is = absurd (cc)
around (element open_tag kids close rest) zero (next ∷ path) text is =
    let r = around kids next path text is in
    record {
      front = open_tag ++ r.front;
      inner = r.inner;
      back = r.back ++ close_text close ++ source_text rest;
      whole = ap (λ (l : List ℕ). open_tag ++ l ++ close_text close ++ source_text rest) r.whole ∙ between_it open_tag r.front r.inner r.back (close_text close) (source_text rest);
      others_are = λ others. ap (λ (l : List ℕ). open_tag ++ l ++ close_text close ++ source_text rest) (r.others_are others) ∙ between_it open_tag r.front (source_text others) r.back (close_text close) (source_text rest);
    }
around (element open_tag kids close rest) (suc index) path text is =
    let r = around rest index path text is in
    let w = open_tag ++ source_text kids ++ close_text close in
    record {
      front = w ++ r.front;
      inner = r.inner;
      back = r.back;
      whole = ap (λ (l : List ℕ). w ++ l) r.whole ∙ behind_it w r.front r.inner r.back;
      others_are = λ others. ap (λ (l : List ℕ). w ++ l) (r.others_are others) ∙ behind_it w r.front (source_text others) r.back;
    }

stands_there : (bytes : List ℕ) (items : Items) (index : ℕ) (path : List ℕ) → source_text items ≡ bytes → (r : IsAround items index path) → Stands bytes items (index ∷ path) (length r.front) (length r.front + length r.inner)
stands_there bytes items index path joined r = record {
  order = omega arith;
  within = omega (arith, ap length is, length-append (r.front ++ r.inner) r.back, length-append r.front r.inner);
  replaced = λ others. r.others_are others ∙ ap (λ (l : List ℕ). l ++ source_text others ++ r.back) (sym front_is) ∙ ap (λ (l : List ℕ). take (length r.front) bytes ++ source_text others ++ l) (sym back_is);
}
  where
    is : bytes ≡ r.front ++ r.inner ++ r.back
    is = sym joined ∙ r.whole

    front_is : take (length r.front) bytes ≡ r.front
    front_is = ap (take (length r.front)) (is ∙ append_assoc r.front r.inner r.back) ∙ take_at r.front (r.inner ++ r.back) (length r.front) refl

    back_is : drop (length r.front + length r.inner) bytes ≡ r.back
    back_is = ap (drop (length r.front + length r.inner)) is ∙ drop_at (r.front ++ r.inner) r.back (length r.front + length r.inner) (length-append r.front r.inner)

pub text_found : (bytes : List ℕ) (items : Items) (path text : List ℕ) → source_text items ≡ bytes → item_at items path ≡ Some (leaf_item text_item text) → (from to : ℕ) × Stands bytes items path from to
text_found bytes items [] text joined is = absurd (cc)
text_found bytes items (index ∷ path) text joined is =
    let r = around items index path text is in
    (length r.front, length r.front + length r.inner, stands_there bytes items index path joined r)
