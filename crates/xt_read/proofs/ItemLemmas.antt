-- Lists of items.
use Rattle.std.proofs.Common.{◌≡◌, ◌∙◌, List, [], ◌∷◌, ◌++◌, refl, ap, sym, append_assoc}
use Rattle.xt_spec.specs.Tree.{Items, nil, element, leaf, Item, element_item, leaf_item, items_of, append, source_text, close_text}

pub items_of-append : (xs ys : List Item) → items_of (xs ++ ys) ≡ append (items_of xs) (items_of ys)
items_of-append [] ys = refl
items_of-append (element_item o k c ∷ xs) ys = ap (element o k c) (items_of-append xs ys)
items_of-append (leaf_item kind t ∷ xs) ys = ap (leaf kind t) (items_of-append xs ys)

pub append-nil : (items : Items) → append items nil ≡ items
append-nil nil = refl
append-nil (element o k c rest) = ap (element o k c) (append-nil rest)
append-nil (leaf kind t rest) = ap (leaf kind t) (append-nil rest)

pub append-assoc : (a b c : Items) → append (append a b) c ≡ append a (append b c)
append-assoc nil b c = refl
append-assoc (element o k close rest) b c = ap (element o k close) (append-assoc rest b c)
append-assoc (leaf kind t rest) b c = ap (leaf kind t) (append-assoc rest b c)

pub source_text-append : (a b : Items) → source_text (append a b) ≡ source_text a ++ source_text b
source_text-append nil b = refl
source_text-append (element o k c rest) b =
    ap (λ t. o ++ source_text k ++ close_text c ++ t) (source_text-append rest b)
    ∙ sym (append_assoc (o ++ source_text k ++ close_text c) (source_text rest) (source_text b))
source_text-append (leaf kind t rest) b =
    ap (λ r. t ++ r) (source_text-append rest b) ∙ sym (append_assoc t (source_text rest) (source_text b))
