-- What a path leads to, one step after the other.
use Rattle.std.proofs.Common.{◌≡◌, ◌∙◌, ℕ, zero, suc, List, [], ◌∷◌, ◌++◌, refl, sym, ap, append_assoc, append-nil, Option, Some, None}
use Rattle.xt_spec.specs.Tree.{Items, nil, element, leaf, Item, element_item, leaf_item, before, append, close_text, source_text}
use Rattle.xt_spec.specs.Paths.{item_in, replaced_in}

-- the item that a path leads to in an item
abbrev pub item_under : Item → List ℕ → Option Item
item_under item [] = Some item
item_under (leaf_item kind text) (next ∷ path) = None
item_under (element_item open_tag kids close) (next ∷ path) = item_in kids next path

-- the items in the place of an item, with others in the place of what a path leads to in it
abbrev pub replaced_under : Item → List ℕ → Items → Items
replaced_under item [] others = others
replaced_under (leaf_item kind text) (next ∷ path) others = leaf kind text nil
replaced_under (element_item open_tag kids close) (next ∷ path) others = element open_tag (replaced_in kids next path others) close nil

pub item_in-first : (item : Item) (rest : Items) (path : List ℕ) → item_in (before item rest) zero path ≡ item_under item path
item_in-first (element_item open_tag kids close) rest [] = refl
item_in-first (element_item open_tag kids close) rest (next ∷ path) = refl
item_in-first (leaf_item kind text) rest [] = refl
item_in-first (leaf_item kind text) rest (next ∷ path) = refl

pub item_in-behind : (item : Item) (rest : Items) (index : ℕ) (path : List ℕ) → item_in (before item rest) (suc index) path ≡ item_in rest index path
item_in-behind (element_item open_tag kids close) rest index path = refl
item_in-behind (leaf_item kind text) rest index path = refl

pub replaced_in-first : (item : Item) (rest : Items) (path : List ℕ) (others : Items) → replaced_in (before item rest) zero path others ≡ append (replaced_under item path others) rest
replaced_in-first (element_item open_tag kids close) rest [] others = refl
replaced_in-first (element_item open_tag kids close) rest (next ∷ path) others = refl
replaced_in-first (leaf_item kind text) rest [] others = refl
replaced_in-first (leaf_item kind text) rest (next ∷ path) others = refl

pub replaced_in-behind : (item : Item) (rest : Items) (index : ℕ) (path : List ℕ) (others : Items) → replaced_in (before item rest) (suc index) path others ≡ before item (replaced_in rest index path others)
replaced_in-behind (element_item open_tag kids close) rest index path others = refl
replaced_in-behind (leaf_item kind text) rest index path others = refl

-- ---- texts

pub source_text-append : (items others : Items) → source_text (append items others) ≡ source_text items ++ source_text others
source_text-append nil others = refl
source_text-append (element open_tag kids close rest) others =
    ap (λ t. open_tag ++ source_text kids ++ close_text close ++ t) (source_text-append rest others) ∙ sym (append_assoc (open_tag ++ source_text kids ++ close_text close) (source_text rest) (source_text others))
source_text-append (leaf kind text rest) others = ap (λ t. text ++ t) (source_text-append rest others) ∙ sym (append_assoc text (source_text rest) (source_text others))

-- the text of one item
abbrev pub item_text : Item → List ℕ
item_text item = source_text (before item nil)

pub source_text-before : (item : Item) (rest : Items) → source_text (before item rest) ≡ item_text item ++ source_text rest
source_text-before (element_item open_tag kids close) rest = ap (λ t. t ++ source_text rest) (sym (append-nil (open_tag ++ source_text kids ++ close_text close)))
source_text-before (leaf_item kind text) rest = ap (λ t. t ++ source_text rest) (sym (append-nil text))
