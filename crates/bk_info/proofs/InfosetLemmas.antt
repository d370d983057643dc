-- The plain infoset, one node after the other.
use Rattle.std.proofs.Common.{◌≡◌, ◌∙◌, ℕ, ◌≤◌, List, [], ◌∷◌, ◌++◌, map, drop, length, refl, sym, ap, arith, append_assoc, append-nil}
use Rattle.std.proofs.lemmas.Grind.{common_steps}
use Rattle.std.proofs.lemmas.List.{map-append}
use Rattle.xt_spec.specs.Namespace.{Expanded}
use Rattle.bk_spec.specs.Node.{Origin, Nodes}
use Rattle.bk_spec.specs.DocumentNodes.{Context}
use Rattle.bk_spec.specs.Infoset as spec
use Rattle.bk_spec.specs.Infoset.{nothing_plain, element_plain, text_plain, comment_plain, pi_plain, text_before, plain_head, infoset_of}
use Rattle.bk_info.specs.declared.attr.Attr.{Attr}
use Rattle.bk_info.specs.declared.node.Node.{Node}
use Rattle.bk_info.specs.declared.node.Node.TheVariants as node
use Rattle.bk_info.specs.declared.plain.PlainAttr.{PlainAttr}
use Rattle.bk_info.specs.declared.plain.Plain.{Plain}
use Rattle.bk_info.specs.declared.plain.Plain.TheVariants as code
use Rattle.bk_info.specs.declared.plain.Plain.TheOpen.{Plain-F}
use Rattle.bk_info.specs.declared.plain.Plain.TheFolds.{fold-roll-Plain}
use Rattle.bk_info.specs.Nodes.{head_in, node_in, nodes_in}
use Rattle.bk_info.specs.Address.{Address}
use Rattle.bk_info.specs.Plains.{plain_head_in, in_front, plain_step, plain_in, plains_before, plains_in, text_items, so_far}
use Rattle.bk_info.proofs.NodeLemmas.{element_is, text_is, comment_is, pi_is}

at : {A B : Type 0} → (f g : A → B) (x : A) → f ≡ g → f x ≡ g x
at f g x same = ap (λ h. h x) same

-- ---- an item, and those behind it

element_item : (name : Expanded) (attrs : List PlainAttr) (base lang : List ℕ) (kids : List Plain) (others : spec.Plain)
    → plain_in (code.Elem name attrs base lang kids) others ≡ element_plain (plain_head_in name attrs base lang) (plains_in kids) others
element_item name attrs base lang kids others =
    at (plain_in (code.Elem name attrs base lang kids)) (plain_step (Plain-F.Elem name attrs base lang (map plain_in kids))) others
    (ap plain_in (sym (code.rolls-Elem name attrs base lang kids)) ∙ fold-roll-Plain (spec.Plain → spec.Plain) plain_step (Plain-F.Elem name attrs base lang kids))

text_item : (value : List ℕ) (others : spec.Plain) → plain_in (code.Text value) others ≡ text_plain value others
text_item value others =
    at (plain_in (code.Text value)) (plain_step (Plain-F.Text value)) others
    (ap plain_in (sym (code.rolls-Text value)) ∙ fold-roll-Plain (spec.Plain → spec.Plain) plain_step (Plain-F.Text value))

comment_item : (value : List ℕ) (others : spec.Plain) → plain_in (code.Comment value) others ≡ comment_plain value others
comment_item value others =
    at (plain_in (code.Comment value)) (plain_step (Plain-F.Comment value)) others
    (ap plain_in (sym (code.rolls-Comment value)) ∙ fold-roll-Plain (spec.Plain → spec.Plain) plain_step (Plain-F.Comment value))

pi_item : (target value : List ℕ) (others : spec.Plain) → plain_in (code.Pi target value) others ≡ pi_plain target value others
pi_item target value others =
    at (plain_in (code.Pi target value)) (plain_step (Plain-F.Pi target value)) others
    (ap plain_in (sym (code.rolls-Pi target value)) ∙ fold-roll-Plain (spec.Plain → spec.Plain) plain_step (Plain-F.Pi target value))

-- ---- items in a row

in_front-append : (xs ys : List (spec.Plain → spec.Plain)) (others : spec.Plain) → in_front (xs ++ ys) others ≡ in_front xs (in_front ys others)
in_front-append [] ys others = refl
in_front-append (x ∷ xs) ys others = ap x (in_front-append xs ys others)

plains-append : (xs ys : List Plain) (others : spec.Plain) → plains_before (xs ++ ys) others ≡ plains_before xs (plains_before ys others)
plains-append xs ys others = ap (λ fs. in_front fs others) (map-append plain_in xs ys) ∙ in_front-append (map plain_in xs) (map plain_in ys) others

-- ---- texts

-- a text that goes on
joins : (value more : List ℕ) (others : spec.Plain) → text_before (value ++ more) others ≡ text_before value (text_before more others)
joins [] more others = refl
joins (b ∷ value) [] others = ap (λ (v : List ℕ). text_before (b ∷ v) others) (append-nil value)
joins (b ∷ value) (c ∷ more) nothing_plain = refl
joins (b ∷ value) (c ∷ more) (element_plain head kids rest) = refl
joins (b ∷ value) (c ∷ more) (text_plain others rest) = ap (λ (v : List ℕ). text_plain (b ∷ v) rest) (append_assoc value (c ∷ more) others)
joins (b ∷ value) (c ∷ more) (comment_plain inner rest) = refl
joins (b ∷ value) (c ∷ more) (pi_plain target inner rest) = refl

-- no text goes on in front of these
abbrev IsApart : spec.Plain → Type 0
IsApart others = (b : ℕ) (value : List ℕ) → text_before (b ∷ value) others ≡ text_plain (b ∷ value) others

put_text : (value : List ℕ) (others : spec.Plain) → IsApart others → plains_before (text_items value) others ≡ text_before value others
put_text [] others apart = refl
put_text (b ∷ value) others apart = text_item (b ∷ value) others ∙ sym (apart b value)

-- an item behind items and a text
put_item : (items new : List Plain) (text after : List ℕ) (item : Plain) (made : spec.Plain → spec.Plain) (others : spec.Plain) → new ≡ (items ++ text_items text) ++ item ∷ [] → after ≡ [] → plain_in item others ≡ made others → IsApart (made others)
    → so_far new after others ≡ so_far items text (made others)
put_item items new text after item made others is none item_is apart =
    ap (λ (t : List ℕ). plains_before new (text_before t others)) none ∙ ap (λ (l : List Plain). plains_before l others) is
    ∙ plains-append (items ++ text_items text) (item ∷ []) others ∙ plains-append items (text_items text) (plain_in item others)
    ∙ ap (λ (p : spec.Plain). plains_before items (plains_before (text_items text) p)) item_is ∙ ap (λ (p : spec.Plain). plains_before items p) (put_text text (made others) apart)

pub element_put : (items new : List Plain) (text after : List ℕ) (n : Node) (name : Expanded) (attrs list : List Attr) (context : Context) (kids held : List Node) (address : Address) (item : Plain) (inner : List Plain)
    → n ≡ node.Elem name attrs context kids address → list ≡ attrs → held ≡ kids → plains_in inner ≡ infoset_of (nodes_in held)
    → ((its : Origin) (others : spec.Plain) → plain_in item others ≡ element_plain (plain_head (head_in name list context its)) (plains_in inner) others)
    → new ≡ (items ++ text_items text) ++ item ∷ [] → after ≡ []
    → (rest : Nodes) → so_far new after (infoset_of rest) ≡ so_far items text (infoset_of (node_in n rest))
element_put items new text after n name attrs list context kids held address item inner is same_list same_kids same_inner made put none rest =
    let head = plain_head (head_in name attrs context address.origin) in
    let within : plains_in inner ≡ infoset_of (nodes_in kids) = same_inner ∙ ap (λ (l : List Node). infoset_of (nodes_in l)) same_kids in
    put_item items new text after item (λ others. element_plain head (infoset_of (nodes_in kids)) others) (infoset_of rest) put none
    (made address.origin (infoset_of rest) ∙ ap (λ (l : List Attr). element_plain (plain_head (head_in name l context address.origin)) (plains_in inner) (infoset_of rest)) same_list ∙ ap (λ (p : spec.Plain). element_plain head p (infoset_of rest)) within)
    (λ b value. refl)
    ∙ ap (so_far items text) (sym (ap infoset_of (ap (λ (x : Node). node_in x rest) is ∙ element_is name attrs context kids address rest)))

pub text_put : (items : List Plain) (text after : List ℕ) (n : Node) (value more : List ℕ) (address : Address) → n ≡ node.Text value address → more ≡ value → after ≡ text ++ more
    → (rest : Nodes) → so_far items after (infoset_of rest) ≡ so_far items text (infoset_of (node_in n rest))
text_put items text after n value more address is same put rest =
    ap (λ (t : List ℕ). so_far items t (infoset_of rest)) (put ∙ ap (λ (v : List ℕ). text ++ v) same) ∙ ap (plains_before items) (joins text value (infoset_of rest))
    ∙ ap (so_far items text) (sym (ap infoset_of (ap (λ (x : Node). node_in x rest) is ∙ text_is value address rest)))

pub comment_put : (items new : List Plain) (text after : List ℕ) (n : Node) (value copy : List ℕ) (address : Address) → n ≡ node.Comment value address → copy ≡ value
    → new ≡ (items ++ text_items text) ++ code.Comment copy ∷ [] → after ≡ []
    → (rest : Nodes) → so_far new after (infoset_of rest) ≡ so_far items text (infoset_of (node_in n rest))
comment_put items new text after n value copy address is same put none rest =
    put_item items new text after (code.Comment copy) (λ others. comment_plain value others) (infoset_of rest) put none
    (comment_item copy (infoset_of rest) ∙ ap (λ (v : List ℕ). comment_plain v (infoset_of rest)) same) (λ b more. refl)
    ∙ ap (so_far items text) (sym (ap infoset_of (ap (λ (x : Node). node_in x rest) is ∙ comment_is value address rest)))

pub pi_put : (items new : List Plain) (text after : List ℕ) (n : Node) (target value name copy : List ℕ) (address : Address) → n ≡ node.Pi target value address → name ≡ target → copy ≡ value
    → new ≡ (items ++ text_items text) ++ code.Pi name copy ∷ [] → after ≡ []
    → (rest : Nodes) → so_far new after (infoset_of rest) ≡ so_far items text (infoset_of (node_in n rest))
pi_put items new text after n target value name copy address is same_target same put none rest =
    put_item items new text after (code.Pi name copy) (λ others. pi_plain target value others) (infoset_of rest) put none
    (pi_item name copy (infoset_of rest) ∙ ap (λ (t : List ℕ). pi_plain t copy (infoset_of rest)) same_target ∙ ap (λ (v : List ℕ). pi_plain target v (infoset_of rest)) same) (λ b more. refl)
    ∙ ap (so_far items text) (sym (ap infoset_of (ap (λ (x : Node). node_in x rest) is ∙ pi_is target value address rest)))

none_left : {A : Type 0} (xs : List A) (i : ℕ) → length xs ≤ i → drop i xs ≡ []
none_left xs i past = grind (arith, common_steps)

pub nodes_end : (nodes : List Node) (i : ℕ) (items new list : List Plain) (text : List ℕ) → length nodes ≤ i
    → so_far items text (infoset_of (nodes_in (drop i nodes))) ≡ infoset_of (nodes_in nodes) → new ≡ items ++ text_items text → list ≡ new → plains_in list ≡ infoset_of (nodes_in nodes)
nodes_end nodes i items new list text past before put same =
    ap plains_in (same ∙ put) ∙ plains-append items (text_items text) nothing_plain ∙ ap (plains_before items) (put_text text nothing_plain (λ b value. refl))
    ∙ ap (λ (l : List Node). so_far items text (infoset_of (nodes_in l))) (sym (none_left nodes i past)) ∙ before
