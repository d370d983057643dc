-- What an item of the code gives, and items in a row.
use Rattle.std.proofs.Common.{◌≡◌, ◌∙◌, ℕ, ◌+◌, List, [], ◌∷◌, ◌++◌, refl, sym, ap, subst, arith, Option, option_map, Result, Ok, Err}
use Rattle.xt_spec.specs.Content.{HasContent}
use Rattle.xt_spec.specs.Tree.{Items, Item, text_item, comment_item, pi_item, nil, element, leaf, before}
use Rattle.xt_lex.specs.declared.token.Span.{Span}
use Rattle.xt_tree.specs.declared.source.Tag.{Tag as TagSrc}
use Rattle.xt_tree.specs.declared.source.Src.{Src}
use Rattle.xt_tree.specs.declared.source.Src.TheVariants as src
use Rattle.xt_tree.specs.Meaning.{at_span, item_of, items_in}
use Rattle.xt_tree.specs.Places.{tag_mark, marks_in, marks_of}
use Rattle.xt_tree.proofs.Theorems.{element_is, text_is, reference_is, comment_is, pi_is, gap_is}
use Rattle.xt_read.specs.ContentTest.{ArePlaced}
use Rattle.xt_read.proofs.Theorems.{element_placed}
use Rattle.bk_spec.specs.Node.{Nodes, node_count}
use Rattle.bk_spec.specs.Fault.{Fault}
use Rattle.bk_spec.specs.DocumentNodes.{Context, nodes_of}
use Rattle.bk_info.specs.declared.node.Node.{Node}
use Rattle.bk_info.specs.Nodes.{nodes_in, nodes_before}
use Rattle.ent_doc.specs.Steps.{prepended, Gives, GivesFault}
use Rattle.ent_doc.proofs.FaultLemmas.{fails_then, fails_as}
use Rattle.ent_doc.proofs.NodeLemmas.{prepended_twice, count_twice}

-- the tag of an element is in its place, and so is what it holds
pub kids_in_place : (bytes : List ℕ) (item : Src) (head : TagSrc) (kids list : List Src) (tail : Option Span) → item ≡ src.Elem tail head kids → list ≡ kids → ArePlaced bytes (marks_in item)
    → ArePlaced bytes (tag_mark head ∷ []) × ArePlaced bytes (marks_of list)
kids_in_place bytes item head kids list tail is same placed =
    let (at, within, inner) = element_placed bytes item head kids list tail is same placed in
    (record { from = head.span.from; to = head.span.to; placed = (at, refl); within = within }, inner)

-- what is so of each item that is spelled as this one is so of it
pub of_element : (bytes : List ℕ) (P : Items → Type 0) (rest : Items) (item : Src) (head : TagSrc) (kids list : List Src) (tail : Option Span) → item ≡ src.Elem tail head kids → list ≡ kids
    → ((close : Option (List ℕ)) → P (element (at_span bytes head.span) (items_in bytes list) close rest)) → P (before (item_of bytes item) rest)
of_element bytes P rest item head kids list tail is same all =
    subst (λ (x : Item). P (before x rest)) (sym (ap (item_of bytes) is ∙ element_is bytes head kids tail))
    (subst (λ (l : List Src). P (element (at_span bytes head.span) (items_in bytes l) (option_map (at_span bytes) tail) rest)) same (all (option_map (at_span bytes) tail)))

pub of_text : (bytes : List ℕ) (P : Items → Type 0) (rest : Items) (item : Src) (span : Span) → item ≡ src.Text span → P (leaf text_item (at_span bytes span) rest) → P (before (item_of bytes item) rest)
of_text bytes P rest item span is so = subst (λ (x : Item). P (before x rest)) (sym (ap (item_of bytes) is ∙ text_is bytes span)) so

pub of_comment : (bytes : List ℕ) (P : Items → Type 0) (rest : Items) (item : Src) (span : Span) → item ≡ src.Comment span → P (leaf comment_item (at_span bytes span) rest) → P (before (item_of bytes item) rest)
of_comment bytes P rest item span is so = subst (λ (x : Item). P (before x rest)) (sym (ap (item_of bytes) is ∙ comment_is bytes span)) so

pub of_pi : (bytes : List ℕ) (P : Items → Type 0) (rest : Items) (item : Src) (span : Span) → item ≡ src.Pi span → P (leaf pi_item (at_span bytes span) rest) → P (before (item_of bytes item) rest)
of_pi bytes P rest item span is so = subst (λ (x : Item). P (before x rest)) (sym (ap (item_of bytes) is ∙ pi_is bytes span)) so

-- nothing in front of nodes leaves them as they are
none_first : (others : Result Nodes Fault) → prepended [] others ≡ others
none_first (Ok rest) = refl
none_first (Err fault) = refl

-- a reference and a gap give no node
pub reference_gives : (bytes file : List ℕ) (context : Context) (rest : Items) (item : Src) (span : Span) (n : ℕ) → item ≡ src.Ref span → Gives file context (before (item_of bytes item) rest) rest n n []
reference_gives bytes file context rest item span n is =
    subst (λ (x : Item). Gives file context (before x rest) rest n n []) (sym (ap (item_of bytes) is ∙ reference_is bytes span)) (λ content has. absurd has)

pub gap_gives : (bytes file : List ℕ) (context : Context) (rest : Items) (item : Src) (span : Span) (n : ℕ) → item ≡ src.Gap span → Gives file context (before (item_of bytes item) rest) rest n n []
gap_gives bytes file context rest item span n is =
    subst (λ (x : Item). Gives file context (before x rest) rest n n []) (sym (ap (item_of bytes) is ∙ gap_is bytes span)) (λ content has. (content, has.1, sym (none_first (nodes_of file context n content))))

-- items, one after the other
pub items_step : (bytes file : List ℕ) (context : Context) (items left rest : List Src) (x : Src) (n k m : ℕ) (nodes more joined : List Node) → left ≡ x ∷ rest → joined ≡ nodes ++ more
    → Gives file context (items_in bytes items) (items_in bytes left) n k nodes → ((behind : Items) → Gives file context (before (item_of bytes x) behind) behind k m more)
    → Gives file context (items_in bytes items) (items_in bytes rest) n m joined
items_step bytes file context items left rest x n k m nodes more joined is same so_far next content has =
    let (others, has_others, gives) = so_far content has in
    let (behind, has_behind, gives_more) = next (items_in bytes rest) others (subst (λ (l : List Src). HasContent (items_in bytes l) others) is has_others) in
    (behind, has_behind, gives ∙ ap (λ (r : Result Nodes Fault). prepended nodes r) gives_more ∙ prepended_twice nodes more (nodes_of file context m behind) ∙ ap (λ (l : List Node). prepended l (nodes_of file context m behind)) (sym same))

pub items_fail : (bytes file : List ℕ) (context : Context) (items left rest : List Src) (x : Src) (n k : ℕ) (nodes : List Node) (fault : Option Fault) → left ≡ x ∷ rest
    → Gives file context (items_in bytes items) (items_in bytes left) n k nodes → ((behind : Items) → GivesFault file context (before (item_of bytes x) behind) k fault)
    → GivesFault file context (items_in bytes items) n fault
items_fail bytes file context items left rest x n k nodes fault is so_far next content has =
    let (others, has_others, gives) = so_far content has in
    let fails = next (items_in bytes rest) others (subst (λ (l : List Src). HasContent (items_in bytes l) others) is has_others) in
    fails_as _ _ fault gives (fails_then (λ (rest : Nodes). Ok (nodes_before nodes rest)) (nodes_of file context k others) fault fails)

pub items_begin : (bytes file : List ℕ) (context : Context) (items : List Src) (n : ℕ) (nodes : List Node) → nodes ≡ [] → Gives file context (items_in bytes items) (items_in bytes items) n n nodes
items_begin bytes file context items n nodes none content has =
    (content, has, rw none (sym (none_first (nodes_of file context n content))))

pub items_end : (bytes file : List ℕ) (context : Context) (items left : List Src) (n m : ℕ) (nodes list : List Node) → left ≡ [] → list ≡ nodes → Gives file context (items_in bytes items) (items_in bytes left) n m nodes
    → Gives file context (items_in bytes items) nil n m list
items_end bytes file context items left n m nodes list none same so_far =
    subst (λ (l : List Node). Gives file context (items_in bytes items) nil n m l) (sym same)
    (subst (λ (l : List Src). Gives file context (items_in bytes items) (items_in bytes l) n m nodes) none so_far)

pub count_step : (n k m : ℕ) (nodes more joined : List Node) → joined ≡ nodes ++ more → k ≡ n + node_count (nodes_in nodes) → m ≡ k + node_count (nodes_in more) → m ≡ n + node_count (nodes_in joined)
count_step n k m nodes more joined same before behind =
    let both = count_twice nodes more in
    let e : node_count (nodes_in joined) ≡ node_count (nodes_in (nodes ++ more)) = ap (λ (l : List Node). node_count (nodes_in l)) same in
    omega arith
