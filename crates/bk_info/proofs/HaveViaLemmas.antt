-- Nodes that came through the same references.
use Rattle.std.proofs.Common.{◌≡◌, ◌∙◌, List, [], ◌∷◌, ◌++◌, ℕ, refl, sym, ap, append_assoc, append-nil}
use Rattle.std.proofs.lemmas.List.Elements.{All-nil, All-cons, All-same, All-append}
use Rattle.xt_spec.specs.Namespace.{Expanded}
use Rattle.bk_spec.specs.DocumentNodes.{Context}
use Rattle.bk_info.specs.Address.{Address}
use Rattle.bk_info.specs.declared.reference.Reference.{Reference}
use Rattle.bk_info.specs.declared.attr.Attr.{Attr}
use Rattle.bk_info.specs.declared.node.Node.{Node}
use Rattle.bk_info.specs.declared.node.Node.TheVariants as node
use Rattle.bk_info.specs.declared.node.Node.TheOpen.{Node-F}
use Rattle.bk_info.specs.declared.node.Node.TheFolds.{fold-roll-Node}
use Rattle.bk_info.specs.Vias.{via_step, vias_of, vias_in, HaveVia}

-- ---- the references of a node and of what it holds

pub element_vias : (name : Expanded) (attrs : List Attr) (context : Context) (kids : List Node) (address : Address) → vias_of (node.Elem name attrs context kids address) ≡ address.via ∷ vias_in kids
element_vias name attrs context kids address = ap vias_of (sym (node.rolls-Elem name attrs context kids address)) ∙ fold-roll-Node (List (List Reference)) via_step (Node-F.Elem name attrs context kids address)

pub text_vias : (value : List ℕ) (address : Address) → vias_of (node.Text value address) ≡ address.via ∷ []
text_vias value address = ap vias_of (sym (node.rolls-Text value address)) ∙ fold-roll-Node (List (List Reference)) via_step (Node-F.Text value address)

pub comment_vias : (value : List ℕ) (address : Address) → vias_of (node.Comment value address) ≡ address.via ∷ []
comment_vias value address = ap vias_of (sym (node.rolls-Comment value address)) ∙ fold-roll-Node (List (List Reference)) via_step (Node-F.Comment value address)

pub pi_vias : (target value : List ℕ) (address : Address) → vias_of (node.Pi target value address) ≡ address.via ∷ []
pi_vias target value address = ap vias_of (sym (node.rolls-Pi target value address)) ∙ fold-roll-Node (List (List Reference)) via_step (Node-F.Pi target value address)

-- ---- nodes that came through the same ones

pub vias_in-append : (xs ys : List Node) → vias_in (xs ++ ys) ≡ vias_in xs ++ vias_in ys
vias_in-append [] ys = refl
vias_in-append (x ∷ xs) ys = ap (λ (l : List (List Reference)). vias_of x ++ l) (vias_in-append xs ys) ∙ sym (append_assoc (vias_of x) (vias_in xs) (vias_in ys))

pub none_have_via : (via : List Reference) (nodes : List Node) → nodes ≡ [] → HaveVia via nodes
none_have_via via nodes none = rw none (All-nil (λ (own : List Reference). own ≡ via))

pub both_have_via : (via : List Reference) (xs ys : List Node) → HaveVia via xs → HaveVia via ys → HaveVia via (xs ++ ys)
both_have_via via xs ys before behind =
    All-same (λ (own : List Reference). own ≡ via) (vias_in (xs ++ ys)) (vias_in xs ++ vias_in ys) (vias_in-append xs ys) (All-append (λ (own : List Reference). own ≡ via) (vias_in xs) (vias_in ys) before behind)

-- a node, whose own references stand before those of what it holds
with_kids : (address : Address) (x : Node) (kids : List Node) → vias_of x ≡ address.via ∷ vias_in kids → HaveVia address.via kids → HaveVia address.via (x ∷ [])
with_kids address x kids is held =
    All-same (λ (own : List Reference). own ≡ address.via) (vias_in (x ∷ [])) (address.via ∷ vias_in kids) (append-nil (vias_of x) ∙ is) (All-cons (λ (own : List Reference). own ≡ address.via) address.via (vias_in kids) refl held)

alone : (address : Address) (x : Node) → vias_of x ≡ address.via ∷ [] → HaveVia address.via (x ∷ [])
alone address x is = with_kids address x [] is (none_have_via address.via [] refl)

pub element_has_via : (name : Expanded) (attrs : List Attr) (context : Context) (kids : List Node) (address : Address) → HaveVia address.via kids → HaveVia address.via (node.Elem name attrs context kids address ∷ [])
element_has_via name attrs context kids address held = with_kids address (node.Elem name attrs context kids address) kids (element_vias name attrs context kids address) held

pub text_has_via : (value : List ℕ) (address : Address) → HaveVia address.via (node.Text value address ∷ [])
text_has_via value address = alone address (node.Text value address) (text_vias value address)

pub comment_has_via : (value : List ℕ) (address : Address) → HaveVia address.via (node.Comment value address ∷ [])
comment_has_via value address = alone address (node.Comment value address) (comment_vias value address)

pub pi_has_via : (target value : List ℕ) (address : Address) → HaveVia address.via (node.Pi target value address ∷ [])
pi_has_via target value address = alone address (node.Pi target value address) (pi_vias target value address)
