-- What a whole document gives.
use Rattle.std.proofs.Common.{◌≡◌, ℕ, List, subst, Ok, IfSome, Option, Some, None}
use Rattle.xt_spec.specs.Content.{Content, HasContent}
use Rattle.xt_spec.specs.Tree.{Items, nil}
use Rattle.xt_tree.specs.declared.source.Src.{Src}
use Rattle.xt_tree.specs.Meaning.{items_in}
use Rattle.bk_spec.specs.DocumentNodes.{Context, nodes_of}
use Rattle.bk_spec.specs.Opening.{top_context}
use Rattle.bk_info.specs.declared.node.Node.{Node}
use Rattle.bk_info.specs.Nodes.{nodes_in}
use Rattle.ent_doc.specs.Faults.{IsNodesFault}
use Rattle.bk_spec.specs.Fault.{Fault}
use Rattle.ent_doc.specs.Steps.{Gives, GivesFault}
use Rattle.ent_doc.proofs.ElementLemmas.{gives_all}

-- what is so of a context and a count is so of those that are the same
moved : (P : Context → ℕ → Type 0) (file : List ℕ) (context : Context) (n : ℕ) → context ≡ top_context file → n ≡ 0 → P context n → P (top_context file) 0
moved P file context n top none so = subst (λ (k : ℕ). P (top_context file) k) none (subst (λ (x : Context). P x n) top so)

pub document_gives : (file text : List ℕ) (items : List Src) (context : Context) (n m : ℕ) (nodes : List Node) → context ≡ top_context file → n ≡ 0 → Gives file context (items_in text items) nil n m nodes
    → (content : Content) → HasContent (items_in text items) content → nodes_of file (top_context file) 0 content ≡ Ok (nodes_in nodes)
document_gives file text items context n m nodes top none gives =
    gives_all file (top_context file) (items_in text items) 0 m nodes
    (moved (λ (x : Context) (k : ℕ). Gives file x (items_in text items) nil k m nodes) file context n top none gives)

is_fault : (file : List ℕ) (items : Items) (fault : Option Fault) → GivesFault file (top_context file) items 0 fault → IfSome fault (IsNodesFault file items)
is_fault file items (Some fault) gives = gives
is_fault file items None gives = tt

pub document_fails : (file text : List ℕ) (items : List Src) (context : Context) (n : ℕ) (fault : Option Fault) → context ≡ top_context file → n ≡ 0 → GivesFault file context (items_in text items) n fault
    → IfSome fault (IsNodesFault file (items_in text items))
document_fails file text items context n fault top none gives =
    is_fault file (items_in text items) fault (moved (λ (x : Context) (k : ℕ). GivesFault file x (items_in text items) k fault) file context n top none gives)
