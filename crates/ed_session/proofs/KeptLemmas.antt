-- The same bytes with the same items open, and are a file that a save may write.
use Rattle.std.proofs.Common.{◌≡◌, ℕ, ◌≤◌, List, [], length, Option, Some, None, Ok, ◌∙◌, sym, subst, Vec}
use Rattle.std.specs.Prelude.{IsUtf8}
use Rattle.std.specs.Global.{Global}
use Rattle.xt_spec.specs.Limit.{most_file_bytes}
use Rattle.xt_spec.specs.Tree.{Items}
use Rattle.xt_spec.specs.Content.{Content, HasContent}
use Rattle.bk_spec.specs.Node.{Nodes}
use Rattle.bk_spec.specs.DocumentNodes.{nodes_of}
use Rattle.bk_spec.specs.NodePaths.{node_paths}
use Rattle.bk_spec.specs.Opening.{top_context, IsOpen}
use Rattle.bk_info.specs.declared.fault.BookFault.{BookFault}
use Rattle.bk_info.specs.declared.node.Node.{Node}
use Rattle.bk_info.specs.Nodes.{nodes_in, fault_in}
use Rattle.bk_info.specs.Paths.{paths_in}
use Rattle.bk_info.specs.Vias.{HaveVia}
use Rattle.xt_tree.specs.declared.source.Src.{Src}
use Rattle.xt_tree.specs.Meaning.{items_in}
use Rattle.xt_tree.specs.Places.{marks_of, AreInPlace}
use Rattle.ent_doc.specs.declared.fault.OpenFault.{OpenFault}
use Rattle.ent_doc.specs.declared.fault.OpenFault.TheVariants as opening
use Rattle.ent_doc.specs.Faults.{IsNodesFault}
use Rattle.ent_doc.specs.Opening.{open_fault}
use Rattle.std.specs.Option.{IfSome}
use Rattle.ed_session.specs.Kept.{saved_of, Opens, IsMadeOf, IsOpenRoot}

pub same_opens : (q r a b : List ℕ) (i j : List Src) → q ≡ r → a ≡ b → i ≡ j → Opens r b (items_in b j) → Opens q a (items_in a i)
same_opens q r a b i j root bytes items is =
    subst (λ (k : List ℕ). Opens k a (items_in a i)) (sym root) (subst (λ (l : List ℕ). Opens r l (items_in l i)) (sym bytes) (subst (λ (k : List Src). Opens r b (items_in b k)) (sym items) is))

-- a root whose nodes were just made
pub is_open_root : (root a b : List ℕ) (items : List Src) (nodes : List Node) (saved : Option (Vec ℕ Global)) → a ≡ b → IsMadeOf root b items nodes → AreInPlace b 0 (marks_of items) (length b)
    → length (saved_of saved a) ≤ most_file_bytes → IsOpenRoot root a items (Some nodes) saved
is_open_root root a b items nodes saved bytes made place size =
    let same : IsMadeOf root a items nodes = subst (λ (l : List ℕ). IsMadeOf root l items nodes) (sym bytes) made in
    record {
      opens = (nodes_in nodes, same.opens);
      nodes_are = same;
      place = subst (λ (l : List ℕ). AreInPlace l 0 (marks_of items) (length l)) (sym bytes) place;
      size = size;
    }

-- .. and one whose nodes aren't kept
pub is_edited_root : (root a b : List ℕ) (items : List Src) (saved : Option (Vec ℕ Global)) → a ≡ b → Opens root b (items_in b items) → AreInPlace b 0 (marks_of items) (length b) → length (saved_of saved a) ≤ most_file_bytes
    → IsOpenRoot root a items None saved
is_edited_root root a b items saved bytes opens place size = record {
  opens = subst (λ (l : List ℕ). Opens root l (items_in l items)) (sym bytes) opens;
  nodes_are = tt;
  place = subst (λ (l : List ℕ). AreInPlace l 0 (marks_of items) (length l)) (sym bytes) place;
  size = size;
}

-- the nodes of a document that opens are those that its content gives
pub opens_with : (file text bytes : List ℕ) (items : List Src) (nodes : Nodes) → text ≡ bytes → Opens file bytes (items_in bytes items)
    → ((content : Content) → HasContent (items_in text items) content → nodes_of file (top_context file) 0 content ≡ Ok nodes) → IsOpen file bytes (items_in bytes items) nodes
opens_with file text bytes items nodes same (known, opens) are =
    let (content, has, gives) = opens.gives in
    let both = sym gives ∙ are content (subst (λ (l : List ℕ). HasContent (items_in l items) content) (sym same) has) in
    let one : known ≡ nodes = cc in
    subst (λ (ns : Nodes). IsOpen file bytes (items_in bytes items) ns) one opens

-- the bytes of a document that opens are UTF-8
pub open_utf8 : (root bytes : List ℕ) (items : Items) → Opens root bytes items → IsUtf8 bytes
open_utf8 root bytes items (nodes, opens) = opens.reading.utf8

-- .. with the paths of their items
pub made_of : (file text bytes : List ℕ) (items : List Src) (nodes : List Node) → text ≡ bytes → Opens file bytes (items_in bytes items)
    → ((content : Content) → HasContent (items_in text items) content → nodes_of file (top_context file) 0 content ≡ Ok (nodes_in nodes))
    → ((content : Content) → HasContent (items_in text items) content → paths_in nodes ≡ node_paths [] 0 (items_in text items)) → HaveVia [] nodes → IsMadeOf file bytes items nodes
made_of file text bytes items nodes same opens are have via =
    let (content, has, gives) = opens.1.gives in
    record {
      opens = opens_with file text bytes items (nodes_in nodes) same opens are;
      paths = subst (λ (l : List ℕ). paths_in nodes ≡ node_paths [] 0 (items_in l items)) same (have content (subst (λ (l : List ℕ). HasContent (items_in l items) content) (sym same) has));
      via = via;
    }

-- .. so it has no fault
pub no_fault_of_nodes : (file text bytes : List ℕ) (items : List Src) (e : OpenFault) (fault : BookFault) → e ≡ opening.Book fault → text ≡ bytes → Opens file bytes (items_in bytes items)
    → IfSome (open_fault e) (IsNodesFault file (items_in text items)) → ⊥
no_fault_of_nodes file text bytes items e fault book same (known, opens) is =
    let (content, has, gives) = opens.gives in
    let faulty : IsNodesFault file (items_in text items) (fault_in fault) = subst (λ (f : OpenFault). IfSome (open_fault f) (IsNodesFault file (items_in text items))) book is in
    let both = sym gives ∙ faulty content (subst (λ (l : List ℕ). HasContent (items_in l items) content) (sym same) has) in
    absurd (cc)

-- the same bytes, with the same items, have the same nodes
pub same_made : (q r a b : List ℕ) (i j : List Src) (nodes : List Node) → q ≡ r → a ≡ b → i ≡ j → IsMadeOf r b j nodes → IsMadeOf q a i nodes
same_made q r a b i j nodes root bytes items is =
    subst (λ (k : List ℕ). IsMadeOf k a i nodes) (sym root) (subst (λ (l : List ℕ). IsMadeOf r l i nodes) (sym bytes) (subst (λ (k : List Src). IsMadeOf r b k nodes) (sym items) is))
