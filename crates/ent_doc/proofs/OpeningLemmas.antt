-- From what each step of an opening answers to the whole.
use Rattle.std.proofs.Common.{◌≡◌, ◌∙◌, ◌↔◌, ℕ, ◌≤◌, List, length, Bool, true, false, IsTrue, refl, sym, subst, Ok, Option, Some, None, IfSome}
use Rattle.std.specs.Prelude.{option_map}
use Rattle.xt_spec.specs.Limit.{most_file_bytes}
use Rattle.xt_spec.specs.Tree.{Items}
use Rattle.xt_spec.specs.Reading.{document, IsReading}
use Rattle.xt_spec.specs.Content.{Content, HasContent}
use Rattle.bk_spec.specs.Node.{Nodes, has_inclusion}
use Rattle.bk_spec.specs.DocumentNodes.{nodes_of}
use Rattle.bk_spec.specs.Opening.{top_context, GivesNodes, IsOpen, IsUnopened, declares, faulty, includes}
use Rattle.bk_info.specs.declared.fault.BookFault.{BookFault}
use Rattle.bk_info.specs.declared.fault.BookFault.TheVariants as fault
use Rattle.bk_info.specs.Nodes.{fault_in}
use Rattle.xt_read.specs.declared.unread.Unread.{Unread}
use Rattle.xt_spec.specs.FirstFault.{ReadingFault, IsFirstFault}
use Rattle.xt_read.specs.Faults as spec
use Rattle.ent_doc.specs.declared.fault.OpenFault.{OpenFault}
use Rattle.ent_doc.specs.declared.fault.OpenFault.TheVariants.{Book, NoMemory}
use Rattle.ent_doc.specs.Faults.{IsNodesFault}
use Rattle.bk_spec.specs.FirstFault.{fault_of_reading, IsDocumentFault, no_reading, unopened}
use Rattle.ent_doc.specs.Opening.{open_fault, IsReadingFault}

abbrev pub Gives : Items → Type 0
Gives items = (content : Content) × HasContent items content

pub declaring : (file : List ℕ) (items : Items) (has : Bool) (e : OpenFault) → IsTrue has ↔ Gives items → has ≡ false → e ≡ Book (fault.NotYet file) → IfSome (open_fault e) (IsUnopened file items)
declaring file items has e exact none is = subst (λ (e : OpenFault). IfSome (open_fault e) (IsUnopened file items)) (sym is) (declares (λ content given. absurd (never has none (exact.1 (content, given)))))
  where
    never : (has : Bool) → has ≡ false → IsTrue has → ⊥
    never true none is = absurd (cc)
    never false none is = absurd (cc)

pub given_content : (items : Items) (has : Bool) → IsTrue has ↔ Gives items → has ≡ true → Gives items
given_content items true exact is = exact.0 refl
given_content items false exact is = absurd (cc)

-- the nodes are those of the content that there is
pub nodes_given : (file : List ℕ) (items : Items) (nodes : Nodes) → Gives items → ((content : Content) → HasContent items content → nodes_of file (top_context file) 0 content ≡ Ok nodes) → GivesNodes file (top_context file) 0 items nodes
nodes_given file items nodes (content, has) all = (content, has, all content has)

pub including : (file : List ℕ) (items : Items) (nodes : Nodes) (found : Bool) (e : OpenFault) → GivesNodes file (top_context file) 0 items nodes → found ≡ has_inclusion nodes → found ≡ true → e ≡ Book (fault.NotYet file) → IfSome (open_fault e) (IsUnopened file items)
including file items nodes found e gives exact is same = subst (λ (e : OpenFault). IfSome (open_fault e) (IsUnopened file items)) (sym same) (includes nodes gives (sym exact ∙ is))

pub opens : (file bytes : List ℕ) (items : Items) (nodes : Nodes) (found : Bool) → length bytes ≤ most_file_bytes → IsReading document bytes items → GivesNodes file (top_context file) 0 items nodes → found ≡ has_inclusion nodes → found ≡ false → IsOpen file bytes items nodes
opens file bytes items nodes found size reading gives exact is = record { size = size; reading = reading; gives = gives; apart = sym exact ∙ is }

pub nodes_fault : (file : List ℕ) (items : Items) (e : OpenFault) → Gives items → IfSome (open_fault e) (IsNodesFault file items) → IfSome (open_fault e) (IsUnopened file items)
nodes_fault file items NoMemory gives none = none
nodes_fault file items (Book f) (content, has) none = faulty content has (fault_in f) (none content has)

-- the fault of a file is that of its items, where it reads as items
pub items_fault : (file bytes : List ℕ) (items : Items) (e : OpenFault) → IsReading document bytes items → IfSome (open_fault e) (IsUnopened file items) → IfSome (open_fault e) (IsDocumentFault file bytes)
items_fault file bytes items NoMemory reading none = none
items_fault file bytes items (Book f) reading none = unopened items reading none

pub reading_fault : (file bytes : List ℕ) (cause : Unread) (f : BookFault) → IfSome (spec.reading_fault cause) (IsFirstFault document bytes) → IsReadingFault file cause f → IsDocumentFault file bytes (fault_in f)
reading_fault file bytes cause f is same = by (spec.reading_fault cause) is same
  where
    by : (o : Option ReadingFault) → IfSome o (IsFirstFault document bytes) → option_map (fault_of_reading file) o ≡ Some (fault_in f) → IsDocumentFault file bytes (fault_in f)
    by None is same = absurd (cc)
    by (Some c) is same = no_reading c is (let told : Some (fault_of_reading file c) ≡ Some (fault_in f) = same in cc)
