-- A document has one first fault, and none where it opens; it gives one list of nodes.
use Rattle.std.proofs.Common.{◌≡◌, ◌∙◌, ℕ, List, Result, Ok, Err, true, false, refl, sym, ap, subst}
use Rattle.xt_spec.specs.Tree.{Items}
use Rattle.xt_spec.specs.Reading.{document}
use Rattle.xt_spec.specs.Content.{Content, HasContent}
use Rattle.xt_read.proofs.Theorems.{one_tree, no_first_fault, one_first_fault}
use Rattle.xt_value.proofs.Theorems.{content_unique}
use Rattle.bk_spec.specs.Node.{Nodes, has_inclusion}
use Rattle.bk_spec.specs.Fault.{Fault}
use Rattle.bk_spec.specs.DocumentNodes.{nodes_of}
use Rattle.bk_spec.specs.Opening.{top_context, GivesNodes, IsOpen, IsUnopened, declares, faulty, includes}
use Rattle.bk_spec.specs.FirstFault.{fault_of_reading, IsDocumentFault, no_reading, unopened}

-- ---- the fault of items

abbrev outcome : List ℕ → Content → Result Nodes Fault
outcome file content = nodes_of file (top_context file) 0 content

same_outcome : (file : List ℕ) (items : Items) (c d : Content) → HasContent items c → HasContent items d → outcome file c ≡ outcome file d
same_outcome file items c d first second = ap (outcome file) (content_unique items c d first second)

unopened_once : (file : List ℕ) (items : Items) (a b : Fault) → IsUnopened file items a → IsUnopened file items b → a ≡ b
unopened_once file items _ _ (declares none) (declares also) = refl
unopened_once file items _ _ (declares none) (faulty content has fault gives) = absurd (none content has)
unopened_once file items _ _ (declares none) (includes nodes gives is) = absurd (none gives.0 gives.1)
unopened_once file items _ _ (faulty content has fault gives) (declares none) = absurd (none content has)
unopened_once file items _ _ (faulty content has a is) (faulty other also b same) =
    let faults : ◌≡◌ {A = Result Nodes Fault} (Err a) (Err b) = sym is ∙ same_outcome file items content other has also ∙ same in
    cc
unopened_once file items _ _ (faulty content has a is) (includes nodes gives found) =
    let bad : ◌≡◌ {A = Result Nodes Fault} (Err a) (Ok nodes) = sym is ∙ same_outcome file items content gives.0 has gives.1 ∙ gives.2 in
    absurd (cc)
unopened_once file items _ _ (includes nodes gives is) (declares none) = absurd (none gives.0 gives.1)
unopened_once file items _ _ (includes nodes gives found) (faulty content has a is) =
    let bad : ◌≡◌ {A = Result Nodes Fault} (Err a) (Ok nodes) = sym is ∙ same_outcome file items content gives.0 has gives.1 ∙ gives.2 in
    absurd (cc)
unopened_once file items _ _ (includes nodes gives is) (includes others also same) = refl

nodes_same : (file : List ℕ) (items : Items) (a b : Nodes) → GivesNodes file (top_context file) 0 items a → GivesNodes file (top_context file) 0 items b → a ≡ b
nodes_same file items a b first second =
    let nodes : ◌≡◌ {A = Result Nodes Fault} (Ok a) (Ok b) = sym first.2 ∙ same_outcome file items first.0 second.0 first.1 second.1 ∙ second.2 in
    cc

no_unopened : (file : List ℕ) (items : Items) (nodes : Nodes) (fault : Fault) → GivesNodes file (top_context file) 0 items nodes → has_inclusion nodes ≡ false → IsUnopened file items fault → ⊥
no_unopened file items nodes _ gives apart (declares none) = none gives.0 gives.1
no_unopened file items nodes _ gives apart (faulty content has a is) =
    let bad : ◌≡◌ {A = Result Nodes Fault} (Err a) (Ok nodes) = sym is ∙ same_outcome file items content gives.0 has gives.1 ∙ gives.2 in
    absurd (cc)
no_unopened file items nodes _ gives apart (includes others also found) =
    let bad : true ≡ false = sym found ∙ ap has_inclusion (nodes_same file items others nodes also gives) ∙ apart in
    absurd (cc)

-- ---- the whole

pub document_fault_once : (file bytes : List ℕ) (a b : Fault) → IsDocumentFault file bytes a → IsDocumentFault file bytes b → a ≡ b
document_fault_once file bytes a b (no_reading c is told) (no_reading d also same) = told ∙ ap (fault_of_reading file) (one_first_fault document bytes c d is also) ∙ sym same
document_fault_once file bytes a b (no_reading c is told) (unopened items reading none) = absurd (no_first_fault document bytes items c reading is)
document_fault_once file bytes a b (unopened items reading none) (no_reading c is told) = absurd (no_first_fault document bytes items c reading is)
document_fault_once file bytes a b (unopened i first none) (unopened j second also) =
    let same : i ≡ j = one_tree bytes i j first second in
    unopened_once file j a b (subst (λ (items : Items). IsUnopened file items a) same none) also

pub open_has_no_fault : (file bytes : List ℕ) (items : Items) (nodes : Nodes) (fault : Fault) → IsOpen file bytes items nodes → IsDocumentFault file bytes fault → ⊥
open_has_no_fault file bytes items nodes fault opens (no_reading c is told) = no_first_fault document bytes items c opens.reading is
open_has_no_fault file bytes items nodes fault opens (unopened others reading none) =
    let same : others ≡ items = one_tree bytes others items reading opens.reading in
    no_unopened file items nodes fault opens.gives opens.apart (subst (λ (i : Items). IsUnopened file i fault) same none)

pub opens_once : (file bytes : List ℕ) (i j : Items) (m n : Nodes) → IsOpen file bytes i m → IsOpen file bytes j n → (i ≡ j) × (m ≡ n)
opens_once file bytes i j m n first second =
    let same : i ≡ j = one_tree bytes i j first.reading second.reading in
    (same, nodes_same file j m n (subst (λ (items : Items). GivesNodes file (top_context file) 0 items m) same first.gives) second.gives)
