-- A document that isn't too long opens, or has a first fault.
use Rattle.std.proofs.Common.{◌≡◌, ◌≤◌, ℕ, List, length, refl, ◌⊎◌, inl, inr, Result, Ok, Err}
use Rattle.std.proofs.lemmas.Bool.{cases_Bool}
use Rattle.xt_spec.specs.Limit.{most_file_bytes}
use Rattle.xt_spec.specs.Tree.{Items}
use Rattle.xt_spec.specs.Reading.{document, IsReading}
use Rattle.xt_spec.specs.Content.{Content, HasContent}
use Rattle.xt_read.proofs.Theorems.{a_reading_or_a_fault, document_content_or_none}
use Rattle.bk_spec.specs.Node.{Nodes, has_inclusion}
use Rattle.bk_spec.specs.Fault.{Fault, not_yet}
use Rattle.bk_spec.specs.DocumentNodes.{nodes_of}
use Rattle.bk_spec.specs.Opening.{top_context, IsOpen, declares, faulty, includes}
use Rattle.bk_spec.specs.FirstFault.{fault_of_reading, IsDocumentFault, no_reading, unopened}

abbrev pub OpensOrFails : List ℕ → List ℕ → Type 0
OpensOrFails file bytes = ((items : Items) × (nodes : Nodes) × IsOpen file bytes items nodes) ⊎ ((fault : Fault) × IsDocumentFault file bytes fault)

with_content : (file bytes : List ℕ) (items : Items) (content : Content) → length bytes ≤ most_file_bytes → IsReading document bytes items → HasContent items content
    → (outcome : Result Nodes Fault) → nodes_of file (top_context file) 0 content ≡ outcome → OpensOrFails file bytes
with_content file bytes items content size reading has (Err fault) is = inr (fault, unopened items reading (faulty content has fault is))
with_content file bytes items content size reading has (Ok nodes) is = elim (cases_Bool (has_inclusion nodes)) [
  | inl found ↦ inr (not_yet file, unopened items reading (includes nodes (content, has, is) found))
  | inr none ↦ inl (items, nodes, record { size = size; reading = reading; gives = (content, has, is); apart = none })
]

pub opens_or_fails : (file bytes : List ℕ) → length bytes ≤ most_file_bytes → OpensOrFails file bytes
opens_or_fails file bytes size = elim (a_reading_or_a_fault document bytes) [
  | inr fault ↦ inr (fault_of_reading file fault.0, no_reading fault.0 fault.1 refl)
  | inl read ↦ elim (document_content_or_none bytes read.0 read.1) [
    | inl has ↦ with_content file bytes read.0 has.0 size read.1 has.1 (nodes_of file (top_context file) 0 has.0) refl
    | inr never ↦ inr (not_yet file, unopened read.0 read.1 (declares (λ content has. never (content, has))))
  ]
]
