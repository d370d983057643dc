use Rattle.std.proofs.Common.{◌≡◌, subst, sym, List, [], ℕ, IfSome}
use Rattle.std.proofs.lemmas.Result.{err_from_is_err_and}
use Rattle.xt_spec.specs.Reading.{document, IsReading}
use Rattle.xt_tree.specs.Meaning.{items_in}
use Rattle.xt_tree.specs.declared.source.Src.{Src}
use Rattle.bk_info.specs.Nodes.{nodes_in}
use Rattle.bk_info.specs.Paths.{paths_in}
use Rattle.bk_spec.specs.NodePaths.{node_paths}
use Rattle.bk_spec.specs.Opening.{IsOpen, IsUnopened}
use Rattle.ent_doc.specs.Opening.{open_fault}
use Rattle.ent_doc.proofs.OpeningLemmas.{items_fault, reading_fault}
use Rattle.ent_doc.proofs.opening.open_document.Goals as goal

pub opened_nodes-requires-clause-reading : goal.opened_nodes-requires-clause-reading
opened_nodes-requires-clause-reading g c =
    subst (λ (t : List ℕ). IsReading document t (items_in t c.items.result)) (sym c.as_text.ensures.value)
    (subst (λ (l : List Src). IsReading document c.args.bytes.now (items_in c.args.bytes.now l)) (sym c.items.ensures.value) c.in-Ok.ensures.value)

pub returns-in_ok-nodes-in-Ok-clause-value : goal.returns-in_ok-nodes-in-Ok-clause-value
returns-in_ok-nodes-in-Ok-clause-value g c =
    subst (λ (l : List Src). IsOpen c.args.file.now c.args.bytes.now (items_in c.args.bytes.now l) (nodes_in c.in_ok-nodes-in-Ok.nodes)) c.items.ensures.value
    (subst (λ (t : List ℕ). IsOpen c.args.file.now t (items_in t c.items.result) (nodes_in c.in_ok-nodes-in-Ok.nodes)) c.as_text.ensures.value c.in_ok-nodes-in-Ok.ensures.value)

pub returns-in_ok-nodes-in-Ok-clause-paths : goal.returns-in_ok-nodes-in-Ok-clause-paths
returns-in_ok-nodes-in-Ok-clause-paths g c =
    subst (λ (l : List Src). paths_in c.in_ok-nodes-in-Ok.nodes ≡ node_paths [] 0 (items_in c.args.bytes.now l)) c.items.ensures.value
    (subst (λ (t : List ℕ). paths_in c.in_ok-nodes-in-Ok.nodes ≡ node_paths [] 0 (items_in t c.items.result)) c.as_text.ensures.value c.in_ok-nodes-in-Ok.ensures.paths)

pub returns-in_err-nodes-in-Ok-clause-fault : goal.returns-in_err-nodes-in-Ok-clause-fault
returns-in_err-nodes-in-Ok-clause-fault g c =
    let p = err_from_is_err_and c.from_residual.result c.from_residual.ensures.1 in
    rw (p.1, p.2)
    (items_fault c.args.file.now c.args.bytes.now (items_in c.args.bytes.now c.in-Ok.tape) c.in_err-nodes-in-Ok.field-0.0 c.in-Ok.ensures.value
    (subst (λ (l : List Src). IfSome (open_fault c.in_err-nodes-in-Ok.field-0.0) (IsUnopened c.args.file.now (items_in c.args.bytes.now l))) c.items.ensures.value
    (subst (λ (t : List ℕ). IfSome (open_fault c.in_err-nodes-in-Ok.field-0.0) (IsUnopened c.args.file.now (items_in t c.items.result))) c.as_text.ensures.value c.in_err-nodes-in-Ok.ensures.fault)))

pub returns-in_ok-fault_of-in-Err-clause-fault : goal.returns-in_ok-fault_of-in-Err-clause-fault
returns-in_ok-fault_of-in-Err-clause-fault g c = reading_fault c.args.file.now c.args.bytes.now c.in-Err.unread c.in_ok-fault_of-in-Err.field-0 c.in-Err.ensures.fault c.in_ok-fault_of-in-Err.ensures.value
