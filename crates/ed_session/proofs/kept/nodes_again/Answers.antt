use Rattle.std.proofs.Common.{List, ℕ, subst, sym}
use Rattle.xt_spec.specs.Reading.{document, IsReading}
use Rattle.xt_tree.specs.Meaning.{items_in}
use Rattle.ed_session.proofs.KeptLemmas.{made_of, no_fault_of_nodes, open_utf8}
use Rattle.ed_session.proofs.kept.nodes_again.Goals as goal

pub unreachable-requires : goal.unreachable-requires
unreachable-requires c = c.in_default.ensures.0 (open_utf8 c.args.root.now c.args.bytes.now _ c.requires.opens)

pub unreachable-requires-in-Err-Book : goal.unreachable-requires-in-Err-Book
unreachable-requires-in-Err-Book c = no_fault_of_nodes c.args.root.now c.in-Ok.text.now c.args.bytes.now c.args.items.now c.in-Err-Book.field-0 _ c.in-Err-Book.field-0-is c.in-Ok.ensures.0 c.requires.opens c.in-Err-Book.ensures.fault

pub document_nodes-requires-clause-reading : goal.document_nodes-requires-clause-reading
document_nodes-requires-clause-reading c = subst (λ (t : List ℕ). IsReading document t (items_in t c.args.items.now)) (sym c.in-Ok.ensures.0) c.requires.opens.1.reading

pub returns-in-Ok-document_nodes : goal.returns-in-Ok-document_nodes
returns-in-Ok-document_nodes c =
    let nodes = c.in-Ok-document_nodes.nodes in
    let made = made_of c.args.root.now c.in-Ok.text.now c.args.bytes.now c.args.items.now nodes c.in-Ok.ensures.0 c.requires.opens c.in-Ok-document_nodes.ensures.value c.in-Ok-document_nodes.ensures.paths c.in-Ok-document_nodes.ensures.via in
    record { value = made.opens; paths = made.paths; via = made.via }
