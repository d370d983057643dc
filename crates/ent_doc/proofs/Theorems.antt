-- What the crates above cite of this one.
--
--   document_fault_once   a document has one first fault
--   open_has_no_fault     .. and none where it opens
--   opens_or_fails        a document that isn't too long opens, or has one
--   opens_once            it opens with one list of items, and of nodes
pub use Rattle.ent_doc.proofs.SomeOpening.{OpensOrFails, opens_or_fails}
pub use Rattle.ent_doc.proofs.OnceLemmas.{document_fault_once, open_has_no_fault, opens_once}
