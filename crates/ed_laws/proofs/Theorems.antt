-- What the crates above cite of this one: laws of edits, with no call.
--
--   edit_changes_the_node   the nodes after an edit of a text; accepted_changes_the_node: after one that is accepted
--   an_edited_document_opens  after an accepted edit a document opens; accepted_opens: with the text at the place set
--   one_outcome             an edit has one outcome over given items: one_refusal, not_both, one_acceptance
--   place_has_node          a place leads to an item exactly where the nodes have one
--   in_text_once            a place leads to one text, of the same characters
--   has_an_outcome          over the items of a document that opens it has one; ordered_outcome: over those of any document
--   other_files_stay        an accepted edit changes the root alone
--   changes_one_text        .. and there the bytes of one text item; changes_one_text_in: of the root of a book
--   local_edit              both; local_steps: so do commands in a row, with undo and redo
--   one_reply               in a session a command has one reply, and leaves one session; one_run: commands in a row
--   one_refusal_in, not_both_in, one_book   .. of an edit of a book; one_count: two books differ in so many files
--   opens_once              a book opens with one list of items
--   one_value, same_chars   a text item has one value, of the same characters, which are Chars: value_chars
--   has_chars               a text item has a value, which is empty where it is void: void_value, some_not_void
pub use Rattle.ed_laws.proofs.Nodes.{edit_changes_the_node}
pub use Rattle.ed_laws.proofs.Opened.{accepted_changes_the_node, accepted_opens, an_edited_document_opens, has_an_outcome}
pub use Rattle.ed_laws.proofs.Outcomes.{one_refusal, not_both, one_acceptance, one_outcome, in_text_once, ordered_outcome, other_files_stay}
pub use Rattle.ed_laws.proofs.Bytes.{changes_one_text, changes_one_text_in}
pub use Rattle.ed_laws.proofs.Replies.{opens_once, one_refusal_in, not_both_in, one_book, one_count, one_reply, one_run}
pub use Rattle.ed_laws.proofs.Values.{one_value, same_chars, value_chars, has_chars}
pub use Rattle.ed_laws.proofs.VoidTexts.{void_value, some_not_void}
pub use Rattle.ed_laws.proofs.LocalSteps.{local_edit, local_steps}
pub use Rattle.ed_laws.proofs.Places.{place_leads}
pub use Rattle.ed_laws.proofs.NodePlaces.{place_has_node}
