-- What the crates above cite of this one.
--
--   body_is_read, read_is_body  the top of a document, and content, is what the longest tokens from left to right give, and
--                               nothing else is
--   comment_begins, pi_begins, doctype_begins, doctype_no_blank  what these leaves begin with
--   one_tree                    a text has at most one reading as a document; one_reading: .. in each role
--   a_reading_or_a_fault        in each role a file has a reading or a first fault
--   no_first_fault              a file with a reading has no fault
--   one_first_fault             a file has at most one
--   text_item_utf8              a text item is UTF-8, and takes at least one byte: text_item_some; so does a token: token_some
--   reading_spelled             each tag and leaf of a document that is read is spelled, and so is a leaf by itself:
--                               text_spelled, comment_spelled, pi_spelled
--   first_placed                items that are in place and spelled are so one by one, and an element's own
--                               (element_placed, element_spelled)
--   document_content_or_none    a document that is read gives content by itself, or gives none
pub use Rattle.xt_read.proofs.TextCuts.{token_some, text_item_utf8, text_item_some}
pub use Rattle.xt_read.proofs.ItemContent.{reading_spelled, first_placed, element_placed, element_spelled, text_spelled, comment_spelled, pi_spelled}
pub use Rattle.xt_read.proofs.Complete.{body_is_read, comment_begins, pi_begins, doctype_begins, doctype_no_blank}
pub use Rattle.xt_read.proofs.Sound.{read_is_body}
pub use Rattle.xt_read.proofs.Fronts.{one_tree}
pub use Rattle.xt_read.proofs.FirstFaults.{one_reading, a_reading_or_a_fault, no_first_fault, one_first_fault}
pub use Rattle.xt_read.proofs.SomeContent.{document_content_or_none}
