-- What the crates above cite of this one: laws of the tree after an edit of a text, with no call.
--
--   still_reads, edited_reads  a document with the text replaced reads as the edited tree
--   edited_content            which gives the edited content
--   edited_reads_as_text      .. and of a file that is read as a text
--   has_new_value             the new item is at the path, and its value is the new one
--   one_changes               the other tags and leaves stay; told_by_pieces: a tree is told by them
--   document_text_at          a text of a document is a text item
--   same_replaced             a text in its own place changes nothing
--   text_for_text             a text that stands in UTF-8 may be another text
pub use Rattle.ed_text.proofs.PieceLemmas.{one_changes, told_by_pieces}
pub use Rattle.ed_text.proofs.ContentLemmas.{edited_content}
pub use Rattle.ed_text.proofs.ReadingLemmas.{still_reads, edited_reads, has_new_value}
pub use Rattle.ed_text.proofs.TextEditLemmas.{document_text_at, same_replaced, new_at, no_mark}
pub use Rattle.ed_text.proofs.TextFileLemmas.{edited_reads_as_text}
pub use Rattle.ed_text.proofs.Utf8Lemmas.{text_for_text}
pub use Rattle.ed_text.proofs.StandingLemmas.{text_found}
