-- What the crates above cite of this one.
--
--   text_value_unique       a text item has one value
--   attribute_value_unique  an attribute has one value
--   has_value-is_literal    what has a value as an attribute's is [10] AttValue
--   comment_unique          a comment holds one text
--   pi_unique               a processing instruction has one target, and one text behind it
--   content_unique          items give one content
--   void_is_empty           an empty value is that of empty CDATA sections alone
pub use Rattle.xt_value.proofs.ContentLemmas.{comment_unique, pi_unique, content_unique}
pub use Rattle.xt_value.proofs.Literals.{has_value-is_literal}
pub use Rattle.xt_value.proofs.UniqueLemmas.{text_value_unique, attribute_value_unique}
pub use Rattle.xt_value.proofs.VoidLemmas.{void_is_empty}
