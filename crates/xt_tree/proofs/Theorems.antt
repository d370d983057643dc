-- What the crates above cite.
--
--   text_in_place, texts_in_place  the text of an item, and of a list of items, is what stands at its place
--   element_is, element_marks      what an element is, and the marks of its parts
--   text_is, comment_is, ..        what a leaf is
--   kids_fewer, item_fewer         a walk down a tree ends
--   in_order                       marks begin before they end
pub use Rattle.xt_tree.proofs.ItemPlaces.{text_in_place, texts_in_place, element_is, element_marks, in_order, range_from_start, range_to_end}
pub use Rattle.xt_tree.proofs.LeafKinds.{text_is, reference_is, comment_is, pi_is, gap_is}
pub use Rattle.xt_tree.proofs.Sizes.{kids_fewer, item_fewer}
pub use Rattle.xt_tree.proofs.PlaceLemmas.{at_span_of, attribute_name_text, attribute_names_text, attribute_texts, attribute_value_text, attributes_stand, behind, in_place-append, in_place-split, name_stands, name_text, tag_stands}
