-- What the crates above cite of this one: laws of tokens, attributes, names and references, on lists of bytes alone.
--
--   token_longest        a text that spells a token is the longest one at the front of itself and what may follow it
--   spells_utf8          a token is UTF-8, so a text may be cut behind one: front_boundary; so is a name (qname_utf8) and an
--                        attribute's value (quoted_utf8)
--   front_some           a token takes at least one byte
--   some_front           a token stands at the front of a text, or none does
--   some_chars           so many bytes stand before the first character that is no Char
--   attribute_unique     a text begins with at most one attribute
--   no_attribute_at_end  none begins where the tag ends
--   name_unique          a text begins with at most one QName that ends there
--   tag_name_ends        the name of a tag ends as a name may; end_tag_name_ends is the same of an end-tag
--   tag_unique           a tag has its parts in one way
--   stands_unique        a reference stands for at most one character
--   stands_spells        what stands for a character spells a token; predefined_entity: an entity reference, if by its name
--   space_spells         white space is character data
--   subset_unique        a text has at most one front that is a subset with its `]` behind it
--   declaration_unique   a declaration declares one thing
--   names_no_entity      a character reference is no entity reference
pub use Rattle.xt_lex.proofs.Declarations.{declaration_unique}
pub use Rattle.xt_lex.proofs.Fronts.{front_some}
pub use Rattle.xt_lex.proofs.Longest.{token_longest}
pub use Rattle.xt_lex.proofs.Subsets.{subset_unique}
pub use Rattle.xt_lex.proofs.SomeFront.{some_front, some_chars}
pub use Rattle.xt_lex.proofs.Spelled.{predefined_entity, stands_spells, space_spells}
pub use Rattle.xt_lex.proofs.Texts.{spells_utf8, front_boundary}
pub use Rattle.xt_lex.proofs.Unique.{attribute_unique, no_attribute_at_end, name_unique, tag_name_ends, end_tag_name_ends, tag_unique, stands_unique, names_no_entity}
pub use Rattle.xt_lex.proofs.Cuts.{Stays, cut_behind, cut_found, cut_fresh_again, cut_missed, fresh_from_lacks}
pub use Rattle.xt_lex.proofs.DataLemmas.{drop_longer}
pub use Rattle.xt_lex.proofs.Fronts.{markup_begins, kinds, not_data, plain_bytes}
pub use Rattle.xt_lex.proofs.NameLemmas.{ncname_passes, qname_bytes, qname_nonempty}
pub use Rattle.xt_lex.proofs.Numbers.{number_grows}
pub use Rattle.xt_lex.proofs.Runs.{after_is, drop_while_is, boundary_at_stop, boundary_behind, boundary_behind_or_start, byte_len, hexadecimal_ascii, take_while_is, space_ascii}
pub use Rattle.xt_lex.proofs.Spelled.{plain_is_ncname}
pub use Rattle.xt_lex.proofs.Spelling.{bytes_lack, encode_joined, list_all_behind, list_all_joined, list_all_weaker, spelt_char, spelt_joined}
pub use Rattle.xt_lex.proofs.StepLemmas.{after_takes, drop_while_append, bind_some, take_while_append, take_while_passes, take_while_split, space_no_name, utf8_behind}
pub use Rattle.xt_lex.proofs.Utf8.{ascii, char_scalar, qname_utf8}
pub use Rattle.xt_lex.proofs.Values.{quoted_utf8}
