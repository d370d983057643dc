-- The names of a book's files, of this project's own. A text is the list of its bytes.
-- NameChar is that of XML 1.0 (Fifth Edition), section 2.3, [4a].
--
--   segments_of          the parts between the slashes
--   is_file_name_char    a character that a segment may hold
--   is_reserved          what no segment is, whatever its characters
--   is_segment           what may stand between two slashes
--   is_file_name         one or more segments, 255 bytes at most
use Rattle.std.specs.Prelude.{ℕ, Bool, not, ◌&&◌, ◌||◌, ◌==◌, nat_le, nat_eq, List, length, codes, bytes_eq}
use Rattle.std.specs.List.{list_all, slice_split, starts_with}
use Rattle.std.specs.Char.{is_ascii_alphanumeric}
use Rattle.std.specs.Str.{chars, is_utf8}
use Rattle.xt_spec.specs.Limit.{most_name_bytes}
use Rattle.xt_spec.specs.Char.{is_name_char}

-- the parts between the slashes, in order; a text without a slash is one part
abbrev pub segments_of : List ℕ → List (List ℕ)
segments_of bytes = slice_split (λ b. b == 0x2F) bytes

-- one of - . _ ~ and the space
abbrev pub is_mark : ℕ → Bool
is_mark c = c == 0x2D || c == 0x2E || c == 0x5F || c == 0x7E || c == 0x20

-- the code point of an ASCII letter or digit, a mark, or a NameChar from U+00B7 up
abbrev pub is_file_name_char : ℕ → Bool
is_file_name_char c = is_ascii_alphanumeric c || is_mark c || (nat_le 0xB7 c && is_name_char c)

-- each character of the text may stand in a segment
abbrev pub are_file_name_chars : List ℕ → Bool
are_file_name_chars text = list_all is_file_name_char (chars text)

-- empty, a dot segment (RFC 3986, section 5.2.4), or of the control files
abbrev pub is_reserved : List ℕ → Bool
is_reserved text =
    length text == 0 || bytes_eq text (codes ".") || bytes_eq text (codes "..") || starts_with nat_eq text (codes ".burst-")

-- what may stand between two slashes
abbrev pub is_segment : List ℕ → Bool
is_segment text = not (is_reserved text) && are_file_name_chars text

-- each part between the slashes is a segment
abbrev pub are_segments : List ℕ → Bool
are_segments text = list_all is_segment (segments_of text)

-- the bytes are UTF-8, 255 at most, and each part between the slashes is a segment
unfoldable pub is_file_name : List ℕ → Bool
is_file_name bytes = is_utf8 bytes && nat_le (length bytes) most_name_bytes && are_segments bytes
