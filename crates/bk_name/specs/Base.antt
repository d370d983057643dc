-- The base of a book, and the URIs of its files, of this project's own. A text is the list of its bytes.
-- Percent-encoding is that of RFC 3986, section 2.1, as the crate `percent_encoding` has it.
--
--   is_base        the URI of a folder: scheme file, http or https, `/` at its end, no query, no fragment
--   IsBase         the same, with the URL
--   escaped_name   a name as the rest of a URI
--   uri_text       the URI of the file of a name
--   name_in        the name of the file that a URI names
use Rattle.std.specs.Prelude.{◌≡◌, ℕ, Bool, true, false, not, ◌&&◌, ◌||◌, ◌==◌, ◌-◌, nat_eq, List, [], ◌∷◌, ◌++◌, length, drop, slice_index, codes, bytes_eq, Option, Some, None, is_some, unwrap_or, option_map, if◌then◌else◌}
use Rattle.std.specs.List.{list_any, starts_with, flat_map}
use Rattle.std.specs.Char.{is_ascii_alphanumeric}
use Rattle.percent_encoding.specs.Percent.{percent_encode_byte, percent_decode}
use Rattle.url.specs.Parts.{Parts, serialize, IsValid}
use Rattle.url.specs.Canonical.{IsCanonical}
use Rattle.bk_name.specs.FileName.{is_file_name}
use Rattle.bk_name.specs.Uri.{url_of, reads_back}

-- one of file, http and https
abbrev pub is_base_scheme : List ℕ → Bool
is_base_scheme scheme = bytes_eq scheme (codes "file") || bytes_eq scheme (codes "http") || bytes_eq scheme (codes "https")

-- the last byte is a slash; an empty path has none
abbrev pub ends_in_slash : List ℕ → Bool
ends_in_slash path = slice_index path (length path - 1) == 0x2F

-- the URL of a folder in one of the three schemes; an empty query is a query
abbrev pub is_base_url : Parts → Bool
is_base_url url = is_base_scheme url.scheme && ends_in_slash url.path && not (is_some url.query) && not (is_some url.fragment)

-- the text reads back as itself, and is the URL of a folder
unfoldable pub is_base : List ℕ → Bool
is_base text = reads_back text && unwrap_or (option_map is_base_url (url_of text)) false

-- a valid URL in the form that the parser gives, of a folder
pub record IsBaseUrl (url : Parts) : Type 0 where
  pub valid : IsValid url
  pub canonical : IsCanonical url
  pub base : is_base_url url ≡ true

-- the text of such a URL
pub record IsBase (text : List ℕ) : Type 0 where
  pub url : Parts
  pub is : IsBaseUrl url
  pub spelled : serialize url ≡ text

-- a byte that stands in a URI as it is: an ASCII letter or digit, or one of - . _ ~ /
abbrev pub is_unescaped : ℕ → Bool
is_unescaped b = is_ascii_alphanumeric b || b == 0x2D || b == 0x2E || b == 0x5F || b == 0x7E || b == 0x2F

-- a byte as it stands, or `%` and its two upper-case hexadecimal digits
abbrev pub escaped_byte : ℕ → List ℕ
escaped_byte b = if is_unescaped b then b ∷ [] else percent_encode_byte b

-- each byte of the name escaped, but for those that stand as they are
unfoldable pub escaped_name : List ℕ → List ℕ
escaped_name name = flat_map escaped_byte name

-- the base, and behind it the escaped name
abbrev pub uri_text : List ℕ → List ℕ → List ℕ
uri_text base name = base ++ escaped_name name

-- a query or a fragment begins in it
abbrev pub has_tail : List ℕ → Bool
has_tail rest = list_any (λ b. b == 0x3F || b == 0x23) rest

-- the percent-decoded rest, where it has no query and no fragment and is a name
abbrev pub name_spelled : List ℕ → Option (List ℕ)
name_spelled rest = if not (has_tail rest) && is_file_name (percent_decode rest) then Some (percent_decode rest) else None

-- the name of the file that the URI names; none where it lies outside the book
unfoldable pub name_in : List ℕ → List ℕ → Option (List ℕ)
name_in base uri = if starts_with nat_eq uri base then name_spelled (drop (length base) uri) else None
