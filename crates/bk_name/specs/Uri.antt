-- URIs as texts, after the URL Standard, sections 4.4 (parsing) and 4.5 (serializing). A text is the list of its bytes.
-- `parse_url` and `serialize` are the standard's, of the crate `url`.
--
--   url_of             the URL that a text spells by itself
--   ReadsBack          parsed and serialized, the text is itself
--   IsUri              the text of a valid URL in the form that the parser gives; parsed at any base, it is that URL
--   joined             the text that a reference gives at a base
--   without_fragment   the text of a URI, serialized with the fragment left out
use Rattle.std.specs.Prelude.{◌≡◌, Bool, List, ℕ, bytes_eq, Option, Some, None, unwrap_or, option_map, option_and_then, if◌then◌else◌}
use Rattle.std.specs.Option.{option_eq}
use Rattle.std.specs.Result.{result_ok}
use Rattle.url.specs.Parser.{parse_url}
use Rattle.url.specs.Parts.{Parts, serialize, IsValid}
use Rattle.url.specs.Canonical.{IsCanonical}

-- the URL that a text spells by itself, at no base
abbrev pub url_of : List ℕ → Option Parts
url_of text = result_ok (parse_url None text)

-- the serialized URL of a text; none where the text spells no URL
abbrev pub rewritten : List ℕ → Option (List ℕ)
rewritten text = option_map serialize (url_of text)

-- the text spells a URL whose serialization is the text
abbrev pub ReadsBack : List ℕ → Type 0
ReadsBack text = rewritten text ≡ Some text

-- the test of it
abbrev pub reads_back : List ℕ → Bool
reads_back text = option_eq bytes_eq (rewritten text) (Some text)

-- a valid URL in the form that the parser gives
pub record IsUriUrl (url : Parts) : Type 0 where
  pub valid : IsValid url
  pub canonical : IsCanonical url

-- the text of such a URL
pub record IsUri (text : List ℕ) : Type 0 where
  pub url : Parts
  pub is : IsUriUrl url
  pub spelled : serialize url ≡ text

-- the text of a URL, where it reads back as itself
abbrev pub own_text : Parts → Option (List ℕ)
own_text url = if reads_back (serialize url) then Some (serialize url) else None

-- the URL that a reference spells at a base; none where the parser refuses it
abbrev pub url_at : Parts → List ℕ → Option Parts
url_at base reference = result_ok (parse_url (Some base) reference)

-- the text that a reference gives at a base; none where it spells no URL there, or one that doesn't read back
unfoldable pub joined : List ℕ → List ℕ → Option (List ℕ)
joined base reference = option_and_then (λ (b : Parts). option_and_then own_text (url_at b reference)) (url_of base)

-- the URL with no fragment
abbrev pub cut : Parts → Parts
cut url = record url { fragment = None }

-- the serialized URL of a text, its fragment left out; a text that spells no URL stays
unfoldable pub without_fragment : List ℕ → List ℕ
without_fragment text = unwrap_or (option_map (λ (url : Parts). serialize (cut url)) (url_of text)) text
