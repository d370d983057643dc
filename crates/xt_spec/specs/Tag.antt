-- Tags, after XML 1.0 (Fifth Edition), sections 2.3, 3.1 and 3.3.3, and Namespaces in XML 1.0, section 3: the parts of
-- their spelling, as written. A text is the list of its bytes.
--
--   Attribute, attribute_text  S and [41] Attribute, in four parts
--   Tag, tag_text              [40] STag or [44] EmptyElemTag, in its parts
--   IsEndTag                   [42] ETag
use Rattle.std.specs.Prelude.{◌≡◌, ℕ, Bool, not, ◌&&◌, ◌==◌, IsTrue, List, [], ◌∷◌, ◌++◌, ◌≢◌, ◌⊎◌, codes, encode_utf8, map}
use Rattle.std.specs.List.{AllByRecursion, list_all, concat}
use Rattle.xt_spec.specs.Char.{is_char, is_space}
use Rattle.xt_spec.specs.Name.{IsQName}
use Rattle.xt_spec.specs.Reference.{NamesChar, IsEntityRef}

-- optional white space
abbrev pub IsBlank : List ℕ → Type 0
IsBlank text = IsTrue (list_all is_space text)

-- [3] S
abbrev pub IsSpace : List ℕ → Type 0
IsSpace text = IsBlank text × (text ≢ [])

-- [25] Eq
abbrev pub IsEq : List ℕ → Type 0
IsEq text = (before behind : List ℕ) × IsBlank before × IsBlank behind × (text ≡ before ++ codes "=" ++ behind)

-- [67] Reference
abbrev pub IsReference : List ℕ → Type 0
IsReference text = ((c : ℕ) × NamesChar text c) ⊎ IsEntityRef text

-- a code point that stands for itself in a value between quotes q
abbrev pub is_value_char : ℕ → ℕ → Bool
is_value_char q c = is_char c && not (c == 0x3C) && not (c == 0x26) && not (c == q)

-- one part of a value between quotes q: a character, or a reference
abbrev pub IsValuePart : ℕ → List ℕ → Type 0
IsValuePart q part = ((c : ℕ) × IsTrue (is_value_char q c) × (part ≡ encode_utf8 c)) ⊎ IsReference part

abbrev pub IsQuote : ℕ → Type 0
IsQuote q = (q ≡ 0x22) ⊎ (q ≡ 0x27)

-- [10] AttValue, with its quotes
abbrev pub IsAttValue : List ℕ → Type 0
IsAttValue text = (q : ℕ) × (parts : List (List ℕ)) × IsQuote q × AllByRecursion (IsValuePart q) parts
    × (text ≡ (q ∷ concat parts) ++ q ∷ [])

-- an attribute in a tag: the white space before it, its name, Eq, and its value with the quotes
pub record Attribute : Type 0 where
  pub space : List ℕ
  pub name : List ℕ
  pub equals : List ℕ
  pub quoted : List ℕ

abbrev pub attribute_text : Attribute → List ℕ
attribute_text a = a.space ++ a.name ++ a.equals ++ a.quoted

-- S and [41] Attribute
pub record IsAttribute (a : Attribute) : Type 0 where
  pub space : IsSpace a.space
  pub name : IsQName a.name
  pub equals : IsEq a.equals
  pub quoted : IsAttValue a.quoted

-- a start-tag or empty-element tag but for its end: the name, the attributes, and the white space behind them
pub record Tag : Type 0 where
  pub name : List ℕ
  pub attributes : List Attribute
  pub blank : List ℕ

-- the text of a tag that ends so
abbrev pub tag_text : Tag → List ℕ → List ℕ
tag_text tag ending = codes "<" ++ tag.name ++ concat (map attribute_text tag.attributes) ++ tag.blank ++ ending

-- [40] STag and [44] EmptyElemTag, but for their ends. That no two attributes have one name is asked of the reading.
pub record IsTag (tag : Tag) : Type 0 where
  pub name : IsQName tag.name
  pub attributes : AllByRecursion IsAttribute tag.attributes
  pub blank : IsBlank tag.blank

-- [42] ETag, of this name
abbrev pub IsEndTag : List ℕ → List ℕ → Type 0
IsEndTag name text = (blank : List ℕ) × IsBlank blank × (text ≡ codes "</" ++ name ++ blank ++ codes ">")
