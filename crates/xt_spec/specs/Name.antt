-- Names, after XML 1.0 (Fifth Edition), section 2.3, and Namespaces in XML 1.0, sections 3 and 4.
-- A text is the list of its bytes.
--
--   IsSpeltBy  the text is the UTF-8 of characters that pass a test
--   IsName     [5] Name
--   IsNCName   Namespaces, [4] NCName
--   IsQName    Namespaces, [7] QName
use Rattle.std.specs.Prelude.{◌≡◌, ℕ, Bool, false, ◌&&◌, IsTrue, List, [], ◌∷◌, ◌++◌, encode_utf8_all, ◌⊎◌}
use Rattle.std.specs.List.{list_all}
use Rattle.xt_spec.specs.Char.{is_name_start_char, is_name_char, is_not_colon}

-- the characters are a NameStartChar and any number of NameChars
abbrev pub are_name_chars : List ℕ → Bool
are_name_chars [] = false
are_name_chars (c ∷ cs) = is_name_start_char c && list_all is_name_char cs

-- .. and none of them is a colon
abbrev pub are_ncname_chars : List ℕ → Bool
are_ncname_chars cs = are_name_chars cs && list_all is_not_colon cs

-- the text is the UTF-8 of characters that pass the test
abbrev pub IsSpeltBy : (List ℕ → Bool) → List ℕ → Type 0
IsSpeltBy test text = (characters : List ℕ) × (encode_utf8_all characters ≡ text) × IsTrue (test characters)

-- [5] Name
abbrev pub IsName : List ℕ → Type 0
IsName text = IsSpeltBy are_name_chars text

-- Namespaces, [4] NCName: a Name without a colon
abbrev pub IsNCName : List ℕ → Type 0
IsNCName text = IsSpeltBy are_ncname_chars text

-- Namespaces, [7] QName: an NCName, or two with a colon between
abbrev pub IsQName : List ℕ → Type 0
IsQName text = IsNCName text
    ⊎ ((prefix local : List ℕ) × IsNCName prefix × IsNCName local × (text ≡ prefix ++ 0x3A ∷ local))
