-- Markup that is no tag, after XML 1.0 (Fifth Edition), sections 2.5 to 2.7, and Namespaces in XML 1.0, section 7. A text
-- is the list of its bytes, as written.
--
--   begins           the text begins with a needle
--   lacks            the needle stands nowhere in the text
--   AreChars         any number of [2] Char
--   IsSectionOf      [18] CDSect of these characters; IsCDataSection: of some
--   IsCommentOf      [15] Comment of these characters; IsComment: of some that it may hold
--   IsPiOf           [16] PI of this target and these data; IsPi: of some that it may hold
use Rattle.std.specs.Prelude.{◌≡◌, ℕ, Bool, true, false, not, ◌&&◌, ◌==◌, IsTrue, List, [], ◌∷◌, ◌++◌, codes}
use Rattle.std.specs.List.{list_all}
use Rattle.std.specs.Str.{str_eq_ignore_ascii_case}
use Rattle.xt_spec.specs.Char.{is_char, is_space}
use Rattle.xt_spec.specs.Name.{IsSpeltBy, IsNCName}
use Rattle.xt_spec.specs.Tag.{IsBlank}

-- the text begins with the needle
abbrev pub begins : List ℕ → List ℕ → Bool
begins [] text = true
begins (c ∷ needle) [] = false
begins (c ∷ needle) (b ∷ text) = b == c && begins needle text

-- the needle, of one or more bytes, begins at no place of the text
abbrev pub lacks : List ℕ → List ℕ → Bool
lacks needle [] = true
lacks needle (b ∷ text) = not (begins needle (b ∷ text)) && lacks needle text

-- Char*
abbrev pub AreChars : List ℕ → Type 0
AreChars text = IsSpeltBy (λ cs. list_all is_char cs) text

-- [18] CDSect of these characters: [20] CData is any number of Chars without `]]>`
abbrev pub IsSectionOf : List ℕ → List ℕ → Type 0
IsSectionOf text inner = AreChars inner × IsTrue (lacks (codes "]]>") inner) × (text ≡ codes "<![CDATA[" ++ inner ++ codes "]]>")

-- [18] CDSect
abbrev pub IsCDataSection : List ℕ → Type 0
IsCDataSection text = (inner : List ℕ) × IsSectionOf text inner

-- [15] Comment of these characters, as written
abbrev pub IsCommentOf : List ℕ → List ℕ → Type 0
IsCommentOf text inner = text ≡ codes "<!--" ++ inner ++ codes "-->"

-- [15] Comment: with the first `-` of its end behind it, the text holds no `--`; so it holds none, and doesn't end in `-`
abbrev pub IsComment : List ℕ → Type 0
IsComment text = (inner : List ℕ) × AreChars inner × IsTrue (lacks (codes "--") (inner ++ codes "-")) × IsCommentOf text inner

-- `xml`, in any letter case
abbrev pub is_reserved : List ℕ → Bool
is_reserved target = str_eq_ignore_ascii_case target (codes "xml")

-- [17] PITarget, without a colon (Namespaces, section 7)
abbrev pub IsPiTarget : List ℕ → Type 0
IsPiTarget target = IsNCName target × (is_reserved target ≡ false)

abbrev pub begins_blank : List ℕ → Bool
begins_blank [] = false
begins_blank (b ∷ bytes) = is_space b

-- [16] PI of this target and these data, as written: the data begin behind all the white space that follows the target
pub record IsPiOf (text target inner : List ℕ) : Type 0 where
  pub space : List ℕ
  pub is_target : IsPiTarget target
  pub is_space : IsBlank space
  pub apart : space ≡ [] → inner ≡ []
  pub begins : begins_blank inner ≡ false
  pub spelled : text ≡ codes "<?" ++ target ++ space ++ inner ++ codes "?>"

-- [16] PI: the data are any number of Chars without `?>`
abbrev pub IsPi : List ℕ → Type 0
IsPi text = (target inner : List ℕ) × AreChars inner × IsTrue (lacks (codes "?>") inner) × IsPiOf text target inner
