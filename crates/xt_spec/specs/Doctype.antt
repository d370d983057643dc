-- The DOCTYPE declaration, after XML 1.0 (Fifth Edition), sections 2.3, 2.8 and 4.2.2, and Namespaces in XML 1.0, section 4.
-- A text is the list of its bytes, as written.
-- Here: the internal subset ends at the first `]` outside of literals, comments and processing instructions. Whether it is
-- well-formed is not asked, and its characters need not be Chars.
--
--   IsExternalId  [75] ExternalID
--   SubsetPart    a literal, a comment, a PI, or another byte of a subset
--   IsSubset      the text may stand between the brackets
--   IsDoctype     [28] doctypedecl, but for what its subset holds
use Rattle.std.specs.Prelude.{◌≡◌, ◌⊎◌, ℕ, Bool, false, not, ◌||◌, ◌==◌, IsTrue, List, [], ◌∷◌, ◌++◌, codes, IsUtf8}
use Rattle.std.specs.List.{list_all}
use Rattle.xt_spec.specs.Char.{is_within}
use Rattle.xt_spec.specs.Declaration.{is_latin_letter, IsQuoted}
use Rattle.xt_spec.specs.Markup.{begins, lacks, AreChars}
use Rattle.xt_spec.specs.Name.{IsQName}
use Rattle.xt_spec.specs.Reference.{is_decimal_digit}
use Rattle.xt_spec.specs.Tag.{IsBlank, IsSpace, IsQuote}

-- [13] PubidChar
abbrev pub is_pubid_char : ℕ → Bool
is_pubid_char c =
    c == 0x20 || c == 0xD || c == 0xA || is_latin_letter c || is_decimal_digit c
    || c == 0x21 || is_within 0x23 0x25 c || is_within 0x27 0x2F c || c == 0x3A || c == 0x3B || c == 0x3D || c == 0x3F || c == 0x40 || c == 0x5F

-- [11] SystemLiteral
abbrev pub IsSystemLiteral : List ℕ → Type 0
IsSystemLiteral text = (inner : List ℕ) × AreChars inner × IsQuoted inner text

-- [12] PubidLiteral
abbrev pub IsPubidLiteral : List ℕ → Type 0
IsPubidLiteral text = (inner : List ℕ) × IsTrue (list_all is_pubid_char inner) × IsQuoted inner text

-- [75] ExternalID: `SYSTEM`, or `PUBLIC` with a public identifier before the system identifier
abbrev pub IsExternalId : List ℕ → Type 0
IsExternalId text =
    ((space system : List ℕ) × IsSpace space × IsSystemLiteral system × (text ≡ codes "SYSTEM" ++ space ++ system))
    ⊎ ((space public gap system : List ℕ) × IsSpace space × IsPubidLiteral public × IsSpace gap × IsSystemLiteral system
    × (text ≡ codes "PUBLIC" ++ space ++ public ++ gap ++ system))

-- a literal, with its quote; the inner text of a comment, and of a PI; one other byte
pub data SubsetPart : Type 0 where
  literal_part : ℕ → List ℕ → SubsetPart
  comment_part : List ℕ → SubsetPart
  pi_part : List ℕ → SubsetPart
  other_part : ℕ → SubsetPart

abbrev pub subset_part_text : SubsetPart → List ℕ
subset_part_text (literal_part q inner) = (q ∷ inner) ++ q ∷ []
subset_part_text (comment_part inner) = codes "<!--" ++ inner ++ codes "-->"
subset_part_text (pi_part inner) = codes "<?" ++ inner ++ codes "?>"
subset_part_text (other_part b) = b ∷ []

-- the texts of the parts, joined
abbrev pub subset_text : List SubsetPart → List ℕ
subset_text [] = []
subset_text (part ∷ parts) = subset_part_text part ++ subset_text parts

-- a byte that ends the subset, or begins a literal
abbrev pub is_quote_or_end : ℕ → Bool
is_quote_or_end b = b == 0x5D || b == 0x22 || b == 0x27

-- the part may stand before this text: a literal goes to its second quote, a comment to the first `-->`, a PI to the first
-- `?>`, and another byte begins none of them
abbrev pub IsSubsetPart : SubsetPart → List ℕ → Type 0
IsSubsetPart (literal_part q inner) rest = IsQuote q × IsTrue (list_all (λ b. not (b == q)) inner)
IsSubsetPart (comment_part inner) rest = IsTrue (lacks (codes "-->") inner)
IsSubsetPart (pi_part inner) rest = IsTrue (lacks (codes "?>") inner)
IsSubsetPart (other_part b) rest =
    (is_quote_or_end b ≡ false) × (begins (codes "<!--") (b ∷ rest) ≡ false) × (begins (codes "<?") (b ∷ rest) ≡ false)

abbrev pub AreSubsetParts : List SubsetPart → Type 0
AreSubsetParts [] = Unit {0}
AreSubsetParts (part ∷ parts) = IsSubsetPart part (subset_text parts) × AreSubsetParts parts

-- the text may stand between the brackets of a DOCTYPE declaration: no `]` of it stands outside of its parts
abbrev pub IsSubset : List ℕ → Type 0
IsSubset text = (parts : List SubsetPart) × AreSubsetParts parts × IsUtf8 text × (text ≡ subset_text parts)

-- S and an external identifier, or nothing
abbrev pub IsOptionalExternalId : List ℕ → Type 0
IsOptionalExternalId text = (text ≡ []) ⊎ ((space external : List ℕ) × IsSpace space × IsExternalId external × (text ≡ space ++ external))

-- the brackets with the subset and optional S, or nothing
abbrev pub IsOptionalSubset : List ℕ → Type 0
IsOptionalSubset text = (text ≡ [])
    ⊎ ((subset blank : List ℕ) × IsSubset subset × IsBlank blank × (text ≡ codes "[" ++ subset ++ codes "]" ++ blank))

-- [28] doctypedecl, in its parts
pub record IsDoctype (text : List ℕ) : Type 0 where
  pub space : List ℕ
  pub name : List ℕ
  pub external : List ℕ
  pub blank : List ℕ
  pub brackets : List ℕ
  pub is_space : IsSpace space
  pub is_name : IsQName name
  pub is_external : IsOptionalExternalId external
  pub is_blank : IsBlank blank
  pub is_brackets : IsOptionalSubset brackets
  pub spelled : text ≡ codes "<!DOCTYPE" ++ space ++ name ++ external ++ blank ++ brackets ++ codes ">"
