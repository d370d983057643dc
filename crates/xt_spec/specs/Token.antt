-- Tokens, after XML 1.0 (Fifth Edition), sections 2.4 to 2.8, 3.1 and 4.1, and Namespaces in XML 1.0, section 3:
-- what each kind is spelled as, and which token stands at the front of a text. A text is the list of its bytes, as written.
--
--   Spells          the text is a token of the kind
--   IsFront         a token of the kind stands at the front, and takes n bytes
--   IsLongestFront  .. and no other does, of any kind
--   NoFront         none does
use Rattle.std.specs.Prelude.{◌≡◌, ◌≢◌, true, ℕ, ◌<◌, ◌≤◌, List, [], ◌++◌, length, drop, take, codes, encode_utf8_all}
use Rattle.std.specs.List.{AllByRecursion}
use Rattle.xt_spec.specs.Char.{is_char}
use Rattle.xt_spec.specs.Name.{IsQName}
use Rattle.xt_spec.specs.Reference.{NamesChar, IsEntityRef}
use Rattle.xt_spec.specs.Tag.{Tag, IsTag, tag_text, IsEndTag}
use Rattle.xt_spec.specs.Declaration.{IsDeclaration}
use Rattle.xt_spec.specs.Doctype.{IsDoctype}
use Rattle.xt_spec.specs.Markup.{IsCDataSection, IsComment, IsPi}

pub data TokenKind : Type 0 where
  start_tag : TokenKind
  empty_tag : TokenKind
  end_tag : TokenKind
  char_data : TokenKind
  char_ref : TokenKind
  entity_ref : TokenKind
  cdata_section : TokenKind
  comment : TokenKind
  pi : TokenKind
  declaration : TokenKind
  doctype : TokenKind

-- a code point that stands for itself in content
abbrev pub IsPlain : ℕ → Type 0
IsPlain c = (is_char c ≡ true) × (c ≢ 0x3C) × (c ≢ 0x26)

-- the text begins with `]]>`
abbrev pub BeginsClose : List ℕ → Type 0
BeginsClose text = (rest : List ℕ) × (text ≡ codes "]]>" ++ rest)

-- no `]]>` stands in the text
abbrev pub HoldsNoClose : List ℕ → Type 0
HoldsNoClose text = (k : ℕ) → ¬ BeginsClose (drop k text)

-- [40], [44], [42], [14] (of one or more characters), [66], [68], [18], [15], [16], [23] or [77], [28]
abbrev pub Spells : TokenKind → List ℕ → Type 0
Spells start_tag text = (tag : Tag) × IsTag tag × (text ≡ tag_text tag (codes ">"))
Spells empty_tag text = (tag : Tag) × IsTag tag × (text ≡ tag_text tag (codes "/>"))
Spells end_tag text = (name : List ℕ) × IsQName name × IsEndTag name text
Spells char_data text = (cs : List ℕ) × (cs ≢ []) × AllByRecursion IsPlain cs × (text ≡ encode_utf8_all cs) × HoldsNoClose text
Spells char_ref text = (c : ℕ) × NamesChar text c
Spells entity_ref text = IsEntityRef text
Spells cdata_section text = IsCDataSection text
Spells comment text = IsComment text
Spells pi text = IsPi text
Spells declaration text = IsDeclaration text
Spells doctype text = IsDoctype text

-- within the first n bytes of the text no `]]>` begins
abbrev pub NoCloseBelow : ℕ → List ℕ → Type 0
NoCloseBelow n text = (k : ℕ) → k < n → ¬ BeginsClose (drop k text)

-- what is asked of the text round a token beside its spelling: character data ends no later than where the first `]]>`
-- of the text begins (section 2.4), so none begins in it and goes on behind it
abbrev pub MayStand : TokenKind → ℕ → List ℕ → Type 0
MayStand char_data n text = NoCloseBelow n text
MayStand start_tag n text = Unit {0}
MayStand empty_tag n text = Unit {0}
MayStand end_tag n text = Unit {0}
MayStand char_ref n text = Unit {0}
MayStand entity_ref n text = Unit {0}
MayStand cdata_section n text = Unit {0}
MayStand comment n text = Unit {0}
MayStand pi n text = Unit {0}
MayStand declaration n text = Unit {0}
MayStand doctype n text = Unit {0}

-- a token of the kind stands at the front of the text, and takes n bytes
pub record IsFront (kind : TokenKind) (n : ℕ) (text : List ℕ) : Type 0 where
  pub within : n ≤ length text
  pub spelled : Spells kind (take n text)
  pub stands : MayStand kind n text

-- no token stands at the front
abbrev pub NoFront : List ℕ → Type 0
NoFront text = (kind : TokenKind) (n : ℕ) → ¬ IsFront kind n text

-- the longest token at the front, and the only kind of one
pub record IsLongestFront (text : List ℕ) (kind : TokenKind) (n : ℕ) : Type 0 where
  pub front : IsFront kind n text
  pub longest : (other : TokenKind) (m : ℕ) → IsFront other m text → (other ≡ kind) × (m ≤ n)
