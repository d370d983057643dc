-- A text in its parts, from left to right: where a part ends, and what of the value was added. XML 1.0 (Fifth Edition),
-- sections 2.4, 2.7, 2.11, 3.3.3 and 4.1.
--
--   Stops, IsCut    where a front ends that lacks some bytes
--   HasRawValue     the value of the raw text of an attribute, without the quotes
--   Adds            the value of a text was added up to that of its rest
--   PutsReference   the reference at the front was read, or what another part at the front counts
use Rattle.std.specs.Prelude.{◌≡◌, ◌⊎◌, ℕ, Bool, true, not, ◌||◌, ◌==◌, List, [], ◌∷◌, ◌++◌, map, encode_utf8, if◌then◌else◌}
use Rattle.std.specs.List.{list_all}
use Rattle.xt_spec.specs.Reference.{StandsFor}
use Rattle.xt_spec.specs.LineEnds.{lines_read}
use Rattle.xt_spec.specs.Markup.{IsSectionOf}
use Rattle.xt_spec.specs.Text.{characters_in}
use Rattle.xt_spec.specs.Value.{ValuePart, AreValueParts, value_parts_text, value_of_parts, spaced}

abbrev pub is_semicolon : ℕ → Bool
is_semicolon b = b == 0x3B

abbrev pub is_cr : ℕ → Bool
is_cr b = b == 0xD

abbrev pub is_ampersand : ℕ → Bool
is_ampersand b = b == 0x26

-- in content a reference or a CDATA section begins so
abbrev pub is_mark : ℕ → Bool
is_mark b = b == 0x26 || b == 0x3C

-- white space but the space
abbrev pub is_break : ℕ → Bool
is_break b = b == 0x9 || b == 0xA || b == 0xD

-- what is read for such white space
abbrev pub broken : ℕ → ℕ
broken b = if b == 0xD then 0xA else b

-- no byte of the text passes
abbrev pub lacks_all : (ℕ → Bool) → List ℕ → Bool
lacks_all p text = list_all (λ b. not (p b)) text

-- nothing is left, or a byte that passes stands at the front
abbrev pub Stops : (ℕ → Bool) → List ℕ → Type 0
Stops p rest = (rest ≡ []) ⊎ ((b : ℕ) × (behind : List ℕ) × (rest ≡ b ∷ behind) × (p b ≡ true))

-- the text is cut before its first byte that passes
pub record IsCut (p : ℕ → Bool) (text front rest : List ℕ) : Type 0 where
  pub joined : front ++ rest ≡ text
  pub lacks : lacks_all p front ≡ true
  pub stops : Stops p rest

-- what stands between quotes q has this value
abbrev pub HasRawValue : ℕ → List ℕ → List ℕ → Type 0
HasRawValue q raw value = (parts : List ValuePart) × AreValueParts q parts × (value_parts_text parts ≡ raw) × (value_of_parts parts ≡ value)

-- the value of the text was added up to that of the rest
abbrev pub Adds : (List ℕ → List ℕ → Type 0) → List ℕ → List ℕ → List ℕ → List ℕ → Type 0
Adds Has text rest old new = (value : List ℕ) → Has text value → (others : List ℕ) × Has rest others × (old ++ value ≡ new ++ others)

-- the reference at the front was read
abbrev pub PutsReference : List ℕ → List ℕ → List ℕ → List ℕ → Type 0
PutsReference text rest old new = (reference behind : List ℕ) (c : ℕ) → StandsFor reference c → text ≡ reference ++ behind
    → (rest ≡ behind) × (new ≡ old ++ encode_utf8 c)

-- .. or the CDATA section, of a file or of a replacement text
abbrev pub PutsSection : (inner : Bool) → List ℕ → List ℕ → List ℕ → List ℕ → Type 0
PutsSection inner text rest old new = (section content behind : List ℕ) → IsSectionOf section content → text ≡ section ++ behind
    → (rest ≡ behind) × (new ≡ old ++ characters_in inner content)

-- .. or the characters of content that stand for themselves
abbrev pub PutsData : (inner : Bool) → List ℕ → List ℕ → List ℕ → List ℕ → Type 0
PutsData inner text rest old new = (front behind : List ℕ) → lacks_all is_mark front ≡ true → Stops is_mark behind → text ≡ front ++ behind
    → (rest ≡ behind) × (new ≡ old ++ characters_in inner front)

-- .. or those of an attribute value
abbrev pub PutsCharacters : List ℕ → List ℕ → List ℕ → List ℕ → Type 0
PutsCharacters text rest old new = (front behind : List ℕ) → lacks_all is_ampersand front ≡ true → Stops is_ampersand behind → text ≡ front ++ behind
    → (rest ≡ behind) × (new ≡ old ++ map spaced (lines_read front))
