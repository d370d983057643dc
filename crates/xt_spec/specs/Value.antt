-- The value of an attribute whose references all stand for a character, in a file: attribute-value normalization, XML 1.0
-- (Fifth Edition), section 3.3.3, over line ends as read (2.11). The raw text is as written.
--
--   ValuePart          a run of characters, or a reference with the character that it stands for
--   AreValueParts      the parts of a value between quotes q
--   HasAttributeValue  the raw text, with its quotes, has this value where the type is CDATA
--   tokenized          .. and where it is another type
use Rattle.std.specs.Prelude.{◌≡◌, ◌≢◌, ◌==◌, ℕ, Bool, true, false, List, [], ◌∷◌, ◌++◌, map, if◌then◌else◌, encode_utf8}
use Rattle.std.specs.List.{list_all, slice_split, join_with_byte}
use Rattle.xt_spec.specs.Char.{is_space}
use Rattle.xt_spec.specs.Name.{IsSpeltBy}
use Rattle.xt_spec.specs.Reference.{StandsFor}
use Rattle.xt_spec.specs.Tag.{IsQuote, is_value_char}
use Rattle.xt_spec.specs.LineEnds.{lines_read}

pub data ValuePart : Type 0 where
  characters_part : List ℕ → ValuePart
  character_part : List ℕ → ℕ → ValuePart

abbrev pub value_part_text : ValuePart → List ℕ
value_part_text (characters_part text) = text
value_part_text (character_part text c) = text

-- the texts of the parts, joined
abbrev pub value_parts_text : List ValuePart → List ℕ
value_parts_text [] = []
value_parts_text (part ∷ parts) = value_part_text part ++ value_parts_text parts

-- the first part is a run of characters
abbrev pub begins_with_characters : List ValuePart → Bool
begins_with_characters [] = false
begins_with_characters (characters_part text ∷ parts) = true
begins_with_characters (character_part text c ∷ parts) = false

-- each run of characters is spelled, no two stand side by side, and each reference stands for a character
abbrev pub AreValueParts : ℕ → List ValuePart → Type 0
AreValueParts q [] = Unit {0}
AreValueParts q (characters_part text ∷ parts) =
    IsSpeltBy (λ cs. list_all (is_value_char q) cs) text × (text ≢ []) × (begins_with_characters parts ≡ false) × AreValueParts q parts
AreValueParts q (character_part text c ∷ parts) = StandsFor text c × AreValueParts q parts

-- white space as written counts as a space
abbrev pub spaced : ℕ → ℕ
spaced b = if is_space b then 0x20 else b

abbrev pub value_of_part : ValuePart → List ℕ
value_of_part (characters_part text) = map spaced (lines_read text)
value_of_part (character_part text c) = encode_utf8 c

abbrev pub value_of_parts : List ValuePart → List ℕ
value_of_parts [] = []
value_of_parts (part ∷ parts) = value_of_part part ++ value_of_parts parts

-- the raw text, with its quotes, has this value
abbrev pub HasAttributeValue : List ℕ → List ℕ → Type 0
HasAttributeValue quoted value = (q : ℕ) × (parts : List ValuePart) × IsQuote q × AreValueParts q parts
    × (quoted ≡ (q ∷ value_parts_text parts) ++ q ∷ []) × (value ≡ value_of_parts parts)

-- the words that aren't empty
abbrev pub without_empty : List (List ℕ) → List (List ℕ)
without_empty [] = []
without_empty ([] ∷ words) = without_empty words
without_empty ((b ∷ word) ∷ words) = (b ∷ word) ∷ without_empty words

-- the value for a type other than CDATA: spaces in front and at the end go, and of several in a row one stays
abbrev pub tokenized : List ℕ → List ℕ
tokenized value = join_with_byte 0x20 (without_empty (slice_split (λ b. b == 0x20) value))
