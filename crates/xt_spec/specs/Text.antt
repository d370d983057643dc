-- Text items: what spells one, and its value. XML 1.0 (Fifth Edition), sections 2.4, 2.7, 2.11, 4.1, 4.4, 4.5 and 4.6. A text
-- item is as written, of a file or of the replacement text of an entity (`inner`); its value is UTF-8 too.
--
--   TextPart      a token of a text item: character data, a reference with the character that it stands for, or a CDATA
--                 section with its characters
--   IsTextItem    the text is spelled by such tokens
--   HasValueIn    .. and this is its value, where it stands in a file or in a replacement text
--   HasTextValue  .. in a file
--   is_void       the text is of empty CDATA sections alone
use Rattle.std.specs.Prelude.{◌≡◌, ◌≢◌, ℕ, Bool, true, false, ◌&&◌, List, [], ◌∷◌, ◌++◌, codes, bytes_eq, encode_utf8}
use Rattle.xt_spec.specs.Reference.{StandsFor}
use Rattle.xt_spec.specs.LineEnds.{lines_read}
use Rattle.xt_spec.specs.Markup.{IsSectionOf}
use Rattle.xt_spec.specs.Token.{Spells, char_data}

pub data TextPart : Type 0 where
  data_part : List ℕ → TextPart
  reference_part : List ℕ → ℕ → TextPart
  section_part : List ℕ → List ℕ → TextPart

abbrev pub part_text : TextPart → List ℕ
part_text (data_part text) = text
part_text (reference_part text c) = text
part_text (section_part text content) = text

-- the texts of the parts, joined
abbrev pub parts_text : List TextPart → List ℕ
parts_text [] = []
parts_text (part ∷ parts) = part_text part ++ parts_text parts

-- characters as an application sees them: line ends of a file as read (2.11); those of a replacement text stay, since they
-- were read where the entity is declared, and a CR that is there now came from a reference (4.5)
abbrev pub characters_in : (inner : Bool) → List ℕ → List ℕ
characters_in false text = lines_read text
characters_in true text = text

-- what a part counts in the value: characters count themselves
abbrev pub part_value_in : (inner : Bool) → TextPart → List ℕ
part_value_in inner (data_part text) = characters_in inner text
part_value_in inner (reference_part text c) = encode_utf8 c
part_value_in inner (section_part text content) = characters_in inner content

abbrev pub parts_value_in : (inner : Bool) → List TextPart → List ℕ
parts_value_in inner [] = []
parts_value_in inner (part ∷ parts) = part_value_in inner part ++ parts_value_in inner parts

-- .. of a file
abbrev pub parts_value : List TextPart → List ℕ
parts_value parts = parts_value_in false parts

-- the first part is character data
abbrev pub begins_with_data : List TextPart → Bool
begins_with_data [] = false
begins_with_data (data_part text ∷ parts) = true
begins_with_data (reference_part text c ∷ parts) = false
begins_with_data (section_part text content ∷ parts) = false

-- each part is spelled, and no two of character data stand side by side
abbrev pub AreTextParts : List TextPart → Type 0
AreTextParts [] = Unit {0}
AreTextParts (data_part text ∷ parts) = Spells char_data text × (begins_with_data parts ≡ false) × AreTextParts parts
AreTextParts (reference_part text c ∷ parts) = StandsFor text c × AreTextParts parts
AreTextParts (section_part text content ∷ parts) = IsSectionOf text content × AreTextParts parts

-- the text is one text item
abbrev pub IsTextItem : List ℕ → Type 0
IsTextItem text = (parts : List TextPart) × AreTextParts parts × (parts ≢ []) × (parts_text parts ≡ text)

-- the text item's value joins the values of its parts
abbrev pub HasValueIn : (inner : Bool) → List ℕ → List ℕ → Type 0
HasValueIn inner text value = (parts : List TextPart) × AreTextParts parts × (parts_text parts ≡ text) × (parts_value_in inner parts ≡ value)

-- .. of a file
abbrev pub HasTextValue : List ℕ → List ℕ → Type 0
HasTextValue text value = HasValueIn false text value

-- the text is of empty CDATA sections alone; such an item, and no other, has an empty value
abbrev pub is_void : List ℕ → Bool
is_void [] = true
is_void (a ∷ b ∷ c ∷ d ∷ e ∷ f ∷ g ∷ h ∷ i ∷ j ∷ k ∷ l ∷ rest) =
    bytes_eq (a ∷ b ∷ c ∷ d ∷ e ∷ f ∷ g ∷ h ∷ i ∷ j ∷ k ∷ l ∷ []) (codes "<![CDATA[]]>") && is_void rest
is_void _ = false
