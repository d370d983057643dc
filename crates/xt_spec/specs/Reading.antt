-- Readings: which tree a file reads as, in which role. XML 1.0 (Fifth Edition), sections 2.1, 2.8, 3, 3.1, 4.3.1 to 4.3.3.
-- It is a relation between a text and a tree: the tree's texts join to the bytes, each leaf is spelled, tags match.
-- Here: an element stands at level 128 at most; a level counts the elements round a place, so it is from 0. A byte order
-- mark, a declaration, the DOCTYPE and white space at the top of a document are gaps. A declaration names no other encoding
-- than UTF-8.
--
--   IsElementAt  an element's own conditions at a level
--   IsContent    [43] content, at a level
--   Stage        how far the top of a document has come
--   Leads        items at the top of [1] document that lead from one stage to another
--   IsMarked     items behind a byte order mark, where there is one
--   IsDeclared   items behind a declaration, where there is one
--   Role         in which role a file is read
--   IsReading    the bytes, in this role, read as these items
use Rattle.std.specs.Prelude.{◌≡◌, ◌≢◌, ◌⊎◌, ℕ, suc, ◌<◌, Bool, true, false, not, ◌&&◌, IsTrue, List, [], ◌∷◌, codes, bytes_eq, map, nat_eq, Option, None, Some, IsUtf8}
use Rattle.std.specs.List.{list_any, list_all, starts_with}
use Rattle.xt_spec.specs.Limit.{most_levels}
use Rattle.xt_spec.specs.Char.{is_char, is_space}
use Rattle.xt_spec.specs.Name.{IsSpeltBy}
use Rattle.xt_spec.specs.Reference.{IsEntityRef, IsPredefined}
use Rattle.xt_spec.specs.Tag.{Tag, IsTag, tag_text, IsEndTag, IsSpace}
use Rattle.xt_spec.specs.Markup.{IsComment, IsPi}
use Rattle.xt_spec.specs.Declaration.{Declaration, is_xml_declaration, is_text_declaration, IsDeclarationOf, is_utf8_or_absent}
use Rattle.xt_spec.specs.Doctype.{IsDoctype}
use Rattle.xt_spec.specs.Tree.{Items, nil, element, leaf, text_item, reference_item, comment_item, pi_item, gap, source_text, begins_with}
use Rattle.xt_spec.specs.Text.{IsTextItem}

-- no two of the names are one
abbrev pub are_distinct : List (List ℕ) → Bool
are_distinct [] = true
are_distinct (name ∷ names) = not (list_any (λ other. bytes_eq name other) names) && are_distinct names

-- the names of the attributes, as written, in order
abbrev pub attribute_names : Tag → List (List ℕ)
attribute_names tag = map (λ a. a.name) tag.attributes

-- how the tag ends: an empty-element tag is one that no end-tag closes
abbrev pub tag_ending : Option (List ℕ) → List ℕ
tag_ending None = codes "/>"
tag_ending (Some close) = codes ">"

-- what closes an element of this name: nothing, and then it holds nothing; or an end-tag of the name (Element Type Match)
abbrev pub Closes : List ℕ → Items → Option (List ℕ) → Type 0
Closes name kids None = kids ≡ nil
Closes name kids (Some close) = IsEndTag name close

-- the tag of an element: its spelling, no two attributes of one name (Unique Att Spec), and what closes it
pub record IsElement (open_tag : List ℕ) (kids : Items) (close : Option (List ℕ)) : Type 0 where
  pub tag : Tag
  pub parts : IsTag tag
  pub spelled : open_tag ≡ tag_text tag (tag_ending close)
  pub unique : IsTrue (are_distinct (attribute_names tag))
  pub closes : Closes tag.name kids close

-- the element's own conditions, with so many elements round it
pub record IsElementAt (level : ℕ) (open_tag : List ℕ) (kids : Items) (close : Option (List ℕ)) : Type 0 where
  pub within : level < most_levels
  pub element : IsElement open_tag kids close

-- [43] content, within so many elements
abbrev pub IsContent : ℕ → Items → Type 0
IsContent level nil = Unit {0}
IsContent level (element open_tag kids close rest) = IsElementAt level open_tag kids close × IsContent (suc level) kids × IsContent level rest
IsContent level (leaf text_item text rest) = IsTextItem text × (begins_with text_item rest ≡ false) × IsContent level rest
IsContent level (leaf reference_item text rest) = IsEntityRef text × ((c : ℕ) → ¬ IsPredefined text c) × IsContent level rest
IsContent level (leaf comment_item text rest) = IsComment text × IsContent level rest
IsContent level (leaf pi_item text rest) = IsPi text × IsContent level rest
IsContent level (leaf gap text rest) = ⊥

-- how far the top of [1] document has come: before its DOCTYPE, before the document element, or behind it
pub data Stage : Type 0 where
  before_doctype : Stage
  before_root : Stage
  behind_root : Stage

abbrev pub is_before_root : Stage → Bool
is_before_root before_doctype = true
is_before_root before_root = true
is_before_root behind_root = false

-- the first item is white space
abbrev pub begins_with_space : Items → Bool
begins_with_space nil = false
begins_with_space (element open_tag kids close rest) = false
begins_with_space (leaf text_item text rest) = false
begins_with_space (leaf reference_item text rest) = false
begins_with_space (leaf comment_item text rest) = false
begins_with_space (leaf pi_item text rest) = false
begins_with_space (leaf gap text rest) = list_all is_space text

-- The items lead the top of a document from one stage to another: one DOCTYPE at most, the document element once behind it,
-- and round them comments, processing instructions and white space, no two of which stand side by side.
abbrev pub Leads : Stage → Items → Stage → Type 0
Leads stage nil last = stage ≡ last
Leads stage (element open_tag kids close rest) last = (is_before_root stage ≡ true) × IsElementAt 0 open_tag kids close × IsContent 1 kids × Leads behind_root rest last
Leads stage (leaf comment_item text rest) last = IsComment text × Leads stage rest last
Leads stage (leaf pi_item text rest) last = IsPi text × Leads stage rest last
Leads stage (leaf gap text rest) last =
    ((stage ≡ before_doctype) × IsDoctype text × Leads before_root rest last)
    ⊎ (IsSpace text × (begins_with_space rest ≡ false) × Leads stage rest last)
Leads stage (leaf text_item text rest) last = ⊥
Leads stage (leaf reference_item text rest) last = ⊥

-- the byte order mark, U+FEFF (4.3.3)
abbrev pub mark : List ℕ
mark = 0xEF ∷ 0xBB ∷ 0xBF ∷ []

-- such items, behind a byte order mark where one stands in front
abbrev pub IsMarked : (Items → Type 0) → Items → Type 0
IsMarked Rest items = ((rest : Items) × (items ≡ leaf gap mark rest) × Rest rest) ⊎ ((starts_with nat_eq (source_text items) mark ≡ false) × Rest items)

-- a declaration of this form, which names no other encoding
abbrev pub DeclaresUtf8 : (Declaration → Bool) → List ℕ → Type 0
DeclaresUtf8 form text = (d : Declaration) × IsDeclarationOf d text × (form d ≡ true) × (is_utf8_or_absent d.encoding ≡ true)

-- such items, behind a declaration of this form where one stands in front
abbrev pub IsDeclared : (Declaration → Bool) → (Items → Type 0) → Items → Type 0
IsDeclared form Rest items = ((text : List ℕ) × (rest : Items) × (items ≡ leaf gap text rest) × DeclaresUtf8 form text × Rest rest) ⊎ Rest items

-- a file that is no XML: one text of any characters that a document may hold, or nothing
abbrev pub IsOneText : Items → Type 0
IsOneText nil = Unit {0}
IsOneText (leaf text_item text nil) = IsSpeltBy (list_all is_char) text × (text ≢ [])
IsOneText _ = ⊥

-- In which role a file is read: as a document; as an external parsed entity; or included as a text. A fragment is content
-- alone.
pub data Role : Type 0 where
  document : Role
  entity : Role
  fragment : Role
  plain_text : Role

-- the items stand in the order that the role asks: [1] document, [78] extParsedEnt, [43] content, or one text
abbrev pub IsOrdered : Role → Items → Type 0
IsOrdered document items = IsMarked (IsDeclared is_xml_declaration (λ main. Leads before_doctype main behind_root)) items
IsOrdered entity items = IsMarked (IsDeclared is_text_declaration (IsContent 0)) items
IsOrdered fragment items = IsContent 0 items
IsOrdered plain_text items = IsMarked IsOneText items

-- the bytes, in this role, read as the items
pub record IsReading (role : Role) (bytes : List ℕ) (items : Items) : Type 0 where
  pub utf8 : IsUtf8 bytes
  pub joined : source_text items ≡ bytes
  pub ordered : IsOrdered role items
