-- What the items of a document give an application: names as written, values of attributes and of texts, comments, and
-- processing instructions. XML 1.0 (Fifth Edition), sections 2.5, 2.6, 2.10, 2.11 and 3.3.3; xml:id 1.0, section 4. A text is
-- the list of its bytes.
-- Here: of a document that needs no declaration, so each reference stands for a character, and there is no DOCTYPE.
--
--   Content      elements with what they hold, texts, comments and processing instructions
--   HasContent   the items give this content
use Rattle.std.specs.Prelude.{◌≡◌, ℕ, false, List, [], ◌∷◌, codes, bytes_eq, if◌then◌else◌}
use Rattle.xt_spec.specs.Tag.{Attribute, Tag, IsTag, tag_text}
use Rattle.xt_spec.specs.Markup.{begins, IsPiOf, IsCommentOf}
use Rattle.xt_spec.specs.Tree.{Items, nil, element, leaf, text_item, reference_item, comment_item, pi_item, gap}
use Rattle.xt_spec.specs.LineEnds.{lines_read}
use Rattle.xt_spec.specs.Text.{HasTextValue}
use Rattle.xt_spec.specs.Reading.{tag_ending}
use Rattle.xt_spec.specs.Value.{HasAttributeValue, tokenized}
use Rattle.xt_spec.specs.Namespace.{NamedValue}

-- nothing, or an element, a text, a comment or a processing instruction, and what stands behind it
pub data Content : Type 0 where
  nothing_given : Content
  element_content : (name : List ℕ) → List NamedValue → Content → Content → Content
  text_content : (value : List ℕ) → Content → Content
  comment_content : (inner : List ℕ) → Content → Content
  pi_content : (target inner : List ℕ) → Content → Content

-- `xml:id` is of type ID, any other attribute of type CDATA
abbrev pub typed : List ℕ → List ℕ → List ℕ
typed name value = if bytes_eq name (codes "xml:id") then tokenized value else value

-- the attributes have these values
abbrev pub HaveValues : List Attribute → List NamedValue → Type 0
HaveValues [] values = values ≡ []
HaveValues (a ∷ others) values = (value : List ℕ) × (more : List NamedValue)
    × HasAttributeValue a.quoted value × HaveValues others more × (values ≡ record { name = a.name; value = typed a.name value } ∷ more)

-- the items give this content; gaps give none, and a DOCTYPE and other references are not read here
abbrev pub HasContent : Items → Content → Type 0
HasContent nil content = content ≡ nothing_given
HasContent (element open_tag kids close rest) content =
    (tag : Tag) × (values : List NamedValue) × (inner others : Content)
    × IsTag tag × (open_tag ≡ tag_text tag (tag_ending close)) × HaveValues tag.attributes values
    × HasContent kids inner × HasContent rest others × (content ≡ element_content tag.name values inner others)
HasContent (leaf text_item text rest) content = (value : List ℕ) × (others : Content)
    × HasTextValue text value × HasContent rest others × (content ≡ text_content value others)
HasContent (leaf comment_item text rest) content = (inner : List ℕ) × (others : Content)
    × IsCommentOf text inner × HasContent rest others × (content ≡ comment_content (lines_read inner) others)
HasContent (leaf pi_item text rest) content = (target inner : List ℕ) × (others : Content)
    × IsPiOf text target inner × HasContent rest others × (content ≡ pi_content target (lines_read inner) others)
HasContent (leaf gap text rest) content = (begins (codes "<!DOCTYPE") text ≡ false) × HasContent rest content
HasContent (leaf reference_item text rest) content = ⊥
