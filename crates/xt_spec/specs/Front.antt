-- What stands in front of the body of a file: a byte order mark and a declaration. XML 1.0 (Fifth Edition), sections 2.8,
-- 4.3.1 and 4.3.3. Lengths and places are bytes, places from 0.
--
--   IsBody          the items stand in the order that a role asks behind what is in front
--   form_of         which declaration may stand in front, in a role
--   StandsDeclared  a declaration of a form stands in front of a text; NoDeclared: none does
--   IsForeign       one does, and names another encoding than UTF-8
--   after_mark      a text without its byte order mark; mark_len: how long that is
--   BeginsBody      where a body begins: behind a byte order mark and a declaration, where they stand
use Rattle.std.specs.Prelude.{◌≡◌, ◌⊎◌, ℕ, ◌+◌, Bool, true, false, List, ◌++◌, length, drop, nat_eq, if◌then◌else◌}
use Rattle.std.specs.List.{starts_with}
use Rattle.xt_spec.specs.Declaration.{Declaration, is_xml_declaration, is_text_declaration, IsDeclarationOf, is_utf8_or_absent}
use Rattle.xt_spec.specs.Tree.{Items}
use Rattle.xt_spec.specs.Reading.{Role, document, entity, fragment, plain_text, mark, before_doctype, behind_root, IsContent, Leads, IsOneText}

-- [1] document behind its declaration; [43] content; or one text
abbrev pub IsBody : Role → Items → Type 0
IsBody document items = Leads before_doctype items behind_root
IsBody entity items = IsContent 0 items
IsBody fragment items = IsContent 0 items
IsBody plain_text items = IsOneText items

-- [23] XMLDecl, [77] TextDecl, or none
abbrev pub form_of : Role → Declaration → Bool
form_of document d = is_xml_declaration d
form_of entity d = is_text_declaration d
form_of fragment d = false
form_of plain_text d = false

-- a declaration of this form stands in front of the text
pub record StandsDeclared (form : Declaration → Bool) (text : List ℕ) : Type 0 where
  pub spelled : List ℕ
  pub rest : List ℕ
  pub declares : Declaration
  pub is : IsDeclarationOf declares spelled
  pub has_form : form declares ≡ true
  pub stands : text ≡ spelled ++ rest

abbrev pub NoDeclared : (Declaration → Bool) → List ℕ → Type 0
NoDeclared form text = ¬ StandsDeclared form text

-- .. and names another encoding
abbrev pub IsForeign : (Declaration → Bool) → List ℕ → Type 0
IsForeign form text = (d : StandsDeclared form text) × (is_utf8_or_absent d.declares.encoding ≡ false)

-- the text behind its byte order mark, where it begins with one
abbrev pub after_mark : List ℕ → List ℕ
after_mark text = if starts_with nat_eq text mark then drop 3 text else text

-- how many bytes the byte order mark takes
abbrev pub mark_len : List ℕ → ℕ
mark_len text = if starts_with nat_eq text mark then 3 else 0

-- .. and a declaration of this form, where one stands in front
abbrev pub TakesDeclared : (Declaration → Bool) → List ℕ → ℕ → Type 0
TakesDeclared form text len = ((d : StandsDeclared form text) × (len ≡ length d.spelled)) ⊎ (NoDeclared form text × (len ≡ 0))

-- the body begins at this place
pub record BeginsBody (form : Declaration → Bool) (text : List ℕ) (to : ℕ) : Type 0 where
  pub len : ℕ
  pub takes : TakesDeclared form (after_mark text) len
  pub to_is : to ≡ mark_len text + len
