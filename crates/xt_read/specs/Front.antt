-- What stands in front of the body of a file of markup, in the words of the code's roles; where a body begins is said by
-- `xt_spec` (`Front`). XML 1.0 (Fifth Edition), sections 2.8, 4.3.1 and 4.3.3.
--
--   role_of      the role in which a file is read; markup_role_of: .. of a file of markup
--   form_of      which declaration a role has
--   body_for     what follows it
--   gaps_to      the gaps in front of a body that begins at a place
use Rattle.std.specs.Prelude.{ℕ, ◌-◌, Bool, List, [], ◌∷◌, take, nat_eq, if◌then◌else◌}
use Rattle.std.specs.List.{starts_with}
use Rattle.xt_spec.specs.Declaration.{Declaration}
use Rattle.xt_spec.specs.Tree.{Items, nil, leaf, gap}
use Rattle.xt_spec.specs.Reading.{Role, document, entity, plain_text, mark}
use Rattle.xt_spec.specs.Front as front
use Rattle.xt_spec.specs.Front.{after_mark, mark_len}
use Rattle.xt_read.specs.Run.{Body, document_body, content_body}
use Rattle.xt_read.specs.declared.front.FileRole.{FileRole}
use Rattle.xt_read.specs.declared.front.FileRole.TheVariants as file
use Rattle.xt_read.specs.declared.front.MarkupRole.{MarkupRole}
use Rattle.xt_read.specs.declared.front.MarkupRole.TheVariants as code

-- the role, in the words of the readings
abbrev pub role_of : FileRole → Role
role_of file.Document = document
role_of file.Entity = entity
role_of file.Text = plain_text

-- .. of a file of markup
abbrev pub markup_role_of : MarkupRole → Role
markup_role_of code.Document = document
markup_role_of code.Entity = entity

-- the form of a declaration that stands in front
abbrev pub form_of : MarkupRole → Declaration → Bool
form_of role = front.form_of (markup_role_of role)

abbrev pub body_for : MarkupRole → Body
body_for code.Document = document_body
body_for code.Entity = content_body

-- the gap of this text, or none where it is empty
abbrev pub gap_of : List ℕ → Items
gap_of [] = nil
gap_of (b ∷ text) = leaf gap (b ∷ text) nil

-- the items, behind the gap of the byte order mark with which the text begins, where it does
abbrev pub behind_mark : List ℕ → Items → Items
behind_mark text items = if starts_with nat_eq text mark then leaf gap mark items else items

-- the gaps in front of a body that begins at this place of the text: of a byte order mark, and of what stands behind it
abbrev pub gaps_to : List ℕ → ℕ → Items
gaps_to text to = behind_mark text (gap_of (take (to - mark_len text) (after_mark text)))
