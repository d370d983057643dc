-- Why a book does not open, with the file that holds the cause; of this project. Each is told in one line.
--
--   Fault       the fault
--   fault_line  its line, which ends in LF
use Rattle.std.specs.Prelude.{List, ℕ, ◌++◌, codes}
use Rattle.bk_spec.specs.IncludeKind.{IncludeKind, kind_name}

-- Grouped by what they are about; in which order an opening asks is said where it is defined (`Opening`). Of a file: it isn't
-- there; it is too long, or gives too many nodes; its bytes are not UTF-8, or it declares another encoding; it is not
-- well-formed; an element stands too deep. Then what isn't built yet: a DOCTYPE, other references than the five, inclusion. Then
-- declarations that aren't read, and a catalog that is wrong. Then, of a reference: the URI isn't in the book; the entity isn't
-- declared, stands within itself, is external and in an attribute, or isn't parsed. Then, of an element: a namespace declaration
-- that isn't allowed; a prefix that isn't bound; two attributes of one expanded name; a base, or another reference, that doesn't
-- join. Then, of an inclusion: the element is wrong; its pointer has no reading; it stands within itself; it finds nothing and
-- has no fallback; in place of the document element it doesn't give one element.
pub data Fault : Type 0 where
  missing : (file : List ℕ) → Fault
  too_large : (file : List ℕ) → Fault
  encoding : (file : List ℕ) → Fault
  not_well_formed : (file : List ℕ) → Fault
  too_deep : (file : List ℕ) → Fault
  not_yet : (file : List ℕ) → Fault
  unread : (file : List ℕ) → Fault
  catalog : (file : List ℕ) → Fault
  outside_book : (uri : List ℕ) → Fault
  undeclared : (file name : List ℕ) → Fault
  entity_loop : (file name : List ℕ) → Fault
  external_in_attribute : (file name : List ℕ) → Fault
  unparsed : (file name : List ℕ) → Fault
  bad_namespace : (file : List ℕ) → Fault
  unbound : (file prefix : List ℕ) → Fault
  duplicate_attribute : (file : List ℕ) → Fault
  bad_reference : (file : List ℕ) → Fault
  bad_include : (file : List ℕ) → IncludeKind → Fault
  bad_pointer : (file : List ℕ) → Fault
  include_loop : (file : List ℕ) → Fault
  no_fallback : (file : List ℕ) → Fault
  root_not_one : (file : List ℕ) → Fault

-- the line of a fault that has this name and these fields
abbrev pub line : List ℕ → List ℕ → List ℕ
line name fields = codes "fault " ++ name ++ codes " " ++ fields ++ codes "\n"

-- two fields, with a space between
abbrev pub pair : List ℕ → List ℕ → List ℕ
pair first second = first ++ codes " " ++ second

abbrev pub fault_line : Fault → List ℕ
fault_line (missing file) = line (codes "Missing") file
fault_line (too_large file) = line (codes "TooLarge") file
fault_line (encoding file) = line (codes "Encoding") file
fault_line (not_well_formed file) = line (codes "NotWellFormed") file
fault_line (too_deep file) = line (codes "TooDeep") file
fault_line (not_yet file) = line (codes "NotYet") file
fault_line (unread file) = line (codes "Unread") file
fault_line (catalog file) = line (codes "Catalog") file
fault_line (outside_book uri) = line (codes "OutsideBook") uri
fault_line (undeclared file name) = line (codes "Undeclared") (pair file name)
fault_line (entity_loop file name) = line (codes "EntityLoop") (pair file name)
fault_line (external_in_attribute file name) = line (codes "ExternalInAttribute") (pair file name)
fault_line (unparsed file name) = line (codes "Unparsed") (pair file name)
fault_line (bad_namespace file) = line (codes "BadNamespace") file
fault_line (unbound file prefix) = line (codes "Unbound") (pair file prefix)
fault_line (duplicate_attribute file) = line (codes "DuplicateAttribute") file
fault_line (bad_reference file) = line (codes "BadReference") file
fault_line (bad_include file kind) = line (codes "BadInclude") (pair file (kind_name kind))
fault_line (bad_pointer file) = line (codes "BadPointer") file
fault_line (include_loop file) = line (codes "IncludeLoop") file
fault_line (no_fallback file) = line (codes "NoFallback") file
fault_line (root_not_one file) = line (codes "RootNotOne") file
