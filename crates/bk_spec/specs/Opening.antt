-- How a document opens: the nodes that its bytes give. Of this project, over the readings of `xt_spec`.
-- Here: one file, of at most 4,194,304 bytes, that needs no declaration and has no element of XInclude; of its faults, those
-- of its bytes are said by the reader.
--
--   book_base      the base that is assumed
--   top_context    what the content of a document begins with
--   IsOpen         the file of these bytes opens, reads as these items, and gives these nodes
--   IsUnopened     why it doesn't, where it reads as items
use Rattle.std.specs.Prelude.{◌≡◌, ◌≤◌, ℕ, List, [], length, codes, true, false, Ok, Err}
use Rattle.xt_spec.specs.Limit.{most_file_bytes}
use Rattle.bk_name.specs.Base.{uri_text}
use Rattle.xt_spec.specs.Tree.{Items}
use Rattle.xt_spec.specs.Reading.{document, IsReading}
use Rattle.xt_spec.specs.Namespace.{xml_scope}
use Rattle.xt_spec.specs.Content.{Content, HasContent}
use Rattle.bk_spec.specs.Node.{Nodes, has_inclusion}
use Rattle.bk_spec.specs.Fault.{Fault, not_yet}
use Rattle.bk_spec.specs.DocumentNodes.{Context, nodes_of}

abbrev pub book_base : List ℕ
book_base = codes "file:///book/"

-- `xml` is bound, the base URI is the file's, and there is no language
abbrev pub top_context : List ℕ → Context
top_context file = record { scope = xml_scope; base = uri_text book_base file; lang = [] }

-- the items give these nodes
abbrev pub GivesNodes : List ℕ → Context → ℕ → Items → Nodes → Type 0
GivesNodes file context count items nodes = (content : Content) × HasContent items content × (nodes_of file context count content ≡ Ok nodes)

pub record IsOpen (file bytes : List ℕ) (items : Items) (nodes : Nodes) : Type 0 where
  pub size : length bytes ≤ most_file_bytes
  pub reading : IsReading document bytes items
  pub gives : GivesNodes file (top_context file) 0 items nodes
  pub apart : has_inclusion nodes ≡ false

-- Why a file of this reading doesn't open: it needs declarations; its content has a fault; or an element of XInclude is there.
pub data IsUnopened (file : List ℕ) (items : Items) : Fault → Type 0 where
  declares : ((content : Content) → ¬ HasContent items content) → IsUnopened file items (not_yet file)
  faulty : (content : Content) → HasContent items content → (fault : Fault) → nodes_of file (top_context file) 0 content ≡ Err fault → IsUnopened file items fault
  includes : (nodes : Nodes) → GivesNodes file (top_context file) 0 items nodes → has_inclusion nodes ≡ true → IsUnopened file items (not_yet file)
