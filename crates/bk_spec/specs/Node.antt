-- The nodes of a book, after XML Information Set, sections 2.2 (elements), 2.3 (attributes), 2.4 (processing instructions),
-- 2.6 (characters) and 2.7 (comments), with the file that owns each. Texts are values: references are replaced, line ends
-- are LF, attribute values are normalized.
--
--   Origin  what a node came from: a file in a role, or an internal entity referenced in a file
--   How     how an attribute came
--   Nodes   a list of nodes
--   node_count     how many nodes there are, those that elements hold counted
--   has_inclusion  an element of XInclude is among them
use Rattle.std.specs.Prelude.{List, ℕ, ◌+◌, Bool, false, ◌||◌, bytes_eq, codes}
use Rattle.xt_spec.specs.Reading.{Role}

-- a node of a file, by the file's name and the role in which it is read for the node; or one of an entity's replacement
-- text, by the file that holds the reference and the entity's name
pub data Origin : Type 0 where
  owned : (file : List ℕ) → Role → Origin
  from_entity : (file entity : List ℕ) → Origin

-- an attribute is written in the start-tag, declared as a default, or made by a fixup of inclusion
pub data How : Type 0 where
  written : How
  by_default : How
  by_fixup : How

-- an attribute: its name as written, the name of its namespace, empty where it has none, its local name, its value, whether
-- it is of type ID, and how it came. Namespace declarations are not among the attributes.
pub record Attr : Type 0 where
  pub qname : List ℕ
  pub space : List ℕ
  pub local : List ℕ
  pub value : List ℕ
  pub is_id : Bool
  pub how : How

-- an element's own: its expanded name, its attributes in order, its base URI and its language (empty: none)
pub record Head : Type 0 where
  pub space : List ℕ
  pub local : List ℕ
  pub attributes : List Attr
  pub base : List ℕ
  pub lang : List ℕ
  pub origin : Origin

-- no node, or a node and those behind it: an element with its children, a text piece, a comment with its text, or a
-- processing instruction with its target and data
pub data Nodes : Type 0 where
  no_nodes : Nodes
  element_node : Head → Nodes → Nodes → Nodes
  text_node : List ℕ → Origin → Nodes → Nodes
  comment_node : List ℕ → Origin → Nodes → Nodes
  pi_node : List ℕ → List ℕ → Origin → Nodes → Nodes

-- how many nodes there are: elements, text pieces, comments and processing instructions
abbrev pub node_count : Nodes → ℕ
node_count no_nodes = 0
node_count (element_node head kids rest) = 1 + node_count kids + node_count rest
node_count (text_node value origin rest) = 1 + node_count rest
node_count (comment_node value origin rest) = 1 + node_count rest
node_count (pi_node target value origin rest) = 1 + node_count rest

-- an element of this namespace is among the nodes (XInclude 1.1, section 3)
abbrev pub has_inclusion : Nodes → Bool
has_inclusion no_nodes = false
has_inclusion (element_node head kids rest) = bytes_eq head.space (codes "http://www.w3.org/2001/XInclude") || has_inclusion kids || has_inclusion rest
has_inclusion (text_node value origin rest) = has_inclusion rest
has_inclusion (comment_node value origin rest) = has_inclusion rest
has_inclusion (pi_node target value origin rest) = has_inclusion rest
