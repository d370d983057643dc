-- The plain infoset of nodes: what applications compare, after XML Information Set, sections 2.2 (elements), 2.3 (attributes),
-- 2.4 (processing instructions), 2.6 (characters) and 2.7 (comments). Texts are values, as those of nodes.
-- Here: an element has its language; characters stand in texts, no two of which are side by side; the order of attributes is
-- kept; what came from where, how attributes came and which namespaces are in scope is left out.
--
--   Plain        a list of plain information items
--   text_before  a text in front of others, joined to the text that they begin with
--   infoset_of   the infoset of nodes
use Rattle.std.specs.Prelude.{List, ℕ, [], ◌∷◌, ◌++◌, map}
use Rattle.bk_spec.specs.Node.{Attr, Head, Nodes, no_nodes, element_node, text_node, comment_node, pi_node}

-- an attribute: the name of its namespace, empty where it has none, its local name, and its value
pub record PlainAttr : Type 0 where
  pub space : List ℕ
  pub local : List ℕ
  pub value : List ℕ

-- an element's own: its expanded name, its attributes in order, its base URI and its language (empty: none)
pub record PlainHead : Type 0 where
  pub space : List ℕ
  pub local : List ℕ
  pub attributes : List PlainAttr
  pub base : List ℕ
  pub lang : List ℕ

-- nothing, or an element with what it holds, a text, a comment or a processing instruction, and what stands behind it
pub data Plain : Type 0 where
  nothing_plain : Plain
  element_plain : PlainHead → Plain → Plain → Plain
  text_plain : (value : List ℕ) → Plain → Plain
  comment_plain : (value : List ℕ) → Plain → Plain
  pi_plain : (target value : List ℕ) → Plain → Plain

-- a text in front of others, joined to the text that they begin with; a text of no characters adds nothing
abbrev pub text_before : List ℕ → Plain → Plain
text_before [] others = others
text_before (b ∷ value) (text_plain more others) = text_plain (b ∷ value ++ more) others
text_before (b ∷ value) others = text_plain (b ∷ value) others

abbrev pub plain_attr : Attr → PlainAttr
plain_attr a = record { space = a.space; local = a.local; value = a.value }

abbrev pub plain_head : Head → PlainHead
plain_head head = record {
  space = head.space;
  local = head.local;
  attributes = map plain_attr head.attributes;
  base = head.base;
  lang = head.lang;
}

abbrev pub infoset_of : Nodes → Plain
infoset_of no_nodes = nothing_plain
infoset_of (element_node head kids rest) = element_plain (plain_head head) (infoset_of kids) (infoset_of rest)
infoset_of (text_node value origin rest) = text_before value (infoset_of rest)
infoset_of (comment_node value origin rest) = comment_plain value (infoset_of rest)
infoset_of (pi_node target value origin rest) = pi_plain target value (infoset_of rest)
