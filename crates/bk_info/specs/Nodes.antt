-- What nodes of the code are, and faults, in the words of `bk_spec`.
--
--   attr_in    an attribute
--   nodes_in   nodes in a row
--   kind_in    how an element of XInclude is wrong
--   fault_in   why a book doesn't open
use Rattle.std.specs.Prelude.{List, [], ◌∷◌, map}
use Rattle.bk_spec.specs.Node as spec
use Rattle.bk_spec.specs.Node.{Origin, written, by_default, by_fixup, Nodes, no_nodes, element_node, text_node, comment_node, pi_node}
use Rattle.bk_spec.specs.IncludeKind as kind
use Rattle.bk_spec.specs.Fault as fault
use Rattle.bk_spec.specs.DocumentNodes.{Context}
use Rattle.xt_spec.specs.Namespace.{Expanded}
use Rattle.bk_info.specs.declared.attr.How.{How}
use Rattle.bk_info.specs.declared.attr.How.TheVariants.{Written, Default, Fixup}
use Rattle.bk_info.specs.declared.attr.Attr.{Attr}
use Rattle.bk_info.specs.declared.node.Node.{Node}
use Rattle.bk_info.specs.declared.node.Node.TheOpen.{Node-F, Elem, Text, Comment, Pi}
use Rattle.bk_info.specs.declared.node.Node.TheFolds.{fold-Node}
use Rattle.bk_info.specs.declared.fault.IncludeKind.{IncludeKind}
use Rattle.bk_info.specs.declared.fault.IncludeKind.TheVariants as wrong
use Rattle.bk_info.specs.declared.fault.BookFault.{BookFault}
use Rattle.bk_info.specs.declared.fault.BookFault.TheVariants as code

abbrev pub how_in : How → spec.How
how_in Written = written
how_in Default = by_default
how_in Fixup = by_fixup

abbrev pub attr_in : Attr → spec.Attr
attr_in a = record {
  qname = a.qname;
  space = a.name.space;
  local = a.name.local;
  value = a.value;
  is_id = a.is_id;
  how = how_in a.how;
}

abbrev pub attrs_in : List Attr → List spec.Attr
attrs_in attrs = map attr_in attrs

-- an element's own
abbrev pub head_in : Expanded → List Attr → Context → Origin → spec.Head
head_in name attrs context origin = record {
  space = name.space;
  local = name.local;
  attributes = attrs_in attrs;
  base = context.base;
  lang = context.lang;
  origin = origin;
}

-- each node with those behind it
abbrev pub joined : List (Nodes → Nodes) → Nodes → Nodes
joined [] others = others
joined (node ∷ nodes) others = node (joined nodes others)

abbrev pub node_step : Node-F (Nodes → Nodes) → Nodes → Nodes
node_step (Elem name attrs context kids address) others = element_node (head_in name attrs context address.origin) (joined kids no_nodes) others
node_step (Text value address) others = text_node value address.origin others
node_step (Comment value address) others = comment_node value address.origin others
node_step (Pi target value address) others = pi_node target value address.origin others

-- a node, and those behind it
abbrev pub node_in : Node → Nodes → Nodes
node_in = fold-Node (Nodes → Nodes) node_step

-- the nodes of the code, and those behind them
abbrev pub nodes_before : List Node → Nodes → Nodes
nodes_before nodes others = joined (map node_in nodes) others

abbrev pub nodes_in : List Node → Nodes
nodes_in nodes = nodes_before nodes no_nodes

abbrev pub kind_in : IncludeKind → kind.IncludeKind
kind_in wrong.Parse = kind.parse
kind_in wrong.Fragid = kind.fragid
kind_in wrong.SetXmlId = kind.set_xml_id
kind_in wrong.HrefFragment = kind.href_fragment
kind_in wrong.TextPointer = kind.text_pointer
kind_in wrong.NoPointer = kind.no_pointer
kind_in wrong.Encoding = kind.encoding
kind_in wrong.TwoFallbacks = kind.two_fallbacks
kind_in wrong.ChildInNamespace = kind.child_in_namespace
kind_in wrong.StrayFallback = kind.stray_fallback

abbrev pub fault_in : BookFault → fault.Fault
fault_in (code.Missing file) = fault.missing file
fault_in (code.TooLarge file) = fault.too_large file
fault_in (code.Encoding file) = fault.encoding file
fault_in (code.NotWellFormed file) = fault.not_well_formed file
fault_in (code.TooDeep file) = fault.too_deep file
fault_in (code.NotYet file) = fault.not_yet file
fault_in (code.Unread file) = fault.unread file
fault_in (code.Catalog file) = fault.catalog file
fault_in (code.OutsideBook uri) = fault.outside_book uri
fault_in (code.Undeclared file name) = fault.undeclared file name
fault_in (code.EntityLoop file name) = fault.entity_loop file name
fault_in (code.ExternalInAttribute file name) = fault.external_in_attribute file name
fault_in (code.Unparsed file name) = fault.unparsed file name
fault_in (code.BadNamespace file) = fault.bad_namespace file
fault_in (code.Unbound file prefix) = fault.unbound file prefix
fault_in (code.DuplicateAttribute file) = fault.duplicate_attribute file
fault_in (code.BadReference file) = fault.bad_reference file
fault_in (code.BadInclude file which) = fault.bad_include file (kind_in which)
fault_in (code.BadPointer file) = fault.bad_pointer file
fault_in (code.IncludeLoop file) = fault.include_loop file
fault_in (code.NoFallback file) = fault.no_fallback file
fault_in (code.RootNotOne file) = fault.root_not_one file
