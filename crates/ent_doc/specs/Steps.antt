-- What the functions make, in steps: each makes what stands before a rest, and leaves the rest.
--
--   Fails            the result is the fault that is told, where one is
--   prepended        nodes, and those behind them, where there was no fault
--   Gives            the items up to a rest give these nodes
--   GivesFault       the items have this fault
--   HavePaths        the items give nodes with their paths
--   HasPaths         .. up to a rest
--   IsAttrOf         the attribute of a name and a value
--   attr_value       the value of the attribute of a name
--   are_apart        no two attributes have one expanded name
--   attribute_at     an attribute's name and value, at their spans
--   IsCut            a span cuts no character of the text
--   AreCut           .. nor do those of attributes
use Rattle.std.specs.Prelude.{◌≡◌, ◌<◌, ◌≤◌, ℕ, length, Bool, true, not, ◌&&◌, List, [], ◌∷◌, ◌++◌, Option, None, Some, Result, Ok, Err, IfSome, bytes_eq, if◌then◌else◌}
use Rattle.std.specs.Borrow.{Bor}
use Rattle.std.specs.List.{list_any}
use Rattle.std.specs.Str.{IsUtf8}
use Rattle.xt_spec.specs.Tree.{Items}
use Rattle.xt_spec.specs.Reading.{document}
use Rattle.xt_spec.specs.Namespace.{NamedValue, Binding, Expanded}
use Rattle.xt_spec.specs.Content.{Content, HasContent}
use Rattle.xt_spec.specs.Tag.{Attribute}
use Rattle.xt_lex.specs.declared.attribute.AttrSrc.{AttrSrc}
use Rattle.xt_lex.specs.declared.token.Span.{Span}
use Rattle.xt_tree.specs.Meaning.{at_span}
use Rattle.bk_spec.specs.Node.{Nodes, owned}
use Rattle.bk_spec.specs.Fault.{Fault}
use Rattle.bk_spec.specs.DocumentNodes.{Context, Element, and_then, named, attr_of, has_name, nodes_of}
use Rattle.bk_spec.specs.NodePaths.{node_paths}
use Rattle.bk_info.specs.declared.attr.Attr.{Attr}
use Rattle.bk_info.specs.declared.node.Node.{Node}
use Rattle.bk_info.specs.Nodes.{attr_in, head_in, nodes_before}
use Rattle.bk_info.specs.Paths.{paths_in}
use Rattle.ent_doc.specs.declared.element.Own.{Own}

-- the result is the fault that is told, where one is
abbrev pub Fails : {A : Type 0} → Result A Fault → Option Fault → Type 0
Fails result told = IfSome told (λ (fault : Fault). result ≡ Err fault)

-- the nodes, and those behind them, where there was no fault
abbrev pub prepended : List Node → Result Nodes Fault → Result Nodes Fault
prepended nodes others = and_then (λ (rest : Nodes). Ok (nodes_before nodes rest)) others

-- the items up to a rest give these nodes, with so many before them and so many before the rest
abbrev pub Gives : List ℕ → Context → Items → Items → ℕ → ℕ → List Node → Type 0
Gives file context items rest before behind nodes = (content : Content) → HasContent items content
    → (others : Content) × HasContent rest others × (nodes_of file context before content ≡ prepended nodes (nodes_of file context behind others))

-- the items have the fault that is told, with so many nodes before them
abbrev pub GivesFault : List ℕ → Context → Items → ℕ → Option Fault → Type 0
GivesFault file context items before told = (content : Content) → HasContent items content → Fails (nodes_of file context before content) told

-- the items within the element at a path give nodes with their paths
abbrev pub HavePaths : List ℕ → Items → List Node → Type 0
HavePaths outer items nodes = (content : Content) → HasContent items content → paths_in nodes ≡ node_paths outer 0 items

-- .. up to a rest, where the items begin at an index, and the rest at another
abbrev pub HasPaths : List ℕ → ℕ → Items → Items → ℕ → List Node → Type 0
HasPaths outer index items rest behind nodes = (content : Content) → HasContent items content → node_paths outer index items ≡ paths_in nodes ++ node_paths outer behind rest

-- the node, where there is one
abbrev pub some_node : Option Node → List Node
some_node None = []
some_node (Some node) = node ∷ []

-- an element's own and the context of what it holds, of what the code keeps
abbrev pub element_in : List ℕ → Own → Element
element_in file own = record { head = head_in own.name own.attrs own.context (owned file document); context = own.context }

-- the attribute of this name and value, as written in the file
abbrev pub IsAttrOf : List ℕ → List Binding → NamedValue → Attr → Type 0
IsAttrOf file scope value attr = (name : Expanded) × (named file scope true value.name ≡ Ok name) × (attr_in attr ≡ attr_of value name)

-- the value of the attribute of this name, as written
abbrev pub attr_value : List Attr → List ℕ → Option (List ℕ)
attr_value [] name = None
attr_value (a ∷ others) name = if bytes_eq a.qname name then Some a.value else attr_value others name

-- what is compared of an attribute: the name of its namespace, and its local name
abbrev pub attr_texts : Attr → List ℕ × List ℕ
attr_texts attr = (attr.name.space, attr.name.local)

abbrev pub key_texts : Bor (List ℕ) × Bor (List ℕ) → List ℕ × List ℕ
key_texts key = (key.0.now, key.1.now)

-- no two attributes have one expanded name
abbrev pub are_apart : List Attr → Bool
are_apart [] = true
are_apart (a ∷ others) = not (list_any (λ other. has_name (attr_in a) (attr_in other)) others) && are_apart others

-- an attribute's name and value, at their spans
abbrev pub attribute_at : List ℕ → AttrSrc → Attribute
attribute_at bytes source = record { space = []; name = at_span bytes source.name; equals = []; quoted = at_span bytes source.value }

-- the span cuts no character: it takes at least one byte, ends within the text, and what stands at it is UTF-8
pub record IsCut (text : List ℕ) (span : Span) : Type 0 where
  pub some : span.from < span.to
  pub within : span.to ≤ length text
  pub utf8 : IsUtf8 (at_span text span)

-- .. nor do the spans of the attributes' names and values
abbrev pub AreCut : List ℕ → List AttrSrc → Type 0
AreCut text [] = Unit {0}
AreCut text (a ∷ others) = IsCut text a.name × IsCut text a.value × AreCut text others
