-- The nodes that the content of a document gives, or its first fault. XML Information Set, sections 2.2 to 2.7; Namespaces in
-- XML 1.0, sections 5 to 7; XML Base, sections 3 and 4; XML 1.0 (Fifth Edition), section 2.12 (`xml:lang`).
-- Here: a fragment of `xml:base` is dropped, and an element's faults come in an order of this project: a declaration, the
-- prefix of its name and then of its attributes, two attributes of one name, its base, the number of nodes, what it holds.
--
--   Context        what an element hands on: the bindings in scope, the base URI and the language
--   and_then       the next step, where there was no fault
--   element_of     an element's own, and the context of what it holds
--   nodes_of       the nodes of a content, where so many stand before it in the document
use Rattle.std.specs.Prelude.{◌+◌, suc, ℕ, Bool, true, false, not, ◌&&◌, nat_lt, List, [], ◌∷◌, codes, bytes_eq, if◌then◌else◌, Option, None, Some, unwrap_or, Result, Ok, Err}
use Rattle.std.specs.List.{list_any}
use Rattle.xt_spec.specs.Limit.{most_nodes}
use Rattle.xt_spec.specs.Reading.{document}
use Rattle.xt_spec.specs.Namespace.{NamedValue, Binding, prefix_of, is_declaration, scope_of, Expanded, expanded_name}
use Rattle.xt_spec.specs.Content.{Content, nothing_given, element_content, text_content, comment_content, pi_content}
use Rattle.bk_name.specs.Uri.{joined, without_fragment}
use Rattle.bk_spec.specs.Node.{owned, written, Attr, Head, Nodes, no_nodes, element_node, text_node, comment_node, pi_node, node_count}
use Rattle.bk_spec.specs.Fault.{Fault, too_large, bad_namespace, unbound, duplicate_attribute, bad_reference}

pub record Context : Type 0 where
  pub scope : List Binding
  pub base : List ℕ
  pub lang : List ℕ

-- the next step, where there was no fault
abbrev pub and_then : {A B : Type 0} → (A → Result B Fault) → Result A Fault → Result B Fault
and_then next (Ok value) = next value
and_then next (Err fault) = Err fault

-- what there is, or the fault
abbrev pub or_fault : {A : Type 0} → Fault → Option A → Result A Fault
or_fault fault None = Err fault
or_fault fault (Some value) = Ok value

-- the value of the attribute of this name, as written
abbrev pub value_at : List NamedValue → List ℕ → Option (List ℕ)
value_at [] name = None
value_at (a ∷ others) name = if bytes_eq a.name name then Some a.value else value_at others name

-- the expanded name of an attribute (true) or an element (false), as written in this file
abbrev pub named : List ℕ → List Binding → Bool → List ℕ → Result Expanded Fault
named file scope attribute qname = or_fault (unbound file (unwrap_or (prefix_of qname) [])) (expanded_name scope attribute qname)

-- a written attribute
abbrev pub attr_of : NamedValue → Expanded → Attr
attr_of a name = record {
  qname = a.name;
  space = name.space;
  local = name.local;
  value = a.value;
  is_id = bytes_eq a.name (codes "xml:id");
  how = written;
}

-- the attributes, in order; declarations are not among them
abbrev pub attrs_of : List ℕ → List Binding → List NamedValue → Result (List Attr) Fault
attrs_of file scope [] = Ok []
attrs_of file scope (a ∷ others) =
    if is_declaration a.name then attrs_of file scope others
    else and_then (λ (name : Expanded). and_then (λ (attrs : List Attr). Ok (attr_of a name ∷ attrs)) (attrs_of file scope others)) (named file scope true a.name)

abbrev pub has_name : Attr → Attr → Bool
has_name a b = bytes_eq a.space b.space && bytes_eq a.local b.local

-- no two attributes have one expanded name (Namespaces, 6.3)
abbrev pub are_distinct : List Attr → Bool
are_distinct [] = true
are_distinct (a ∷ others) = not (list_any (has_name a) others) && are_distinct others

-- the attributes, where no two have one expanded name
abbrev pub distinct_attrs : List ℕ → List Binding → List NamedValue → Result (List Attr) Fault
distinct_attrs file scope values = and_then (λ (attrs : List Attr). if are_distinct attrs then Ok attrs else Err (duplicate_attribute file)) (attrs_of file scope values)

-- the base URI at a base (XML Base, 3): that of `xml:base`, joined; else the same
abbrev pub base_at : List ℕ → List ℕ → Option (List ℕ) → Result (List ℕ) Fault
base_at file base None = Ok base
base_at file base (Some reference) = and_then (λ (uri : List ℕ). Ok (without_fragment uri)) (or_fault (bad_reference file) (joined base reference))

-- an element's own, and the context of what it holds
pub record Element : Type 0 where
  pub head : Head
  pub context : Context

abbrev pub element_in : List ℕ → List Binding → List ℕ → Expanded → List Attr → List ℕ → Element
element_in file scope lang name attrs base = record {
  head = record { space = name.space; local = name.local; attributes = attrs; base = base; lang = lang; origin = owned file document };
  context = record { scope = scope; base = base; lang = lang };
}

-- .. of the element of this name and these attributes, in the file, within a context
abbrev pub element_of : List ℕ → Context → List ℕ → List NamedValue → Result Element Fault
element_of file context qname values =
    and_then (λ (scope : List Binding).
    and_then (λ (name : Expanded).
    and_then (λ (attrs : List Attr).
    and_then (λ (base : List ℕ). Ok (element_in file scope (unwrap_or (value_at values (codes "xml:lang")) context.lang) name attrs base))
    (base_at file context.base (value_at values (codes "xml:base"))))
    (distinct_attrs file scope values))
    (named file scope false qname))
    (or_fault (bad_namespace file) (scope_of context.scope values))

-- a node, where fewer than 1,000,000 stand before it
abbrev pub with_room : List ℕ → ℕ → Result Nodes Fault → Result Nodes Fault
with_room file count others = if nat_lt count most_nodes then others else Err (too_large file)

-- the nodes of a content, where so many stand before it in the document; a text with an empty value gives none
abbrev pub nodes_of : List ℕ → Context → ℕ → Content → Result Nodes Fault
nodes_of file context count nothing_given = Ok no_nodes
nodes_of file context count (element_content name values kids rest) =
    and_then (λ (e : Element). with_room file count
    (and_then (λ (inner : Nodes). and_then (λ (others : Nodes). Ok (element_node e.head inner others))
    (nodes_of file context (suc count + node_count inner) rest))
    (nodes_of file e.context (suc count) kids)))
    (element_of file context name values)
nodes_of file context count (text_content [] rest) = nodes_of file context count rest
nodes_of file context count (text_content (b ∷ value) rest) =
    with_room file count (and_then (λ (others : Nodes). Ok (text_node (b ∷ value) (owned file document) others)) (nodes_of file context (suc count) rest))
nodes_of file context count (comment_content inner rest) =
    with_room file count (and_then (λ (others : Nodes). Ok (comment_node inner (owned file document) others)) (nodes_of file context (suc count) rest))
nodes_of file context count (pi_content target inner rest) =
    with_room file count (and_then (λ (others : Nodes). Ok (pi_node target inner (owned file document) others)) (nodes_of file context (suc count) rest))
