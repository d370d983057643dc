-- Namespaces, after Namespaces in XML 1.0 (Third Edition), sections 2.2, 3, 5, 6.1, 6.2 and 6.3. Texts are values, as UTF-8.
-- Here: a name with the prefix `xmlns` is never bound but in a declaration, and `xmlns:xmlns` declares what is not allowed.
--
--   Binding          a prefix and what it is bound to
--   is_declaration   whether an attribute is a declaration; declared_prefix: of which prefix
--   is_allowed       whether a declaration is allowed
--   scope_of         the bindings in scope of an element
--   Expanded         an expanded name
--   expanded_name    that of an element or of an attribute
use Rattle.std.specs.Prelude.{ℕ, Bool, true, false, not, ◌&&◌, ◌||◌, ◌==◌, List, [], ◌∷◌, ◌++◌, length, codes, bytes_eq, Option, Some, None, option_map, unwrap_or, if◌then◌else◌}
use Rattle.std.specs.List.{list_all, list_any, before_first, after_first}

-- an attribute as a tag has it: its name as written, and its value
pub record NamedValue : Type 0 where
  pub name : List ℕ
  pub value : List ℕ

-- a prefix, empty for the default namespace, and the name of the namespace, empty for none
pub record Binding : Type 0 where
  pub prefix : List ℕ
  pub namespace : List ℕ

abbrev pub xml_namespace : List ℕ
xml_namespace = codes "http://www.w3.org/XML/1998/namespace"

abbrev pub xmlns_namespace : List ℕ
xmlns_namespace = codes "http://www.w3.org/2000/xmlns/"

abbrev pub is_colon : ℕ → Bool
is_colon b = b == 0x3A

-- [10] Prefix: what stands before the colon of a QName, where it has one
abbrev pub prefix_of : List ℕ → Option (List ℕ)
prefix_of qname = if list_any is_colon qname then Some (before_first is_colon qname) else None

-- [11] LocalPart: what stands behind the colon, or the whole name
abbrev pub local_of : List ℕ → List ℕ
local_of qname = if list_any is_colon qname then after_first is_colon qname else qname

-- an attribute of this name is a declaration
abbrev pub is_declaration : List ℕ → Bool
is_declaration name = bytes_eq name (codes "xmlns") || bytes_eq (unwrap_or (prefix_of name) []) (codes "xmlns")

-- [1] NSAttName: the prefix that an attribute of this name declares, empty for `xmlns`; none where it is no declaration
abbrev pub declared_prefix : List ℕ → Option (List ℕ)
declared_prefix name =
    if is_declaration name then (if bytes_eq name (codes "xmlns") then Some [] else Some (local_of name)) else None

-- Reserved Prefixes and Namespace Names; No Prefix Undeclaring
abbrev pub is_allowed : Binding → Bool
is_allowed b =
    if bytes_eq b.prefix (codes "xmlns") then false
    else (if bytes_eq b.prefix (codes "xml") then bytes_eq b.namespace xml_namespace
    else not (bytes_eq b.namespace xml_namespace) && not (bytes_eq b.namespace xmlns_namespace)
    && (length b.prefix == 0 || not (length b.namespace == 0)))

-- what an attribute binds, and then what others do
abbrev pub bound_first : Option (List ℕ) → List ℕ → List Binding → List Binding
bound_first None namespace others = others
bound_first (Some prefix) namespace others = record { prefix = prefix; namespace = namespace } ∷ others

-- the bindings that attributes declare, in order
abbrev pub bindings_of : List NamedValue → List Binding
bindings_of [] = []
bindings_of (a ∷ others) = bound_first (declared_prefix a.name) a.value (bindings_of others)

-- the scope that a document begins with: `xml` is bound to its namespace
abbrev pub xml_scope : List Binding
xml_scope = record { prefix = codes "xml"; namespace = xml_namespace } ∷ []

-- what is in scope of an element with these attributes, the innermost first; none where a declaration isn't allowed (6.1)
abbrev pub scope_of : List Binding → List NamedValue → Option (List Binding)
scope_of outer attributes = if list_all is_allowed (bindings_of attributes) then Some (bindings_of attributes ++ outer) else None

-- what the prefix is bound to: the innermost binding counts
abbrev pub namespace_at : List Binding → List ℕ → Option (List ℕ)
namespace_at [] prefix = None
namespace_at (b ∷ scope) prefix = if bytes_eq b.prefix prefix then Some b.namespace else namespace_at scope prefix

-- an expanded name: the name of its namespace, empty where it has none, and its local name
pub record Expanded : Type 0 where
  pub space : List ℕ
  pub local : List ℕ

-- a name without a prefix: an attribute's has no namespace, an element's the default one (6.2)
abbrev pub default_of : List Binding → Bool → List ℕ
default_of scope true = []
default_of scope false = unwrap_or (namespace_at scope []) []

-- the expanded name of an attribute (true) or an element (false); none where its prefix isn't bound (section 5)
abbrev pub expanded_with : List Binding → Bool → List ℕ → Option (List ℕ) → Option Expanded
expanded_with scope attribute local None = Some (record { space = default_of scope attribute; local = local })
expanded_with scope attribute local (Some prefix) = option_map (λ (space : List ℕ). record { space = space; local = local }) (namespace_at scope prefix)

abbrev pub expanded_name : List Binding → Bool → List ℕ → Option Expanded
expanded_name scope attribute qname = expanded_with scope attribute (local_of qname) (prefix_of qname)
