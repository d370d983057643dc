-- The printed tree, of this project: a line a node in document order, with two spaces a level before it. An element's
-- further lines, one level deeper, stand before its children: its base URI where it is at the top or its base isn't its
-- parent's, then an attribute a line.
--
--   print_nodes  the lines of the nodes, behind these spaces, within an element of this base URI (none: at the top)
--   print_tree   the lines of a tree
use Rattle.std.specs.Prelude.{ℕ, List, [], ◌∷◌, ◌++◌, ◌==◌, if◌then◌else◌, length, codes, bytes_eq, Option, None, Some}
use Rattle.std.specs.List.{flat_map}
use Rattle.bk_spec.specs.Node.{Origin, owned, from_entity, How, written, by_default, by_fixup, Attr, Head, Nodes, no_nodes, element_node, text_node, comment_node, pi_node}

-- between quotes, `"` and `\` stand behind a `\`, and LF, tab and CR are `\n`, `\t` and `\r`
abbrev pub quoted_byte : ℕ → List ℕ
quoted_byte b =
    if b == 0x22 then 0x5C ∷ 0x22 ∷ []
    else (if b == 0x5C then 0x5C ∷ 0x5C ∷ []
    else (if b == 0xA then 0x5C ∷ 0x6E ∷ []
    else (if b == 0x9 then 0x5C ∷ 0x74 ∷ []
    else (if b == 0xD then 0x5C ∷ 0x72 ∷ []
    else b ∷ []))))

abbrev pub quoted_text : List ℕ → List ℕ
quoted_text text = 0x22 ∷ flat_map quoted_byte text ++ 0x22 ∷ []

-- the local name, behind `xml:` in the namespace of that prefix, and behind the namespace in braces in any other
abbrev pub name_text : List ℕ → List ℕ → List ℕ
name_text space local =
    if length space == 0 then local
    else (if bytes_eq space (codes "http://www.w3.org/XML/1998/namespace") then codes "xml:" ++ local
    else codes "{" ++ space ++ codes "}" ++ local)

abbrev pub owner_text : Origin → List ℕ
owner_text (owned file role) = file
owner_text (from_entity file entity) = file ++ codes " by &" ++ entity ++ codes ";"

abbrev pub how_text : How → List ℕ
how_text written = []
how_text by_default = codes " default"
how_text by_fixup = codes " fixup"

-- the spaces of the next level
abbrev pub deeper : List ℕ → List ℕ
deeper indent = codes "  " ++ indent

abbrev pub element_line : List ℕ → Head → List ℕ
element_line indent head = indent ++ codes "element " ++ name_text head.space head.local ++ codes " in " ++ owner_text head.origin ++ codes "\n"

abbrev pub base_line : List ℕ → Option (List ℕ) → List ℕ → List ℕ
base_line indent None base = indent ++ codes "base " ++ base ++ codes "\n"
base_line indent (Some parent) base = if bytes_eq parent base then [] else indent ++ codes "base " ++ base ++ codes "\n"

abbrev pub attribute_line : List ℕ → Attr → List ℕ
attribute_line indent a = indent ++ codes "attribute " ++ name_text a.space a.local ++ codes "=" ++ quoted_text a.value ++ how_text a.how ++ codes "\n"

abbrev pub attribute_lines : List ℕ → List Attr → List ℕ
attribute_lines indent [] = []
attribute_lines indent (a ∷ others) = attribute_line indent a ++ attribute_lines indent others

abbrev pub text_line : List ℕ → List ℕ → Origin → List ℕ
text_line indent value origin = indent ++ codes "text " ++ quoted_text value ++ codes " in " ++ owner_text origin ++ codes "\n"

abbrev pub comment_line : List ℕ → List ℕ → Origin → List ℕ
comment_line indent value origin = indent ++ codes "comment " ++ quoted_text value ++ codes " in " ++ owner_text origin ++ codes "\n"

abbrev pub pi_line : List ℕ → List ℕ → List ℕ → Origin → List ℕ
pi_line indent target value origin = indent ++ codes "pi " ++ target ++ codes " " ++ quoted_text value ++ codes " in " ++ owner_text origin ++ codes "\n"

-- the lines of the nodes, behind these spaces, within an element of this base URI (none: at the top)
abbrev pub print_nodes : List ℕ → Option (List ℕ) → Nodes → List ℕ
print_nodes indent parent no_nodes = []
print_nodes indent parent (element_node head kids rest) =
    element_line indent head ++ base_line (deeper indent) parent head.base ++ attribute_lines (deeper indent) head.attributes
    ++ print_nodes (deeper indent) (Some head.base) kids ++ print_nodes indent parent rest
print_nodes indent parent (text_node value origin rest) = text_line indent value origin ++ print_nodes indent parent rest
print_nodes indent parent (comment_node value origin rest) = comment_line indent value origin ++ print_nodes indent parent rest
print_nodes indent parent (pi_node target value origin rest) = pi_line indent target value origin ++ print_nodes indent parent rest

abbrev pub print_tree : Nodes → List ℕ
print_tree nodes = print_nodes [] None nodes
