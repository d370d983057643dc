-- The nodes of a content, the printed tree, the infoset of nodes, the paths of items that give nodes, and the lines of faults,
-- computed.
use Rattle.std.proofs.Common.{◌≡◌, refl, ℕ, List, [], ◌∷◌, codes, true, false, bytes_eq, Some, None, Ok, Err}
use Rattle.xt_spec.specs.Limit.{most_nodes}
use Rattle.xt_spec.specs.Content.{nothing_given, element_content, text_content, comment_content}
use Rattle.xt_spec.specs.Namespace.{NamedValue, Binding, xml_namespace, xml_scope}
use Rattle.xt_spec.specs.Reading.{document, entity}
use Rattle.xt_spec.specs.Tree.{Items, nil, element, leaf, text_item, comment_item, gap}
use Rattle.bk_name.proofs.Theorems.{escapes, no_port, joined_with_fragment, fragment_of_joined}
use Rattle.bk_spec.specs.Node.{Origin, owned, from_entity, How, written, by_default, by_fixup, Attr, Head, Nodes, no_nodes, element_node, text_node, comment_node}
use Rattle.bk_spec.specs.NodePaths.{node_paths}
use Rattle.bk_spec.specs.IncludeKind.{two_fallbacks, encoding}
use Rattle.bk_spec.specs.Fault.{too_large, bad_namespace, undeclared, outside_book, unbound, duplicate_attribute, bad_reference, bad_include, fault_line}
use Rattle.bk_spec.specs.DocumentNodes.{Context, attrs_of, distinct_attrs, base_at, element_of, nodes_of}
use Rattle.bk_spec.specs.Opening.{top_context}
use Rattle.bk_spec.specs.Print.{print_tree, quoted_text}
use Rattle.bk_spec.specs.Infoset.{nothing_plain, element_plain, text_plain, comment_plain, infoset_of}

hi : Nodes
hi = element_node (record { space = []; local = codes "a"; attributes = []; base = codes "file:///book/book.xml"; lang = []; origin = owned (codes "book.xml") document })
    (text_node (codes "hi") (owned (codes "book.xml") document) no_nodes) no_nodes

prints_hi : print_tree hi ≡ codes "element a in book.xml\n  base file:///book/book.xml\n  text \"hi\" in book.xml\n"
unfolding hi
prints_hi = refl

quotes_both : quoted_text (codes "x\"y\\z") ≡ codes "\"x\\\"y\\\\z\""
quotes_both = refl

keeps_a_quote_apart : bytes_eq (quoted_text (codes "x\"y")) (codes "\"x\"y\"") ≡ false
keeps_a_quote_apart = refl

-- a text of two files, in front of others
two_pieces : Nodes → Nodes
two_pieces rest = text_node (codes "ab") (owned (codes "book.xml") document) (text_node (codes "cd") (owned (codes "part.xml") entity) rest)

joins_texts : infoset_of (two_pieces no_nodes) ≡ text_plain (codes "abcd") nothing_plain
unfolding two_pieces
joins_texts = refl

keeps_texts_apart : infoset_of (two_pieces (comment_node (codes "!") (owned (codes "book.xml") document) (two_pieces no_nodes)))
    ≡ text_plain (codes "abcd") (comment_plain (codes "!") (text_plain (codes "abcd") nothing_plain))
unfolding two_pieces
keeps_texts_apart = refl

gives_hi : infoset_of hi ≡ element_plain (record { space = []; local = codes "a"; attributes = []; base = codes "file:///book/book.xml"; lang = [] }) (text_plain (codes "hi") nothing_plain) nothing_plain
unfolding hi
gives_hi = refl

-- two texts side by side are no infoset of two pieces
not_two_texts : infoset_of (two_pieces no_nodes) ≡ text_plain (codes "ab") (text_plain (codes "cd") nothing_plain) → ⊥
unfolding two_pieces
not_two_texts same = absurd (cc)

-- `<!--c--><a><![CDATA[]]>x<b/></a>` behind white space: the gap and the void text give no node, and count as indices
items : Items
items = leaf gap (codes " ") (leaf comment_item (codes "<!--c-->")
    (element (codes "<a>") (leaf text_item (codes "<![CDATA[]]>") (leaf text_item (codes "x") (element (codes "<b/>") nil None nil))) (Some (codes "</a>")) nil))

gives_these_paths : node_paths [] 0 items ≡ (1 ∷ []) ∷ (2 ∷ []) ∷ (2 ∷ 1 ∷ []) ∷ (2 ∷ 2 ∷ []) ∷ []
unfolding items
gives_these_paths = refl

-- within the element at a path
gives_these_below : node_paths (4 ∷ []) 1 (leaf text_item (codes "x") nil) ≡ (4 ∷ 1 ∷ []) ∷ []
gives_these_below = refl

no_path_of_a_gap : node_paths [] 0 (leaf gap (codes " ") nil) ≡ (0 ∷ []) ∷ [] → ⊥
no_path_of_a_gap same = absurd (cc)

tells_an_entity : fault_line (undeclared (codes "b.xml") (codes "e")) ≡ codes "fault Undeclared b.xml e\n"
tells_an_entity = refl

tells_a_uri : fault_line (outside_book (codes "http://a/")) ≡ codes "fault OutsideBook http://a/\n"
tells_a_uri = refl

tells_two_fallbacks : fault_line (bad_include (codes "b.xml") two_fallbacks) ≡ codes "fault BadInclude b.xml TwoFallbacks\n"
tells_two_fallbacks = refl

-- the encoding of an include is no fault of a file's encoding
tells_encodings_apart : bytes_eq (fault_line (bad_include (codes "b.xml") encoding)) (codes "fault Encoding b.xml\n") ≡ false
tells_encodings_apart = refl

-- ---- other origins, and attributes, printed

abbrev attribute : List ℕ → How → Attr
attribute value how = record { qname = codes "n"; space = []; local = codes "n"; value = value; is_id = false; how = how }

abbrev head : List ℕ → List Attr → Origin → Head
head base attributes origin = record { space = []; local = codes "a"; attributes = attributes; base = base; lang = []; origin = origin }

abbrev by_entity : Origin
by_entity = from_entity (codes "book.xml") (codes "e")

prints_an_entity : print_tree (text_node (codes "hi") by_entity no_nodes) ≡ codes "text \"hi\" in book.xml by &e;\n"
prints_an_entity = refl

-- a file that is read as an entity is a file
prints_no_reference : bytes_eq (print_tree (text_node (codes "hi") (owned (codes "book.xml") entity) no_nodes)) (codes "text \"hi\" in book.xml by &e;\n") ≡ false
prints_no_reference = refl

prints_how : print_tree (element_node (head (codes "file:///b") (attribute (codes "1") written ∷ attribute (codes "2") by_default ∷ attribute (codes "3") by_fixup ∷ []) by_entity) no_nodes no_nodes)
    ≡ codes "element a in book.xml by &e;\n  base file:///b\n  attribute n=\"1\"\n  attribute n=\"2\" default\n  attribute n=\"3\" fixup\n"
prints_how = refl

-- a base is printed where it isn't that of the element around
within_one : List ℕ → Nodes
within_one base = element_node (head (codes "file:///b") [] by_entity) (element_node (head base [] by_entity) no_nodes no_nodes) no_nodes

prints_no_base_again : print_tree (within_one (codes "file:///b")) ≡ codes "element a in book.xml by &e;\n  base file:///b\n  element a in book.xml by &e;\n"
unfolding within_one
prints_no_base_again = refl

prints_another_base : print_tree (within_one (codes "file:///c")) ≡ codes "element a in book.xml by &e;\n  base file:///b\n  element a in book.xml by &e;\n    base file:///c\n"
unfolding within_one
prints_another_base = refl

-- ---- the nodes of a content

abbrev file : List ℕ
file = codes "b.xml"

abbrev top : Context
top = record { scope = xml_scope; base = codes "file:///d/e"; lang = [] }

abbrev value_of : List ℕ → List ℕ → NamedValue
value_of name value = record { name = name; value = value }

-- a fragment is dropped
joins_a_base : base_at file (codes "file:///d/e") (Some (codes "f#g")) ≡ Ok (codes "file:///d/f")
joins_a_base = rw (joined_with_fragment, fragment_of_joined) refl

keeps_the_base : base_at file (codes "file:///d/e") None ≡ Ok (codes "file:///d/e")
keeps_the_base = refl

joins_no_base : base_at file (codes "file:///d/e") (Some (codes "http://h:99999/")) ≡ Err (bad_reference file)
joins_no_base = rw no_port refl

-- the document element has that of the file
begins_at_the_file : (top_context (codes "a b")).base ≡ codes "file:///book/a%20b"
begins_at_the_file = escapes

-- an element of a document, with what it holds
abbrev element_of_file : List ℕ → List Attr → List ℕ → List ℕ → Nodes → Nodes → Nodes
element_of_file local attributes base lang kids rest =
    element_node (record { space = []; local = local; attributes = attributes; base = base; lang = lang; origin = owned file document }) kids rest

abbrev xml_attribute : List ℕ → List ℕ → List ℕ → Attr
xml_attribute qname local value = record { qname = qname; space = xml_namespace; local = local; value = value; is_id = false; how = written }

-- `<a xml:base='f#g'><b/></a>`: an element without `xml:base` has the base of its parent
hands_a_base_on : nodes_of file top 0 (element_content (codes "a") (value_of (codes "xml:base") (codes "f#g") ∷ []) (element_content (codes "b") [] nothing_given nothing_given) nothing_given)
    ≡ Ok (element_of_file (codes "a") (xml_attribute (codes "xml:base") (codes "base") (codes "f#g") ∷ []) (codes "file:///d/f") [] (element_of_file (codes "b") [] (codes "file:///d/f") [] no_nodes no_nodes) no_nodes)
hands_a_base_on = rw (joined_with_fragment, fragment_of_joined) refl

-- `<a xml:lang='de'><b/><c xml:lang=''/></a>`: the nearest language counts, and an empty one undoes it
abbrev lang : List ℕ → NamedValue
lang value = value_of (codes "xml:lang") value

abbrev lang_attribute : List ℕ → Attr
lang_attribute value = xml_attribute (codes "xml:lang") (codes "lang") value

hands_a_language_on : nodes_of file top 0 (element_content (codes "a") (lang (codes "de") ∷ []) (element_content (codes "b") [] nothing_given (element_content (codes "c") (lang [] ∷ []) nothing_given nothing_given)) nothing_given)
    ≡ Ok (element_of_file (codes "a") (lang_attribute (codes "de") ∷ []) (codes "file:///d/e") (codes "de")
    (element_of_file (codes "b") [] (codes "file:///d/e") (codes "de") no_nodes (element_of_file (codes "c") (lang_attribute [] ∷ []) (codes "file:///d/e") [] no_nodes no_nodes))
    no_nodes)
hands_a_language_on = refl

-- .. and one within doesn't count around it
keeps_a_language_within : nodes_of file top 0 (element_content (codes "a") [] (element_content (codes "b") (lang (codes "de") ∷ []) nothing_given nothing_given) nothing_given)
    ≡ Ok (element_of_file (codes "a") [] (codes "file:///d/e") [] (element_of_file (codes "b") (lang_attribute (codes "de") ∷ []) (codes "file:///d/e") (codes "de") no_nodes no_nodes) no_nodes)
keeps_a_language_within = refl

-- a declaration is no attribute, and `xml:id` is of type ID
gives_attributes : attrs_of file xml_scope (value_of (codes "xmlns:p") (codes "u:1") ∷ value_of (codes "xml:id") (codes "i") ∷ [])
    ≡ Ok (record (xml_attribute (codes "xml:id") (codes "id") (codes "i")) { is_id = true } ∷ [])
gives_attributes = refl

gives_no_unbound_attribute : attrs_of file xml_scope (value_of (codes "q:n") (codes "1") ∷ []) ≡ Err (unbound file (codes "q"))
gives_no_unbound_attribute = refl

-- two prefixes of one namespace
abbrev two_prefixes : List Binding
two_prefixes = record { prefix = codes "p"; namespace = codes "u:1" } ∷ record { prefix = codes "q"; namespace = codes "u:1" } ∷ []

abbrev in_namespace : List ℕ → List ℕ → List ℕ → Attr
in_namespace qname local value = record { qname = qname; space = codes "u:1"; local = local; value = value; is_id = false; how = written }

gives_two_attributes : distinct_attrs file two_prefixes (value_of (codes "p:n") (codes "1") ∷ value_of (codes "q:m") (codes "2") ∷ [])
    ≡ Ok (in_namespace (codes "p:n") (codes "n") (codes "1") ∷ in_namespace (codes "q:m") (codes "m") (codes "2") ∷ [])
gives_two_attributes = refl

gives_no_attribute_twice : distinct_attrs file two_prefixes (value_of (codes "p:n") (codes "1") ∷ value_of (codes "q:n") (codes "2") ∷ []) ≡ Err (duplicate_attribute file)
gives_no_attribute_twice = refl

-- an element's own, and what it hands on
gives_an_element : element_of file top (codes "a") (value_of (codes "xmlns") (codes "u:1") ∷ []) ≡ Ok (record {
  head = record { space = codes "u:1"; local = codes "a"; attributes = []; base = codes "file:///d/e"; lang = []; origin = owned file document };
  context = record { scope = record { prefix = []; namespace = codes "u:1" } ∷ xml_scope; base = codes "file:///d/e"; lang = [] };
})
gives_an_element = refl

gives_no_element : element_of file top (codes "a") (value_of (codes "xmlns:p") [] ∷ []) ≡ Err (bad_namespace file)
gives_no_element = refl

-- a text with an empty value gives no node
gives_no_empty_text : nodes_of file top 0 (text_content [] (text_content (codes "x") nothing_given)) ≡ Ok (text_node (codes "x") (owned file document) no_nodes)
gives_no_empty_text = refl

gives_no_unbound_element : nodes_of file top 0 (element_content (codes "p:a") [] nothing_given nothing_given) ≡ Err (unbound file (codes "p"))
gives_no_unbound_element = refl

gives_the_last_node : nodes_of file top 999999 (comment_content (codes "c") nothing_given) ≡ Ok (comment_node (codes "c") (owned file document) no_nodes)
gives_the_last_node = refl

gives_no_node_more : nodes_of file top most_nodes (comment_content (codes "c") nothing_given) ≡ Err (too_large file)
gives_no_node_more = refl
