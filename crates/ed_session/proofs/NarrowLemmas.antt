-- No item of a reading is empty, so no more stand side by side than there are bytes.
use Rattle.std.proofs.Common.{◌≡◌, ◌≢◌, ℕ, suc, ◌<◌, ◌≤◌, ◌+◌, List, [], ◌∷◌, ◌++◌, length, refl, sym, subst, arith, inl, inr, Option, codes, map}
use Rattle.std.proofs.lemmas.List.{length-append}
use Rattle.std.specs.List.{concat}
use Rattle.xt_spec.specs.Limit.{most_file_bytes}
use Rattle.xt_spec.specs.Declaration.{IsDeclarationOf, Declaration, is_xml_declaration}
use Rattle.xt_spec.specs.Reference.{IsEntityRef}
use Rattle.xt_spec.specs.Tag.{attribute_text}
use Rattle.xt_spec.specs.Tree.{Items, nil, element, leaf, text_item, reference_item, comment_item, pi_item, gap, close_text, source_text}
use Rattle.xt_spec.specs.Reading.{IsElementAt, IsContent, Stage, before_doctype, before_root, behind_root, Leads, document, tag_ending, IsDeclared, IsOrdered}
use Rattle.xt_read.proofs.Theorems.{comment_begins, pi_begins, doctype_begins, text_item_some}
use Rattle.ed_session.specs.Items.{item_count, AreNarrowWithin, IsNarrow}
use Rattle.ed_session.specs.Kept.{Opens}

-- each tag and leaf has a byte at least
abbrev AreSome : Items → Type 0
AreSome nil = Unit {0}
AreSome (element open_tag kids close rest) = (0 < length open_tag) × AreSome kids × AreSome rest
AreSome (leaf kind text rest) = (0 < length text) × AreSome rest

begun : (text tail : List ℕ) (b : ℕ) → text ≡ b ∷ tail → 0 < length text
begun text tail b is = rw is (omega arith)

some_bytes : (text : List ℕ) → text ≢ [] → 0 < length text
some_bytes [] some = absurd (some refl)
some_bytes (b ∷ text) some = omega arith

tag_some : (level : ℕ) (open_tag : List ℕ) (kids : Items) (close : Option (List ℕ)) → IsElementAt level open_tag kids close → 0 < length open_tag
tag_some level open_tag kids close is =
    let tag = is.element.tag in
    begun open_tag (tag.name ++ concat (map attribute_text tag.attributes) ++ tag.blank ++ tag_ending close) 0x3C is.element.spelled

reference_some : (text : List ℕ) → IsEntityRef text → 0 < length text
reference_some text (name, is_name, is) = begun text (name ++ codes ";") 0x26 is

content_some : (level : ℕ) (items : Items) → IsContent level items → AreSome items
content_some level nil is = tt
content_some level (element open_tag kids close rest) is = (tag_some level open_tag kids close is.0, content_some (suc level) kids is.1, content_some level rest is.2)
content_some level (leaf text_item text rest) is = (text_item_some text is.0, content_some level rest is.2)
content_some level (leaf reference_item text rest) is = (reference_some text is.0, content_some level rest is.2)
content_some level (leaf comment_item text rest) is = let (tail, begins) = comment_begins text is.0 in (begun text tail 0x3C begins, content_some level rest is.1)
content_some level (leaf pi_item text rest) is = let (tail, begins) = pi_begins text is.0 in (begun text tail 0x3C begins, content_some level rest is.1)
content_some level (leaf gap text rest) is = absurd is

top_some : (stage last : Stage) (items : Items) → Leads stage items last → AreSome items
top_some stage last nil is = tt
top_some stage last (element open_tag kids close rest) is = (tag_some 0 open_tag kids close is.1, content_some 1 kids is.2, top_some behind_root last rest is.3)
top_some stage last (leaf comment_item text rest) is = let (tail, begins) = comment_begins text is.0 in (begun text tail 0x3C begins, top_some stage last rest is.1)
top_some stage last (leaf pi_item text rest) is = let (tail, begins) = pi_begins text is.0 in (begun text tail 0x3C begins, top_some stage last rest is.1)
top_some stage last (leaf gap text rest) (inl (first, is, leads)) = let (tail, begins) = doctype_begins text is in (begun text tail 0x3C begins, top_some before_root last rest leads)
top_some stage last (leaf gap text rest) (inr (space, apart, leads)) = (some_bytes text space.1, top_some stage last rest leads)
top_some stage last (leaf text_item text rest) is = absurd is
top_some stage last (leaf reference_item text rest) is = absurd is

declaration_some : (d : Declaration) (text : List ℕ) → IsDeclarationOf d text → 0 < length text
declaration_some d text is = begun text (codes "?xml" ++ is.version ++ is.encoding ++ is.standalone ++ is.blank ++ codes "?>") 0x3C is.spelled

declared_some : (items : Items) → IsDeclared is_xml_declaration (λ main. Leads before_doctype main behind_root) items → AreSome items
declared_some items (inl (text, rest, is, declares, leads)) =
    let (d, of, form, utf8) = declares in
    subst AreSome (sym is) (declaration_some d text of, top_some before_doctype behind_root rest leads)
declared_some items (inr leads) = top_some before_doctype behind_root items leads

reading_some : (items : Items) → IsOrdered document items → AreSome items
reading_some items (inl (rest, is, declared)) = subst AreSome (sym is) (omega arith, declared_some rest declared)
reading_some items (inr (apart, declared)) = declared_some items declared

element_size : (a b c d : List ℕ) → length (a ++ b ++ c ++ d) ≡ length a + length b + length c + length d
element_size a b c d = omega (arith, length-append (a ++ b ++ c) d, length-append (a ++ b) c, length-append a b)

some_count : (items : Items) → AreSome items → item_count items ≤ length (source_text items)
some_count nil are = omega arith
some_count (element open_tag kids close rest) are =
    let less = some_count rest are.2 in omega (arith, are.0, element_size open_tag (source_text kids) (close_text close) (source_text rest))
some_count (leaf kind text rest) are = let less = some_count rest are.1 in omega (arith, are.0, length-append text (source_text rest))

some_narrow : (most : ℕ) (items : Items) → AreSome items → length (source_text items) ≤ most → AreNarrowWithin most items
some_narrow most nil are fits = tt
some_narrow most (element open_tag kids close rest) are fits =
    let size = element_size open_tag (source_text kids) (close_text close) (source_text rest) in
    let few = some_count kids are.1 in
    (omega arith, some_narrow most kids are.1 (omega arith), some_narrow most rest are.2 (omega arith))
some_narrow most (leaf kind text rest) are fits = some_narrow most rest are.1 (omega (arith, length-append text (source_text rest)))

-- in a document that opens no more than 4,194,304 items stand side by side
pub open_narrow : (root bytes : List ℕ) (items : Items) → Opens root bytes items → IsNarrow most_file_bytes items
open_narrow root bytes items (nodes, opens) =
    let are = reading_some items opens.reading.ordered in
    let fits : length (source_text items) ≤ most_file_bytes = subst (λ (l : List ℕ). length l ≤ most_file_bytes) (sym opens.reading.joined) opens.size in
    let few = some_count items are in
    (omega arith, some_narrow most_file_bytes items are fits)
