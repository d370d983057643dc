-- The spans of a document's tags and leaves cut no character, so what stands at them may be cut out.
use Rattle.std.proofs.Common.{◌≡◌, ◌∙◌, ℕ, ◌+◌, ◌-◌, ◌<◌, ◌≤◌, List, [], ◌∷◌, ◌++◌, length, drop, get_or, sym, ap, subst, arith, append_assoc}
use Rattle.std.proofs.lemmas.List.{length-append, length-take, length-drop, take-append-drop, get_or_append_left, get_or-drop}
use Rattle.std.proofs.lemmas.Str.{IsUtf8-drop, IsCharBoundary-start, IsCharBoundary-from_take, IsCharBoundary-from_rest}
use Rattle.std.specs.List.{AllByRecursion}
use Rattle.std.specs.Str.{IsUtf8, IsCharBoundary}
use Rattle.xt_spec.specs.Markup.{IsComment, IsPi}
use Rattle.xt_spec.specs.Tag.{Attribute, attribute_text, IsAttribute, IsAttValue}
use Rattle.xt_spec.specs.Text.{IsTextItem}
use Rattle.xt_spec.specs.Token.{comment, pi}
use Rattle.xt_spec.specs.Tree.{nil, before}
use Rattle.xt_lex.specs.declared.attribute.AttrSrc.{AttrSrc}
use Rattle.xt_lex.specs.declared.token.Span.{Span}
use Rattle.xt_lex.proofs.Theorems.{spells_utf8, qname_utf8, qname_nonempty, quoted_utf8}
use Rattle.xt_tree.specs.declared.source.Tag.{Tag as TagSrc}
use Rattle.xt_tree.specs.declared.source.Src.{Src}
use Rattle.xt_tree.specs.declared.source.Src.TheVariants as src
use Rattle.xt_tree.specs.declared.source.Src.TheOpen.{Src-F}
use Rattle.xt_tree.specs.declared.source.Src.TheFolds.{fold-roll-Src}
use Rattle.xt_tree.specs.Meaning.{at_span, item_of}
use Rattle.xt_tree.specs.Places.{Mark, tag_mark, span_mark, mark_step, marks_in, ending, AreAttributesAt}
use Rattle.xt_tree.proofs.Theorems.{behind, name_text, tag_stands, attributes_stand, attribute_texts, attribute_name_text, attribute_value_text}
use Rattle.xt_read.specs.ContentTest.{ArePlaced, AreSpelled}
use Rattle.xt_read.proofs.Theorems.{token_some, text_item_utf8, text_item_some, text_spelled, comment_spelled, pi_spelled}
use Rattle.ent_doc.specs.Steps.{IsCut, AreCut}

-- ---- a span that cuts no character begins and ends where a text may be cut

pub start_cut : (text : List ℕ) (span : Span) → IsCut text span → IsCharBoundary text span.from
start_cut text span is =
    let piece = at_span text span in
    let size : length piece ≡ span.to - span.from = omega (arith, is.within, is.some, length-take (span.to - span.from) (drop span.from text), length-drop span.from text) in
    let whole : piece ++ drop (span.to - span.from) (drop span.from text) ≡ drop span.from text = take-append-drop (span.to - span.from) (drop span.from text) in
    let none : span.from + 0 ≡ span.from = omega arith in
    let here : get_or text span.from 0 ≡ get_or piece 0 0 =
    ap (λ (n : ℕ). get_or text n 0) (sym none) ∙ sym (get_or-drop span.from text 0 0) ∙ ap (λ (l : List ℕ). get_or l 0 0) (sym whole)
    ∙ get_or_append_left piece (drop (span.to - span.from) (drop span.from text)) 0 0 (omega (arith, size, is.some)) in
    let begins = IsCharBoundary-start piece is.utf8 in
    (omega (arith, is.some, is.within), λ inside high. omega (arith, here, begins.1 (omega (arith, size, is.some)) (omega (arith, here, high))))

pub end_cut : (text : List ℕ) (span : Span) → IsUtf8 text → IsCut text span → IsCharBoundary text span.to
end_cut text span utf8 is =
    let rest = IsUtf8-drop text span.from utf8 (start_cut text span is) in
    let inner = IsCharBoundary-from_take (drop span.from text) (span.to - span.from) rest (omega (arith, is.within, length-drop span.from text)) is.utf8 in
    let place : span.from + (span.to - span.from) ≡ span.to = omega (arith, is.some) in
    subst (λ (n : ℕ). IsCharBoundary text n) place (IsCharBoundary-from_rest text span.from (span.to - span.from) (omega (arith, is.some, is.within)) inner)

-- ---- what stands at a span, is not empty and is UTF-8

token_cut : (text : List ℕ) (span : Span) → span.to ≤ length text → IsUtf8 (at_span text span) → 0 < length (at_span text span) → IsCut text span
token_cut text span within utf8 some =
    record { some = omega (arith, some, length-take (span.to - span.from) (drop span.from text)); within = within; utf8 = utf8 }

part_cut : (text part : List ℕ) (span : Span) → at_span text span ≡ part → span.to ≡ span.from + length part → IsUtf8 part → 0 < length part → IsCut text span
part_cut text part span is size utf8 some =
    let within : span.to ≤ length text = omega (arith, size, some, ap length is, length-take (span.to - span.from) (drop span.from text), length-drop span.from text) in
    token_cut text span within (subst IsUtf8 (sym is) utf8) (omega (arith, ap length is, some))

-- ---- a tag's name, and the names and values of its attributes

quoted_some : (text : List ℕ) → IsAttValue text → 0 < length text
quoted_some text (q, parts, quote, are, spelled) = omega (arith, ap length spelled)

attributes_cut : (text : List ℕ) (at : ℕ) (attributes : List Attribute) (sources : List AttrSrc) (rest : List ℕ) → AllByRecursion IsAttribute attributes → AreAttributesAt at attributes sources → drop at text ≡ attribute_texts attributes ++ rest → AreCut text sources
attributes_cut text at [] sources rest are placed stands = subst (λ (s : List AttrSrc). AreCut text s) (sym placed) tt
attributes_cut text at (a ∷ others) [] rest are placed stands = absurd placed
attributes_cut text at (a ∷ others) (first ∷ sources) rest are placed stands =
    let here = stands ∙ append_assoc (attribute_text a) (attribute_texts others) rest in
    let spans = placed.0 in (
      part_cut text a.name first.name (attribute_name_text text at a first (attribute_texts others ++ rest) spans here) (omega (arith, spans.name_from, spans.name_to, length-append a.space a.name)) (qname_utf8 a.name are.0.name) (qname_nonempty a.name are.0.name),
      part_cut text a.quoted first.value (attribute_value_text text at a first (attribute_texts others ++ rest) spans here) (omega (arith, spans.value_from, spans.value_to, length-append (a.space ++ a.name ++ a.equals) a.quoted)) (quoted_utf8 a.quoted are.0.quoted) (quoted_some a.quoted are.0.quoted),
      attributes_cut text (at + length (attribute_text a)) others sources rest are.1 placed.1 (behind text (attribute_text a) (attribute_texts others ++ rest) at here),
    )

pub tag_cut : (text : List ℕ) (tag : TagSrc) → ArePlaced text (tag_mark tag ∷ []) → IsCut text tag.name × AreCut text tag.attrs
tag_cut text tag is =
    let at = is.placed.0 in (
      part_cut text at.tag.name tag.name (name_text text is.from tag at) (at.name.1 ∙ ap (λ (n : ℕ). n + length at.tag.name) (sym at.name.0)) (qname_utf8 at.tag.name at.parts.name) (qname_nonempty at.tag.name at.parts.name),
      attributes_cut text (is.from + 1 + length at.tag.name) at.tag.attributes tag.attrs _ at.parts.attributes at.attributes (attributes_stand text is.from at.tag (ending tag.empty) _ (tag_stands text is.from tag at)),
    )

-- ---- a leaf

leaf_within : (text : List ℕ) (item : Src) (span : Span) → marks_in item ≡ span_mark span ∷ [] → ArePlaced text (marks_in item) → span.to ≤ length text
leaf_within text item span marks placed =
    let here : ArePlaced text (span_mark span ∷ []) = subst (λ (m : List Mark). ArePlaced text m) marks placed in
    omega (arith, here.placed.2, here.within)

pub text_cut : (text : List ℕ) (item : Src) (span : Span) → item ≡ src.Text span → ArePlaced text (marks_in item) → AreSpelled (before (item_of text item) nil) → IsCut text span
text_cut text item span is placed spelled =
    let leaf : IsTextItem (at_span text span) = text_spelled text item span is spelled in
    let marks : marks_in item ≡ span_mark span ∷ [] = ap marks_in (is ∙ sym (src.rolls-Text span)) ∙ fold-roll-Src (List Mark) mark_step (Src-F.Text span) in
    token_cut text span (leaf_within text item span marks placed) (text_item_utf8 (at_span text span) leaf) (text_item_some (at_span text span) leaf)

pub comment_cut : (text : List ℕ) (item : Src) (span : Span) → item ≡ src.Comment span → ArePlaced text (marks_in item) → AreSpelled (before (item_of text item) nil) → IsCut text span
comment_cut text item span is placed spelled =
    let leaf : IsComment (at_span text span) = comment_spelled text item span is spelled in
    let marks : marks_in item ≡ span_mark span ∷ [] = ap marks_in (is ∙ sym (src.rolls-Comment span)) ∙ fold-roll-Src (List Mark) mark_step (Src-F.Comment span) in
    token_cut text span (leaf_within text item span marks placed) (spells_utf8 comment (at_span text span) leaf) (token_some comment (at_span text span) leaf)

pub pi_cut : (text : List ℕ) (item : Src) (span : Span) → item ≡ src.Pi span → ArePlaced text (marks_in item) → AreSpelled (before (item_of text item) nil) → IsCut text span
pi_cut text item span is placed spelled =
    let leaf : IsPi (at_span text span) = pi_spelled text item span is spelled in
    let marks : marks_in item ≡ span_mark span ∷ [] = ap marks_in (is ∙ sym (src.rolls-Pi span)) ∙ fold-roll-Src (List Mark) mark_step (Src-F.Pi span) in
    token_cut text span (leaf_within text item span marks placed) (spells_utf8 pi (at_span text span) leaf) (token_some pi (at_span text span) leaf)
