-- What stands at the places of a tag's parts.
use Rattle.std.proofs.Common.{◌≡◌, ◌∙◌, ℕ, ◌+◌, ◌-◌, List, [], ◌∷◌, ◌++◌, length, take, drop, refl, sym, ap, subst, arith, append_assoc, codes, map}
use Rattle.std.proofs.lemmas.List.{length-append, drop-drop, drop_at, take_at, take-append-drop}
use Rattle.std.specs.List.{concat}
use Rattle.xt_spec.specs.Tag.{Attribute, attribute_text, Tag, tag_text}
use Rattle.xt_lex.specs.declared.attribute.AttrSrc.{AttrSrc}
use Rattle.xt_lex.specs.declared.token.Span.{Span}
use Rattle.xt_lex.specs.Place.{AreSpansOf}
use Rattle.xt_tree.specs.declared.source.Tag.{Tag as TagSrc}
use Rattle.xt_tree.specs.Meaning.{at_span}
use Rattle.xt_tree.specs.Places.{Mark, AreInPlace, tag_mark, span_mark, AreAttributesAt, IsTagAt, ending}

-- what stands behind something that stands at a place
pub behind : (text front rest : List ℕ) (at : ℕ) → drop at text ≡ front ++ rest → drop (at + length front) text ≡ rest
behind text front rest at stands = sym (drop-drop (length front) at text) ∙ ap (drop (length front)) stands ∙ drop_at front rest (length front) refl

-- the text at the span of what stands there
pub at_span_of : (text front rest : List ℕ) (span : Span) → drop span.from text ≡ front ++ rest → span.to ≡ span.from + length front → at_span text span ≡ front
at_span_of text front rest span stands size =
    let n : span.to - span.from ≡ length front = omega (arith, size) in
    ap (λ n. take n (drop span.from text)) n ∙ ap (take (length front)) stands ∙ take_at front rest (length front) refl

-- the texts of the attributes, joined
abbrev pub attribute_texts : List Attribute → List ℕ
attribute_texts attributes = concat (map attribute_text attributes)

tag_pieces : (name attributes blank close rest : List ℕ) → (((codes "<" ++ name) ++ attributes) ++ blank ++ close) ++ rest ≡ codes "<" ++ (name ++ (attributes ++ (blank ++ (close ++ rest))))
tag_pieces name attributes blank close rest = simp append_assoc

-- where a tag stands, with something behind it, its name and its attributes stand
pub name_stands : (text : List ℕ) (from : ℕ) (tag : Tag) (close rest : List ℕ) → drop from text ≡ tag_text tag close ++ rest
    → drop (from + 1) text ≡ tag.name ++ (attribute_texts tag.attributes ++ (tag.blank ++ (close ++ rest)))
name_stands text from tag close rest stands = behind text (codes "<") _ from (stands ∙ tag_pieces tag.name (attribute_texts tag.attributes) tag.blank close rest)

pub attributes_stand : (text : List ℕ) (from : ℕ) (tag : Tag) (close rest : List ℕ) → drop from text ≡ tag_text tag close ++ rest
    → drop (from + 1 + length tag.name) text ≡ attribute_texts tag.attributes ++ (tag.blank ++ (close ++ rest))
attributes_stand text from tag close rest stands = behind text tag.name _ (from + 1) (name_stands text from tag close rest stands)

-- a tag in its place stands there, with something behind it
pub tag_stands : (text : List ℕ) (at : ℕ) (source : TagSrc) → (is : IsTagAt text at source) → drop at text ≡ tag_text is.tag (ending source.empty) ++ drop (length (tag_text is.tag (ending source.empty))) (drop at text)
tag_stands text at source is =
    let n = length (tag_text is.tag (ending source.empty)) in
    let size : source.span.to - source.span.from ≡ n = omega (arith, is.whole.0, is.whole.1) in
    let front : take n (drop at text) ≡ tag_text is.tag (ending source.empty) = ap (λ n. take n (drop at text)) (sym size) ∙ ap (λ at. take (source.span.to - source.span.from) (drop at text)) (sym is.whole.0) ∙ is.spelled in
    sym (take-append-drop n (drop at text)) ∙ ap (λ t. t ++ drop n (drop at text)) front

-- .. and its name is the text at its span
pub name_text : (text : List ℕ) (at : ℕ) (source : TagSrc) → (is : IsTagAt text at source) → at_span text source.name ≡ is.tag.name
name_text text at source is =
    at_span_of text is.tag.name _ source.name (ap (λ n. drop n text) is.name.0 ∙ name_stands text at is.tag (ending source.empty) _ (tag_stands text at source is)) (is.name.1 ∙ ap (λ n. n + length is.tag.name) (sym is.name.0))

four : (a b c d rest : List ℕ) → (a ++ b ++ c ++ d) ++ rest ≡ a ++ (b ++ (c ++ (d ++ rest)))
four a b c d rest = simp append_assoc

three : (a b c : List ℕ) → a ++ b ++ c ≡ a ++ (b ++ c)
three a b c = append_assoc a b c

-- the parts of an attribute that stands at a place are the texts at its spans
pub attribute_name_text : (text : List ℕ) (at : ℕ) (a : Attribute) (spans : AttrSrc) (rest : List ℕ) → AreSpansOf a at spans → drop at text ≡ attribute_text a ++ rest → at_span text spans.name ≡ a.name
attribute_name_text text at a spans rest is stands =
    let here = behind text a.space _ at (stands ∙ four a.space a.name a.equals a.quoted rest) in
    at_span_of text a.name _ spans.name (ap (λ n. drop n text) is.name_from ∙ here) (omega (arith, is.name_from, is.name_to, length-append a.space a.name))

pub attribute_value_text : (text : List ℕ) (at : ℕ) (a : Attribute) (spans : AttrSrc) (rest : List ℕ) → AreSpansOf a at spans → drop at text ≡ attribute_text a ++ rest → at_span text spans.value ≡ a.quoted
attribute_value_text text at a spans rest is stands =
    let here = behind text (a.space ++ a.name ++ a.equals) (a.quoted ++ rest) at (stands ∙ append_assoc (a.space ++ a.name ++ a.equals) a.quoted rest) in
    at_span_of text a.quoted rest spans.value (ap (λ n. drop n text) is.value_from ∙ here) (omega (arith, is.value_from, is.value_to, length-append (a.space ++ a.name ++ a.equals) a.quoted))

-- the names of attributes that stand one behind the other are the texts at their spans
pub attribute_names_text : (text : List ℕ) (at : ℕ) (attributes : List Attribute) (spans : List AttrSrc) (rest : List ℕ) → AreAttributesAt at attributes spans → drop at text ≡ attribute_texts attributes ++ rest
    → map (λ a. at_span text a.name) spans ≡ map (λ a. a.name) attributes
attribute_names_text text at [] spans rest placed stands = ap (map (λ a. at_span text a.name)) placed
attribute_names_text text at (a ∷ others) [] rest placed stands = absurd placed
attribute_names_text text at (a ∷ others) (first ∷ spans) rest placed stands =
    let here = stands ∙ append_assoc (attribute_text a) (attribute_texts others) rest in
    let name = attribute_name_text text at a first (attribute_texts others ++ rest) placed.0 here in
    let more = attribute_names_text text (at + length (attribute_text a)) others spans rest placed.1 (behind text (attribute_text a) (attribute_texts others ++ rest) at here) in
    ap (λ n. n ∷ map (λ a. at_span text a.name) spans) name ∙ ap (λ ns. a.name ∷ ns) more

-- ---- marks

pub in_place-append : (bytes : List ℕ) (from mid to : ℕ) (xs ys : List Mark) → AreInPlace bytes from xs mid → AreInPlace bytes mid ys to → AreInPlace bytes from (xs ++ ys) to
in_place-append bytes from mid to [] ys first second = subst (λ n. AreInPlace bytes n ys to) (sym first) second
in_place-append bytes from mid to (tag_mark t ∷ xs) ys first second = (first.0, in_place-append bytes t.span.to mid to xs ys first.1 second)
in_place-append bytes from mid to (span_mark s ∷ xs) ys first second = (first.0, first.1, in_place-append bytes s.to mid to xs ys first.2 second)

pub in_place-split : (bytes : List ℕ) (from to : ℕ) (xs ys : List Mark) → AreInPlace bytes from (xs ++ ys) to → (mid : ℕ) × AreInPlace bytes from xs mid × AreInPlace bytes mid ys to
in_place-split bytes from to [] ys both = (from, refl, both)
in_place-split bytes from to (tag_mark t ∷ xs) ys both = let (mid, first, second) = in_place-split bytes t.span.to to xs ys both.1 in (mid, (both.0, first), second)
in_place-split bytes from to (span_mark s ∷ xs) ys both = let (mid, first, second) = in_place-split bytes s.to to xs ys both.2 in (mid, (both.0, both.1, first), second)
