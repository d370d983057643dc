-- The parts of a tag, found one behind the other.
use Rattle.std.proofs.Common.{◌≡◌, ◌∙◌, ℕ, ◌+◌, ◌-◌, List, [], ◌∷◌, ◌++◌, length, take, drop, refl, sym, ap, subst, arith, Bool, true, false, inl, inr, append_assoc, append-nil, codes}
use Rattle.std.proofs.lemmas.List.{length-append, take_at}
use Rattle.std.specs.List.{AllByRecursion}
use Rattle.xt_spec.specs.Name.{IsQName}
use Rattle.xt_spec.specs.Tag.{Attribute, attribute_text, IsAttribute, tag_text, IsEndTag}
use Rattle.xt_lex.specs.declared.attribute.AttrSrc.{AttrSrc}
use Rattle.xt_lex.specs.declared.token.Span.{Span}
use Rattle.xt_lex.specs.Place.{EndsName, IsNameAt, NoNameAt, IsAttributeAt, NoAttributeAt, AreSpansOf}
use Rattle.xt_tree.specs.declared.source.Tag.{Tag as TagSrc}
use Rattle.xt_tree.specs.Meaning.{at_span}
use Rattle.xt_tree.specs.Places.{AreAttributesAt, ending, IsTagAt}
use Rattle.xt_tree.proofs.Theorems.{behind, at_span_of, attribute_texts, name_stands}
use Rattle.xt_read.specs.Steps.{IsTagAhead, IsTagSoFar, IsEndTagAhead, IsEndTagNamed}
use Rattle.xt_lex.proofs.Theorems.{attribute_unique, no_attribute_at_end, name_unique, tag_name_ends, end_tag_name_ends}
use Rattle.xt_lex.specs.Place.{EndsTag}

ends_tag : (empty : Bool) (rest : List ℕ) → EndsTag (ending empty ++ rest)
ends_tag true rest = inr refl
ends_tag false rest = inl refl

ending_ends : (empty : Bool) → EndsTag (ending empty)
ending_ends true = inr refl
ending_ends false = inl refl

-- behind the `<` stands the name, and behind that no byte of a name
name_ends : (text : List ℕ) (from to : ℕ) (empty : Bool) → (a : IsTagAhead text from to empty) → EndsName (attribute_texts a.tag.attributes ++ (a.tag.blank ++ (ending empty ++ a.rest)))
name_ends text from to empty a = tag_name_ends a.tag (ending empty) a.rest a.parts (ending_ends empty)

-- A tag has a name.
pub tag_has_name : (text : List ℕ) (from to : ℕ) (empty : Bool) → IsTagAhead text from to empty → NoNameAt text (from + 1) → ⊥
tag_has_name text from to empty a none = none a.tag.name _ a.parts.name (name_ends text from to empty a) (name_stands text from a.tag (ending empty) a.rest a.stands)

-- The name that is found is the tag's, and behind it no attribute is read yet.
pub tag_start : (text : List ℕ) (from to name_to : ℕ) (empty : Bool) → (a : IsTagAhead text from to empty) → IsNameAt text (from + 1) name_to → (name_to ≡ from + 1 + length a.tag.name) × IsTagSoFar text from to empty name_to []
tag_start text from to name_to empty a named =
    let same = name_unique named.name a.tag.name named.rest _ named.is_name a.parts.name named.ends (name_ends text from to empty a) (sym named.stands ∙ name_stands text from a.tag (ending empty) a.rest a.stands) in
    let to_is : name_to ≡ from + 1 + length a.tag.name = named.ends_at ∙ ap (λ n. from + 1 + length n) same.0 in (
      to_is,
      record {
        ahead = a;
        done = [];
        left = a.tag.attributes;
        split = refl;
        placed = refl;
        at_is = to_is ∙ omega arith;
        stands = ap (λ n. drop n text) to_is ∙ behind text a.tag.name _ (from + 1) (name_stands text from a.tag (ending empty) a.rest a.stands);
      },
    )

placed_push : (at : ℕ) (done : List Attribute) (spans : List AttrSrc) (a : Attribute) (s : AttrSrc) → AreAttributesAt at done spans → AreSpansOf a (at + length (attribute_texts done)) s → AreAttributesAt at (done ++ a ∷ []) (spans ++ s ∷ [])
placed_push at [] spans a s placed is =
    let e : at + 0 ≡ at = omega arith in
    subst (λ (l : List AttrSrc). AreAttributesAt at (a ∷ []) (l ++ s ∷ [])) (sym placed) (subst (λ n. AreSpansOf a n s) e is, refl)
placed_push at (b ∷ done) [] a s placed is = absurd placed
placed_push at (b ∷ done) (t ∷ spans) a s placed is =
    let e : at + length (attribute_text b ++ attribute_texts done) ≡ at + length (attribute_text b) + length (attribute_texts done) = omega (arith, length-append (attribute_text b) (attribute_texts done)) in
    (placed.0, placed_push (at + length (attribute_text b)) done spans a s placed.1 (subst (λ n. AreSpansOf a n s) e is))

texts_push : (done : List Attribute) (a : Attribute) → length (attribute_texts (done ++ a ∷ [])) ≡ length (attribute_texts done) + length (attribute_text a)
texts_push [] a = omega (arith, length-append (attribute_text a) [])
texts_push (b ∷ done) a = omega (arith, length-append (attribute_text b) (attribute_texts (done ++ a ∷ [])), length-append (attribute_text b) (attribute_texts done), texts_push done a)

all_behind : (done : List Attribute) (a : Attribute) (left : List Attribute) → AllByRecursion IsAttribute (done ++ a ∷ left) → IsAttribute a
all_behind [] a left are = are.0
all_behind (b ∷ done) a left are = all_behind done a left are.1

-- An attribute that is found is the next of the tag.
pub tag_step : (text : List ℕ) (from to at : ℕ) (empty : Bool) (spans : List AttrSrc) (s : AttrSrc) → IsTagSoFar text from to empty at spans → IsAttributeAt text at s → IsTagSoFar text from to empty s.whole.to (spans ++ s ∷ [])
tag_step text from to at empty spans s so_far found = next so_far.left so_far.split so_far.stands
  where
    next : (left : List Attribute) → so_far.ahead.tag.attributes ≡ so_far.done ++ left → drop at text ≡ attribute_texts left ++ (so_far.ahead.tag.blank ++ (ending empty ++ so_far.ahead.rest)) → IsTagSoFar text from to empty s.whole.to (spans ++ s ∷ [])
    next [] split stands = absurd (no_attribute_at_end so_far.ahead.tag.blank (ending empty ++ so_far.ahead.rest) found.parts found.rest so_far.ahead.parts.blank (ends_tag empty so_far.ahead.rest) found.is_attribute (sym stands ∙ found.stands))
    next (a ∷ left) split stands =
        let is : AllByRecursion IsAttribute (so_far.done ++ a ∷ left) = subst (AllByRecursion IsAttribute) split so_far.ahead.parts.attributes in
        let stands' = stands ∙ append_assoc (attribute_text a) (attribute_texts left) (so_far.ahead.tag.blank ++ (ending empty ++ so_far.ahead.rest)) in
        let same = attribute_unique found.parts a found.rest _ found.is_attribute (all_behind so_far.done a left is) (sym found.stands ∙ stands') in
        let spans_of : AreSpansOf a at s = subst (λ p. AreSpansOf p at s) same.0 found.spans in
        let place : from + 1 + length so_far.ahead.tag.name + length (attribute_texts so_far.done) ≡ at = sym so_far.at_is in
        record {
          ahead = so_far.ahead;
          done = so_far.done ++ a ∷ [];
          left = left;
          split = split ∙ sym (append_assoc so_far.done (a ∷ []) left);
          placed = placed_push (from + 1 + length so_far.ahead.tag.name) so_far.done spans a s so_far.placed (subst (λ n. AreSpansOf a n s) (sym place) spans_of);
          at_is = spans_of.whole_to ∙ omega (arith, so_far.at_is, texts_push so_far.done a);
          stands = ap (λ n. drop n text) spans_of.whole_to ∙ behind text (attribute_text a) _ at stands';
        }

-- Where no attribute is found, all are read.
pub tag_end : (text : List ℕ) (from to at : ℕ) (empty : Bool) (spans : List AttrSrc) → (so_far : IsTagSoFar text from to empty at spans) → NoAttributeAt text at → AreAttributesAt (from + 1 + length so_far.ahead.tag.name) so_far.ahead.tag.attributes spans
tag_end text from to at empty spans so_far none = ends so_far.left so_far.split so_far.stands
  where
    ends : (left : List Attribute) → so_far.ahead.tag.attributes ≡ so_far.done ++ left → drop at text ≡ attribute_texts left ++ (so_far.ahead.tag.blank ++ (ending empty ++ so_far.ahead.rest)) → AreAttributesAt (from + 1 + length so_far.ahead.tag.name) so_far.ahead.tag.attributes spans
    ends [] split stands = subst (λ a. AreAttributesAt (from + 1 + length so_far.ahead.tag.name) a spans) (sym (split ∙ append-nil so_far.done)) so_far.placed
    ends (a ∷ left) split stands =
        let is : AllByRecursion IsAttribute (so_far.done ++ a ∷ left) = subst (AllByRecursion IsAttribute) split so_far.ahead.parts.attributes in
        absurd (none a _ (all_behind so_far.done a left is) (stands ∙ append_assoc (attribute_text a) (attribute_texts left) (so_far.ahead.tag.blank ++ (ending empty ++ so_far.ahead.rest))))

-- The tag with these places of its parts stands at its place.
pub tag_is_at : (text : List ℕ) (source : TagSrc) → (a : IsTagAhead text source.span.from source.span.to source.empty) → source.name.from ≡ source.span.from + 1 → source.name.to ≡ source.span.from + 1 + length a.tag.name
    → AreAttributesAt (source.span.from + 1 + length a.tag.name) a.tag.attributes source.attrs → IsTagAt text source.span.from source
tag_is_at text source a name_from name_to placed =
    let size : source.span.to - source.span.from ≡ length (tag_text a.tag (ending source.empty)) = omega (arith, a.size) in
    record {
      tag = a.tag;
      parts = a.parts;
      spelled = ap (λ n. take n (drop source.span.from text)) size ∙ ap (take (length (tag_text a.tag (ending source.empty)))) a.stands ∙ take_at (tag_text a.tag (ending source.empty)) a.rest (length (tag_text a.tag (ending source.empty))) refl;
      whole = (refl, a.size);
      name = (name_from, name_to);
      attributes = placed;
    }

-- ---- end-tags

end_pieces : (name blank rest : List ℕ) → ((codes "</" ++ name) ++ blank ++ codes ">") ++ rest ≡ codes "</" ++ (name ++ (blank ++ (codes ">" ++ rest)))
end_pieces name blank rest = simp append_assoc

end_name_stands : (text : List ℕ) (from to : ℕ) → (a : IsEndTagAhead text from to) → drop (from + 2) text ≡ a.name ++ (a.spelled.0 ++ (codes ">" ++ a.rest))
end_name_stands text from to a = behind text (codes "</") _ from (a.stands ∙ ap (λ t. t ++ a.rest) a.spelled.2 ∙ end_pieces a.name a.spelled.0 a.rest)

-- An end-tag has a name.
pub end_tag_has_name : (text : List ℕ) (from to : ℕ) → IsEndTagAhead text from to → NoNameAt text (from + 2) → ⊥
end_tag_has_name text from to a none = none a.name _ a.named (end_tag_name_ends a.spelled.0 a.rest a.spelled.1) (end_name_stands text from to a)

-- The name that is found is the end-tag's.
pub end_tag_named : (text : List ℕ) (span name : Span) → IsEndTagAhead text span.from span.to → name.from ≡ span.from + 2 → IsNameAt text (span.from + 2) name.to → IsEndTagNamed text span (at_span text name)
end_tag_named text span name a from found =
    let same = name_unique found.name a.name found.rest _ found.is_name a.named found.ends (end_tag_name_ends a.spelled.0 a.rest a.spelled.1) (sym found.stands ∙ end_name_stands text span.from span.to a) in
    let whole : at_span text span ≡ a.tag = at_span_of text a.tag a.rest span a.stands a.size in
    let text_is : at_span text name ≡ found.name = at_span_of text found.name found.rest name (ap (λ n. drop n text) from ∙ found.stands) (found.ends_at ∙ ap (λ n. n + length found.name) (sym from)) in
    (subst IsQName (sym text_is) found.is_name, subst (λ n. IsEndTag n (at_span text span)) (sym (text_is ∙ same.0)) (subst (λ t. IsEndTag a.name t) (sym whole) a.spelled))
