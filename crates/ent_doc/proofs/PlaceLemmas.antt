-- What stands at the spans of a tag's parts.
use Rattle.std.proofs.Common.{inl, inr, ◌≡◌, ◌∙◌, ℕ, ◌+◌, ◌-◌, List, [], ◌∷◌, ◌++◌, map, take, drop, length, refl, sym, ap, subst, arith, append_assoc, length-append, Option, Some, None, codes, Bool, true, false}
use Rattle.std.proofs.lemmas.List.{take-append-drop}
use Rattle.std.proofs.Math.Seq.{drop-drop}
use Rattle.std.specs.List.{slice_range, concat}
use Rattle.xt_spec.specs.Content.{HaveValues}
use Rattle.xt_spec.specs.Namespace.{NamedValue}
use Rattle.xt_spec.specs.Reading.{tag_ending}
use Rattle.xt_spec.specs.Tag.{Attribute, attribute_text, Tag, IsTag, tag_text}
use Rattle.xt_lex.specs.declared.attribute.AttrSrc.{AttrSrc}
use Rattle.xt_lex.specs.Place.{EndsTag}
use Rattle.xt_lex.proofs.Theorems.{tag_unique}
use Rattle.xt_tree.specs.declared.source.Tag.{Tag as TagSrc}
use Rattle.xt_tree.specs.Meaning.{at_span}
use Rattle.xt_tree.specs.Places.{ending, IsTagAt, AreAttributesAt}
use Rattle.ent_doc.specs.Steps.{attribute_at}

take_front : (xs ys : List ℕ) → take (length xs) (xs ++ ys) ≡ xs
take_front [] ys = refl
take_front (x ∷ xs) ys = ap (λ (l : List ℕ). x ∷ l) (take_front xs ys)

drop_front : (xs ys : List ℕ) → drop (length xs) (xs ++ ys) ≡ ys
drop_front [] ys = refl
drop_front (x ∷ xs) ys = drop_front xs ys

drop_twice : (m n : ℕ) (xs : List ℕ) → drop (m + n) xs ≡ drop n (drop m xs)
drop_twice m n xs = sym (drop-drop n m xs)

-- what stands behind a front at a place
behind_front : (bytes front rest : List ℕ) (at : ℕ) → drop at bytes ≡ front ++ rest → drop (at + length front) bytes ≡ rest
behind_front bytes front rest at e = drop_twice at (length front) bytes ∙ ap (λ (l : List ℕ). drop (length front) l) e ∙ drop_front front rest

-- a part behind a front
part_at : (bytes front part rest : List ℕ) (at from to : ℕ) → from ≡ at + length front → to ≡ at + length (front ++ part) → drop at bytes ≡ front ++ (part ++ rest) → slice_range bytes from to ≡ part
part_at bytes front part rest at from to starts ends e =
    let here : drop from bytes ≡ part ++ rest = ap (λ (n : ℕ). drop n bytes) starts ∙ behind_front bytes front (part ++ rest) at e in
    let size : to - from ≡ length part = omega (arith, length-append front part) in
    rw here (rw size (take_front part rest))

whole_at : (bytes text : List ℕ) (from to : ℕ) → to ≡ from + length text → slice_range bytes from to ≡ text → drop from bytes ≡ text ++ drop (length text) (drop from bytes)
whole_at bytes text from to ends is =
    let size : to - from ≡ length text = omega arith in
    let front : take (length text) (drop from bytes) ≡ text = rw (← size) is in
    sym (take-append-drop (length text) (drop from bytes)) ∙ ap (λ (l : List ℕ). l ++ drop (length text) (drop from bytes)) front

four_parts : (space name equals quoted rest : List ℕ) → (space ++ name ++ equals ++ quoted) ++ rest ≡ space ++ (name ++ (equals ++ (quoted ++ rest)))
four_parts space name equals quoted rest = simp append_assoc

-- the values of attributes that stand from a place on are those of the names and values at their spans
attributes_at : (bytes : List ℕ) (attributes : List Attribute) (sources : List AttrSrc) (rest : List ℕ) (at : ℕ) (values : List NamedValue)
    → AreAttributesAt at attributes sources → drop at bytes ≡ concat (map attribute_text attributes) ++ rest → HaveValues attributes values → HaveValues (map (attribute_at bytes) sources) values
attributes_at bytes [] sources rest at values are e have = rw are have
attributes_at bytes (a ∷ attributes) [] rest at values are e have = absurd are
attributes_at bytes (a ∷ attributes) (s ∷ sources) rest at values are e (value, more, has, others, is) =
    let spans = are.0 in
    let tail = concat (map attribute_text attributes) ++ rest in
    let front : drop at bytes ≡ attribute_text a ++ tail = e ∙ append_assoc (attribute_text a) (concat (map attribute_text attributes)) rest in
    let in_parts : drop at bytes ≡ a.space ++ (a.name ++ (a.equals ++ (a.quoted ++ tail))) = front ∙ four_parts a.space a.name a.equals a.quoted tail in
    let name : at_span bytes s.name ≡ a.name = part_at bytes a.space a.name (a.equals ++ (a.quoted ++ tail)) at s.name.from s.name.to spans.name_from spans.name_to in_parts in
    let quoted : at_span bytes s.value ≡ a.quoted = part_at bytes (a.space ++ a.name ++ a.equals) a.quoted tail at s.value.from s.value.to spans.value_from spans.value_to (front ∙ append_assoc (a.space ++ a.name ++ a.equals) a.quoted tail) in
    let inner = attributes_at bytes attributes sources rest (at + length (attribute_text a)) more are.1 (behind_front bytes (attribute_text a) tail at front) others in
    (value, more, rw quoted has, inner, rw name is)

ending_ends : (empty : Bool) → EndsTag (ending empty)
ending_ends true = inr refl
ending_ends false = inl refl

close_ends : (close : Option (List ℕ)) → EndsTag (tag_ending close)
close_ends None = inr refl
close_ends (Some text) = inl refl

tag_parts : (front name attributes blank end rest : List ℕ) → (front ++ name ++ attributes ++ blank ++ end) ++ rest ≡ front ++ (name ++ (attributes ++ (blank ++ (end ++ rest))))
tag_parts front name attributes blank end rest = simp append_assoc

-- a tag in its place has the name at its span, and attributes of the values at theirs
pub tag_at : (bytes : List ℕ) (at : ℕ) (source : TagSrc) (close : Option (List ℕ)) (tag : Tag) (values : List NamedValue) → IsTagAt bytes at source → IsTag tag → at_span bytes source.span ≡ tag_text tag (tag_ending close) → HaveValues tag.attributes values
    → (tag.name ≡ at_span bytes source.name) × HaveValues (map (attribute_at bytes) source.attrs) values
tag_at bytes at source close tag values stands is_tag spelled have =
    let texts = sym spelled ∙ stands.spelled in
    let same = (tag_unique tag stands.tag (tag_ending close) (ending source.empty) (close_ends close) (ending_ends source.empty) is_tag stands.parts texts).0 in
    let text = tag_text stands.tag (ending source.empty) in
    let whole : drop at bytes ≡ text ++ drop (length text) (drop at bytes) =
    whole_at bytes text at source.span.to stands.whole.1 (rw (← stands.whole.0) stands.spelled) in
    let rest = drop (length text) (drop at bytes) in
    let attributes = concat (map attribute_text stands.tag.attributes) in
    let in_parts = whole ∙ tag_parts (codes "<") stands.tag.name attributes stands.tag.blank (ending source.empty) rest in
    let name : at_span bytes source.name ≡ stands.tag.name =
    part_at bytes (codes "<") stands.tag.name _ at source.name.from source.name.to stands.name.0 (stands.name.1 ∙ omega arith) in_parts in
    let behind_name : drop (at + 1 + length stands.tag.name) bytes ≡ attributes ++ (stands.tag.blank ++ (ending source.empty ++ rest)) =
    behind_front bytes stands.tag.name _ (at + 1) (behind_front bytes (codes "<") _ at in_parts) in (
      ap (λ (t : Tag). t.name) same ∙ sym name,
      attributes_at bytes stands.tag.attributes source.attrs _ (at + 1 + length stands.tag.name) values stands.attributes behind_name (subst (λ (t : Tag). HaveValues t.attributes values) same have),
    )
