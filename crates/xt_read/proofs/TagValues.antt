-- Whether the attributes of a tag have values, one by one.
use Rattle.std.proofs.Common.{◌⊎◌, ◌≡◌, ◌≢◌, ◌∙◌, ℕ, ◌+◌, ◌-◌, ◌<◌, ◌≤◌, List, [], ◌∷◌, ◌++◌, length, take, drop, get_or, refl, sym, ap, subst, Bool, true, false, arith, append_assoc, IsTrue, ◌↔◌, IsUtf8, inl, inr}
use Rattle.std.proofs.lemmas.List.{length-append, length-take, length-drop, drop-drop, take-append-drop, take_at}
use Rattle.std.proofs.lemmas.Str.{IsCharBoundary-before_ascii}
use Rattle.xt_read.proofs.TokenSteps.{cut_behind, first_of}
use Rattle.std.specs.List.{AllByRecursion, concat, slice_range}
use Rattle.std.specs.Str.{IsCharBoundary}
use Rattle.xt_spec.specs.Tag.{Attribute, attribute_text, IsAttribute, IsAttValue, IsQuote}
use Rattle.xt_spec.specs.Value.{value_parts_text, AreValueParts, value_of_parts, HasAttributeValue}
use Rattle.xt_lex.specs.declared.attribute.AttrSrc.{AttrSrc}
use Rattle.xt_lex.specs.declared.token.Span.{Span}
use Rattle.xt_tree.specs.declared.source.Tag.{Tag as TagSrc}
use Rattle.xt_tree.specs.Meaning.{at_span}
use Rattle.xt_tree.specs.Places.{AreAttributesAt, IsTagAt, ending}
use Rattle.xt_tree.proofs.Theorems.{behind, attribute_texts, attribute_value_text, attributes_stand, tag_stands}
use Rattle.xt_read.proofs.ValueParts.{parts_or_none}
use Rattle.xt_read.specs.References.{AreSingles, HasParts, IsUnquoted}
use Rattle.xt_read.specs.ContentTest.{HasValue, StandsIn, StandAll}

last_same : (xs ys : List ℕ) (a b : ℕ) → xs ++ a ∷ [] ≡ ys ++ b ∷ [] → xs ≡ ys
last_same [] [] a b e = refl
last_same [] (y ∷ []) a b e = absurd (cc)
last_same [] (y ∷ z ∷ ys) a b e = absurd (cc)
last_same (x ∷ []) [] a b e = absurd (cc)
last_same (x ∷ z ∷ xs) [] a b e = absurd (cc)
last_same (x ∷ xs) (y ∷ ys) a b e =
    let first : x ≡ y = cc in
    let tails : xs ++ a ∷ [] ≡ ys ++ b ∷ [] = cc in
    ap (λ x. x ∷ xs) first ∙ ap (λ xs. y ∷ xs) (last_same xs ys a b tails)

-- the value between the quotes is made of its parts
singles_of : (quoted value : List ℕ) → IsUnquoted quoted value → IsAttValue quoted → (q : ℕ) × (singles : List (List ℕ)) × IsQuote q × AreSingles q singles value × (quoted ≡ (q ∷ value) ++ q ∷ [])
singles_of quoted value (p, is_quote, e) (q, singles, quote, are, f) =
    let both : (p ∷ value) ++ p ∷ [] ≡ (q ∷ concat singles) ++ q ∷ [] = sym e ∙ f in
    let first : p ≡ q = cc in
    let inner : value ++ p ∷ [] ≡ concat singles ++ q ∷ [] = cc in
    let same = last_same value (concat singles) p q inner in
    (q, singles, quote, (are, sym same), f ∙ ap (λ v. (q ∷ v) ++ q ∷ []) (sym same))

value_from : (quoted value : List ℕ) (q : ℕ) → IsQuote q → quoted ≡ (q ∷ value) ++ q ∷ [] → HasParts q value → (v : List ℕ) × HasAttributeValue quoted v
value_from quoted value q quote e (parts, are, joined) = (value_of_parts parts, (q, parts, quote, are, e ∙ ap (λ v. (q ∷ v) ++ q ∷ []) (sym joined), refl))

value_to : (quoted value : List ℕ) (q : ℕ) → quoted ≡ (q ∷ value) ++ q ∷ [] → (v : List ℕ) × HasAttributeValue quoted v → HasParts q value
value_to quoted value q e (v, (p, parts, quote, are, f, g)) =
    let both : (p ∷ value_parts_text parts) ++ p ∷ [] ≡ (q ∷ value) ++ q ∷ [] = sym f ∙ e in
    let first : p ≡ q = cc in
    let inner : value_parts_text parts ++ p ∷ [] ≡ value ++ q ∷ [] = cc in
    (parts, subst (λ q. AreValueParts q parts) first are, last_same (value_parts_text parts) value p q inner)

-- the attribute has a value exactly where what stands between its quotes has parts
pub attribute_value : (text : List ℕ) (spans : AttrSrc) (a : Attribute) (value : List ℕ) (stands : Bool) → StandsIn text spans a → IsUnquoted (at_span text spans.value) value
    → ((q : ℕ) (singles : List (List ℕ)) → AreSingles q singles value → (IsTrue stands ↔ HasParts q value)) → (IsTrue stands ↔ HasValue a)
attribute_value text spans a value stands is unquoted parts =
    let (q, singles, quote, are, e) = singles_of a.quoted value (subst (λ t. IsUnquoted t value) is.value unquoted) is.is.quoted in
    let test = parts q singles are in
    ((λ holds. value_from a.quoted value q quote e (test.0 holds)), (λ p. test.1 (value_to a.quoted value q e p)))

-- ---- the attributes of a tag

attribute_some : (a : Attribute) → IsAttribute a → 0 < length (attribute_text a)
attribute_some a is = some a.space is.space.1
  where
    some : (space : List ℕ) → space ≢ [] → 0 < length (space ++ a.name ++ a.equals ++ a.quoted)
    some [] nonempty = absurd (nonempty refl)
    some (b ∷ space) nonempty = omega (arith, length-append (b ∷ space) a.name, length-append ((b ∷ space) ++ a.name) a.equals, length-append ((b ∷ space) ++ a.name ++ a.equals) a.quoted)

pub stand_all : (text : List ℕ) (at : ℕ) (attributes : List Attribute) (spans : List AttrSrc) (rest : List ℕ) → AllByRecursion IsAttribute attributes → AreAttributesAt at attributes spans → drop at text ≡ attribute_texts attributes ++ rest → StandAll text spans attributes
stand_all text at [] spans rest are placed stands = subst (λ s. StandAll text s []) (sym placed) tt
stand_all text at (a ∷ others) [] rest are placed stands = absurd placed
stand_all text at (a ∷ others) (first ∷ spans) rest are placed stands =
    let here = stands ∙ append_assoc (attribute_text a) (attribute_texts others) rest in
    let size : length (attribute_text a) ≤ length text - at = omega (arith, ap length here, length-drop at text, length-append (attribute_text a) (attribute_texts others ++ rest)) in
    let some : 0 < length (attribute_text a) = attribute_some a are.0 in (
      record {
        is = are.0;
        value = attribute_value_text text at a first (attribute_texts others ++ rest) placed.0 here;
        within = omega (arith, placed.0.value_to, size, some);
      },
      stand_all text (at + length (attribute_text a)) others spans rest are.1 placed.1 (behind text (attribute_text a) (attribute_texts others ++ rest) at here),
    )

pub tag_stand_all : (text : List ℕ) (source : TagSrc) → (is : IsTagAt text source.span.from source) → StandAll text source.attrs is.tag.attributes
tag_stand_all text source is =
    stand_all text (source.span.from + 1 + length is.tag.name) is.tag.attributes source.attrs _ is.parts.attributes is.attributes (attributes_stand text source.span.from is.tag (ending source.empty) _ (tag_stands text source.span.from source is))

-- what is left of the attributes, and what is known of them
pub record IsLeft (text : List ℕ) (spans : List AttrSrc) (all : List Attribute) : Type 0 where
  pub left : List Attribute
  pub stand : StandAll text spans left
  pub forth : AllByRecursion HasValue all → AllByRecursion HasValue left
  pub back : AllByRecursion HasValue left → AllByRecursion HasValue all

-- the first of what is left, and the others
pub record FirstLeft (text : List ℕ) (spans : List AttrSrc) (s : AttrSrc) (all : List Attribute) : Type 0 where
  pub first : Attribute
  pub others : List Attribute
  pub stands : StandsIn text s first
  pub stand : StandAll text spans others
  pub forth : AllByRecursion HasValue all → HasValue first × AllByRecursion HasValue others
  pub back : HasValue first → AllByRecursion HasValue others → AllByRecursion HasValue all

pub left_step : (text : List ℕ) (spans rest : List AttrSrc) (d : AttrSrc) (all : List Attribute) → spans ≡ d ∷ rest → IsLeft text spans all → FirstLeft text rest d all
left_step text spans rest d all is l = cases l.left (subst (λ (l' : List AttrSrc). StandAll text l' l.left) is l.stand) l.forth l.back
  where
    cases : (left : List Attribute) → StandAll text (d ∷ rest) left → (AllByRecursion HasValue all → AllByRecursion HasValue left) → (AllByRecursion HasValue left → AllByRecursion HasValue all) → FirstLeft text rest d all
    cases [] stand forth back = absurd stand
    cases (a ∷ others) stand forth back = record { first = a; others = others; stands = stand.0; stand = stand.1; forth = forth; back = λ x y. back (x, y) }

pub left_more : (text : List ℕ) (spans : List AttrSrc) (s : AttrSrc) (all : List Attribute) (has : Bool) → (f : FirstLeft text spans s all) → (IsTrue has ↔ HasValue f.first) → has ≡ true → IsLeft text spans all
left_more text spans s all has f test is = record { left = f.others; stand = f.stand; forth = λ p. (f.forth p).1; back = λ p. f.back (test.0 is) p }

pub left_fails : (text : List ℕ) (spans : List AttrSrc) (s : AttrSrc) (all : List Attribute) (has : Bool) → (f : FirstLeft text spans s all) → (IsTrue has ↔ HasValue f.first) → has ≡ false → AllByRecursion HasValue all → ⊥
left_fails text spans s all has f test is p = let h : has ≡ true = test.1 (f.forth p).0 in absurd (cc)

pub left_none : (text : List ℕ) (all : List Attribute) → IsLeft text [] all → AllByRecursion HasValue all
left_none text all l = l.back (cases l.left l.stand)
  where
    cases : (left : List Attribute) → StandAll text [] left → AllByRecursion HasValue left
    cases [] stand = tt
    cases (a ∷ more) stand = absurd stand

pub all_left : (text : List ℕ) (spans : List AttrSrc) (all : List Attribute) → spans ≡ [] → IsLeft text spans all → AllByRecursion HasValue all
all_left text spans all none l = left_none text all (subst (λ (s : List AttrSrc). IsLeft text s all) none l)

-- ---- the value between its quotes

-- where a quoted value stands, its quotes stand at its ends
pub quotes_at : (text : List ℕ) (span : Span) → IsAttValue (at_span text span) → span.to ≤ length text → (q : ℕ) × (value : List ℕ) × IsQuote q × (span.from + 2 ≤ span.to) × (at_span text span ≡ (q ∷ value) ++ q ∷ []) × (drop span.from text ≡ q ∷ (value ++ q ∷ drop span.to text)) × (length value ≡ span.to - span.from - 2)
quotes_at text span (q, singles, quote, are, e) within =
    let value = concat singles in
    let size : length (at_span text span) ≡ length value + 2 = omega (arith, ap length e, length-append (q ∷ value) (q ∷ [])) in
    let long : span.from + 2 ≤ span.to = omega (arith, size, length-take (span.to - span.from) (drop span.from text), length-drop span.from text) in
    let whole : drop span.from text ≡ at_span text span ++ drop (span.to - span.from) (drop span.from text) = sym (take-append-drop (span.to - span.from) (drop span.from text)) in
    let place : span.from + (span.to - span.from) ≡ span.to = omega (arith, long) in
    let rest : drop (span.to - span.from) (drop span.from text) ≡ drop span.to text = drop-drop (span.to - span.from) span.from text ∙ ap (λ n. drop n text) place in (
      q,
      value,
      quote,
      long,
      e,
      whole ∙ ap (λ t. t ++ drop (span.to - span.from) (drop span.from text)) e ∙ ap (λ r. ((q ∷ value) ++ q ∷ []) ++ r) rest ∙ append_assoc (q ∷ value) (q ∷ []) (drop span.to text),
      omega (arith, size, length-take (span.to - span.from) (drop span.from text), length-drop span.from text, within),
    )

quote_small : (q : ℕ) → IsQuote q → q < 128
quote_small q (inl e) = omega (arith, e)
quote_small q (inr e) = omega (arith, e)

pub start_cut : (text : List ℕ) (span : Span) → IsUtf8 text → IsAttValue (at_span text span) → span.to ≤ length text → IsCharBoundary text (span.from + 1)
start_cut text span utf8 is within =
    let (q, value, quote, long, e, stands, size) = quotes_at text span is within in
    cut_behind text span.from q (value ++ q ∷ drop span.to text) utf8 (quote_small q quote) stands

pub end_cut : (text : List ℕ) (span : Span) → IsAttValue (at_span text span) → span.to ≤ length text → IsCharBoundary text (span.to - 1)
end_cut text span is within =
    let (q, value, quote, long, e, stands, size) = quotes_at text span is within in
    let there : drop (span.from + length (q ∷ value)) text ≡ q ∷ drop span.to text = behind text (q ∷ value) (q ∷ drop span.to text) span.from stands in
    let place : span.from + length (q ∷ value) ≡ span.to - 1 = omega (arith, size, long) in
    let here : drop (span.to - 1) text ≡ q ∷ drop span.to text = ap (λ n. drop n text) (sym place) ∙ there in
    let byte : get_or text (span.to - 1) 0 ≡ q = first_of text (span.to - 1) q (drop span.to text) here in
    IsCharBoundary-before_ascii text (span.to - 1) (omega (arith, long, within)) (subst (λ b. b < 128) (sym byte) (quote_small q quote))

pub unquoted_is : (text : List ℕ) (span : Span) (value : List ℕ) → IsAttValue (at_span text span) → span.to ≤ length text → value ≡ slice_range text (span.from + 1) (span.to - 1) → IsUnquoted (at_span text span) value
unquoted_is text span value is within sliced =
    let (q, inner, quote, long, e, stands, size) = quotes_at text span is within in
    let there : drop (span.from + 1) text ≡ inner ++ q ∷ drop span.to text = behind text (q ∷ []) (inner ++ q ∷ drop span.to text) span.from stands in
    let n : span.to - 1 - (span.from + 1) ≡ length inner = omega (arith, size, long) in
    let same : value ≡ inner = sliced ∙ ap (λ n. take n (drop (span.from + 1) text)) n ∙ ap (take (length inner)) there ∙ take_at inner (q ∷ drop span.to text) (length inner) refl in
    (q, quote, e ∙ ap (λ v. (q ∷ v) ++ q ∷ []) (sym same))

pub value_or_none : (quoted : List ℕ) → IsAttValue quoted → ((v : List ℕ) × HasAttributeValue quoted v) ⊎ ¬ ((v : List ℕ) × HasAttributeValue quoted v)
value_or_none quoted (q, singles, quote, are, spelled) = elim (parts_or_none q singles are) [
  | inl has ↦ inl (value_from quoted (concat singles) q quote spelled has)
  | inr never ↦ inr (λ some. never (value_to quoted (concat singles) q spelled some))
]
