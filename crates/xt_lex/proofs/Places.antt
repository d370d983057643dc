-- Names and attributes at a place of a text.
use Rattle.std.proofs.Common.{◌≡◌, ℕ, ◌+◌, ◌-◌, ◌<◌, ◌≤◌, List, [], ◌∷◌, ◌++◌, length, drop, false, refl, ap, sym, subst, ◌∙◌, arith, inl, inr, None, append_assoc, append-nil}
use Rattle.std.proofs.lemmas.Bool.{cases_Bool}
use Rattle.std.proofs.lemmas.List.{length-append, length-drop}
use Rattle.std.proofs.lemmas.Str.{IsCharBoundary-at_seam, IsCharBoundary-from_rest}
use Rattle.std.specs.Str.{IsUtf8, IsCharBoundary}
use Rattle.xt_spec.specs.Name.{IsQName}
use Rattle.xt_spec.specs.Tag.{Attribute, attribute_text, IsSpace}
use Rattle.xt_lex.specs.NameTest.{is_name_byte}
use Rattle.xt_lex.specs.Place.{EndsName, IsNameAt, NoNameAt, IsAttributeAt, NoAttributeAt}
use Rattle.xt_lex.specs.Scan.{take_while, drop_while}
use Rattle.xt_lex.specs.Tag.{Rests, attribute}
use Rattle.xt_lex.specs.declared.attribute.AttrSrc.{AttrSrc}
use Rattle.xt_lex.proofs.Attributes.{AttributeFront, utf8_rest, attribute_again, front_whole}
use Rattle.xt_lex.proofs.NameLemmas.{qname_bytes, qname_nonempty}
use Rattle.xt_lex.proofs.StepLemmas.{take_while_split, take_while_append}
use Rattle.xt_lex.proofs.Utf8.{qname_utf8}

behind_ends : (s : List ℕ) → EndsName (drop_while is_name_byte s)
behind_ends [] = tt
behind_ends (b ∷ bs) =
    elim (cases_Bool (is_name_byte b)) [
      | inl e ↦ rw e (behind_ends bs)
      | inr e ↦ rw e e
    ]

-- what ends a name has no byte of a name at its front
pub ends_run : (rest : List ℕ) → EndsName rest → take_while is_name_byte rest ≡ []
ends_run [] h = refl
ends_run (b ∷ bs) h = let stops : is_name_byte b ≡ false = h in rw stops refl

pub name_run : (name rest : List ℕ) → IsQName name → EndsName rest → take_while is_name_byte (name ++ rest) ≡ name
name_run name rest q ends = take_while_append is_name_byte name rest (qname_bytes name q) ∙ ap (λ t. name ++ t) (ends_run rest ends) ∙ append-nil name

-- a name stands there, and the text goes on to where it ends
pub record NamePlace (text : List ℕ) (at to : ℕ) : Type 0 where
  pub is : IsNameAt text at to
  pub on : at < to
  pub fits : to ≤ length text
  pub cut : IsCharBoundary text to

pub name_place : (text : List ℕ) (at : ℕ) (s name : List ℕ) → IsUtf8 s → at ≤ length text → s ≡ drop at text → name ≡ take_while is_name_byte s → IsQName name → NamePlace text at (at + length name)
name_place text at s name u within is front q =
    let rest = drop_while is_name_byte s in
    let split : s ≡ name ++ rest = take_while_split is_name_byte s ∙ ap (λ t. t ++ rest) (sym front) in
    let utf8 = utf8_rest s name rest u (qname_utf8 name q) split in
    let some = qname_nonempty name q in
    let sizes = length-append name rest in
    let whole = ap length split in
    let left = ap length is in
    let size = length-drop at text in
    let seam : IsCharBoundary (drop at text) (length name) = IsCharBoundary-at_seam (drop at text) name rest (sym is ∙ split) utf8 in
    record {
      is = record { name = name; rest = rest; is_name = q; ends = behind_ends s; stands = sym is ∙ split; ends_at = refl };
      on = omega arith;
      fits = omega arith;
      cut = IsCharBoundary-from_rest text at (length name) within seam;
    }

pub no_name : (text : List ℕ) (at : ℕ) (s name : List ℕ) → s ≡ drop at text → name ≡ take_while is_name_byte s → (IsQName name → ⊥) → NoNameAt text at
no_name text at s name is front refuses other rest q ends stands =
    let same : name ≡ other = front ∙ ap (take_while is_name_byte) (is ∙ stands) ∙ name_run other rest q ends in
    refuses (subst IsQName (sym same) q)

-- how long what stands before each of the places of an attribute is
pub record Sizes (s : List ℕ) (x : Rests) (a : Attribute) : Type 0 where
  pub space : length s ≡ length a.space + length x.0
  pub name : length s ≡ length (a.space ++ a.name) + length x.1
  pub equals : length s ≡ length (a.space ++ a.name ++ a.equals) + length x.2
  pub whole : length s ≡ length (attribute_text a) + length x.3
  pub some : 0 < length (attribute_text a)

name_joined : (s s1 s2 sp name : List ℕ) → s ≡ sp ++ s1 → s1 ≡ name ++ s2 → s ≡ (sp ++ name) ++ s2
name_joined s s1 s2 sp name a b = rw (a, b) (simp append_assoc)

equals_joined : (s s1 s2 s3 sp name equals : List ℕ) → s ≡ sp ++ s1 → s1 ≡ name ++ s2 → s2 ≡ equals ++ s3 → s ≡ (sp ++ name ++ equals) ++ s3
equals_joined s s1 s2 s3 sp name equals a b c = rw (a, b, c) (simp append_assoc)

name_seam : (s : List ℕ) (x : Rests) (f : AttributeFront s x) → s ≡ (f.parts.space ++ f.parts.name) ++ x.1
name_seam s x f = name_joined s x.0 x.1 f.parts.space f.parts.name f.space f.name

equals_seam : (s : List ℕ) (x : Rests) (f : AttributeFront s x) → s ≡ (f.parts.space ++ f.parts.name ++ f.parts.equals) ++ x.2
equals_seam s x f = equals_joined s x.0 x.1 x.2 f.parts.space f.parts.name f.parts.equals f.space f.name f.equals

some_space : (sp name equals quoted : List ℕ) → IsSpace sp → 0 < length (sp ++ name ++ equals ++ quoted)
some_space [] name equals quoted h = absurd (h.1 refl)
some_space (b ∷ bs) name equals quoted h = omega arith

pub sizes_of : (s : List ℕ) (x : Rests) (f : AttributeFront s x) → Sizes s x f.parts
sizes_of s x f = record {
  space = ap length f.space ∙ length-append f.parts.space x.0;
  name = ap length (name_seam s x f) ∙ length-append (f.parts.space ++ f.parts.name) x.1;
  equals = ap length (equals_seam s x f) ∙ length-append (f.parts.space ++ f.parts.name ++ f.parts.equals) x.2;
  whole = ap length (front_whole s x f) ∙ length-append (attribute_text f.parts) x.3;
  some = some_space f.parts.space f.parts.name f.parts.equals f.parts.quoted f.is_attribute.space;
}

pub attribute_at : (text : List ℕ) (at : ℕ) (s : List ℕ) (x : Rests) (f : AttributeFront s x) (src : AttrSrc) → s ≡ drop at text
    → src.name.from ≡ at + (length s - length x.0) → src.name.to ≡ at + (length s - length x.1)
    → src.value.from ≡ at + (length s - length x.2) → src.value.to ≡ at + (length s - length x.3)
    → src.whole.from ≡ at + (length s - length s) → src.whole.to ≡ at + (length s - length x.3) → IsAttributeAt text at src
attribute_at text at s x f src is a b c d e g =
    let sizes = sizes_of s x f in
    record {
      parts = f.parts;
      rest = x.3;
      is_attribute = f.is_attribute;
      stands = sym is ∙ front_whole s x f;
      spans = record {
        whole_from = omega arith;
        name_from = omega arith;
        name_to = omega arith;
        value_from = omega arith;
        value_to = omega arith;
        whole_to = omega arith;
      };
    }

place_cut : (text : List ℕ) (at : ℕ) (s front rest : List ℕ) (n : ℕ) → at ≤ length text → s ≡ drop at text → s ≡ front ++ rest → IsUtf8 rest → n ≡ at + (length s - length rest) → IsCharBoundary text n
place_cut text at s front rest n within is split u e =
    let seam = IsCharBoundary-from_rest text at (length front) within (IsCharBoundary-at_seam (drop at text) front rest (sym is ∙ split) u) in
    let same : n ≡ at + length front = omega (arith, ap length split, length-append front rest) in
    subst (IsCharBoundary text) (sym same) seam

-- a text may be cut at each of the places
pub name_from_cut : (text : List ℕ) (at : ℕ) (s : List ℕ) (x : Rests) (f : AttributeFront s x) (n : ℕ) → at ≤ length text → s ≡ drop at text → n ≡ at + (length s - length x.0) → IsCharBoundary text n
name_from_cut text at s x f n within is e = place_cut text at s f.parts.space x.0 n within is f.space f.space_utf8 e

pub name_to_cut : (text : List ℕ) (at : ℕ) (s : List ℕ) (x : Rests) (f : AttributeFront s x) (n : ℕ) → at ≤ length text → s ≡ drop at text → n ≡ at + (length s - length x.1) → IsCharBoundary text n
name_to_cut text at s x f n within is e = place_cut text at s (f.parts.space ++ f.parts.name) x.1 n within is (name_seam s x f) f.name_utf8 e

pub value_from_cut : (text : List ℕ) (at : ℕ) (s : List ℕ) (x : Rests) (f : AttributeFront s x) (n : ℕ) → at ≤ length text → s ≡ drop at text → n ≡ at + (length s - length x.2) → IsCharBoundary text n
value_from_cut text at s x f n within is e = place_cut text at s (f.parts.space ++ f.parts.name ++ f.parts.equals) x.2 n within is (equals_seam s x f) f.equals_utf8 e

pub whole_cut : (text : List ℕ) (at : ℕ) (s : List ℕ) (x : Rests) (f : AttributeFront s x) (n : ℕ) → at ≤ length text → s ≡ drop at text → n ≡ at + (length s - length x.3) → IsCharBoundary text n
whole_cut text at s x f n within is e = place_cut text at s (attribute_text f.parts) x.3 n within is (front_whole s x f) f.utf8 e

pub no_attribute : (text : List ℕ) (at : ℕ) (s : List ℕ) → s ≡ drop at text → attribute.read s ≡ None → NoAttributeAt text at
no_attribute text at s is none a rest spelled stands =
    let again = ap attribute.read (is ∙ stands) ∙ attribute_again a rest spelled in
    absurd (cc)
