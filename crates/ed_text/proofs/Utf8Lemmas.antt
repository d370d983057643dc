-- A text item in place of another keeps a text UTF-8.
use Rattle.std.proofs.Common.{◌≡◌, ◌∙◌, ℕ, ◌+◌, ◌<◌, List, [], ◌∷◌, ◌++◌, length, get_or, refl, sym, ap, subst, arith, append_assoc, length-append, encode_utf8, encode_utf8_all}
use Rattle.std.proofs.lemmas.List.{take_at, drop_at, get_or_append_left, get_or-append-add}
use Rattle.std.proofs.lemmas.Str.{IsUtf8-append, IsUtf8-take, IsUtf8-drop, IsUtf8-past_char, IsCharBoundary-start}
use Rattle.std.specs.Str.{IsUtf8, IsCharBoundary}

-- what stands behind characters in a text is text
behind_chars : (cs back : List ℕ) → IsUtf8 (encode_utf8_all cs ++ back) → IsUtf8 back
behind_chars [] back is = is
behind_chars (c ∷ cs) back is = behind_chars cs back (IsUtf8-past_char _ (encode_utf8_all cs ++ back) c is (append_assoc (encode_utf8 c) (encode_utf8_all cs) back))

pub behind_text : (text back : List ℕ) → IsUtf8 text → IsUtf8 (text ++ back) → IsUtf8 back
behind_text text back (cs, (scalars, same)) both = behind_chars cs back (subst (λ t. IsUtf8 (t ++ back)) (sym same) both)

-- a text may be cut before a text in it that isn't empty
before_text : (front text back : List ℕ) → IsUtf8 text → 0 < length text → IsUtf8 (front ++ (text ++ back)) → IsCharBoundary (front ++ (text ++ back)) (length front)
before_text front text back is some whole =
    let at_start = IsCharBoundary-start text is in
    let first : get_or (front ++ (text ++ back)) (length front + 0) 0 ≡ get_or text 0 0 = get_or-append-add front (text ++ back) 0 0 ∙ get_or_append_left text back 0 0 some in
    let none : length front + 0 ≡ length front = omega arith in
    let here : get_or (front ++ (text ++ back)) (length front) 0 ≡ get_or text 0 0 = ap (λ n. get_or (front ++ (text ++ back)) n 0) (sym none) ∙ first in
    (omega (arith, length-append front (text ++ back)), λ inside high. omega (arith, here, at_start.1 some (omega (arith, here, high))))

pub text_for_text : (front old new back : List ℕ) → IsUtf8 old → 0 < length old → IsUtf8 new → IsUtf8 (front ++ old ++ back) → IsUtf8 (front ++ new ++ back)
text_for_text front old new back is some new_is whole =
    let all = subst IsUtf8 (append_assoc front old back) whole in
    let cut = before_text front old back is some all in
    let front_is : IsUtf8 front = subst IsUtf8 (take_at front (old ++ back) (length front) refl) (IsUtf8-take (front ++ (old ++ back)) (length front) all cut) in
    let rest_is : IsUtf8 (old ++ back) = subst IsUtf8 (drop_at front (old ++ back) (length front) refl) (IsUtf8-drop (front ++ (old ++ back)) (length front) all cut) in
    IsUtf8-append (front ++ new) back (IsUtf8-append front new front_is new_is) (behind_text old back is rest_is)
