-- A text cut behind so many characters.
use Rattle.std.proofs.Common.{◌≡◌, ◌∙◌, ℕ, zero, suc, ◌<◌, ◌≤◌, ◌+◌, ◌-◌, length-append, List, [], ◌∷◌, ◌++◌, take, drop, length, get_or, refl, sym, ap, arith, true, ◌&&◌, encode_utf8, append_assoc, drop-cons, take-suc, take_at}
use Rattle.std.proofs.lemmas.Bool.{and_parts}
use lib.Utf8.{scalar, scalars}
use Rattle.std.proofs.lemmas.List.{append-nil}
use Rattle.std.proofs.lemmas.Str.{IsCharBoundary-from_take, IsUtf8-append, IsUtf8-nil, chars-append, chars_past_char, cons_from_encodes}
use Rattle.std.specs.Str.{chars, IsUtf8, IsCharBoundary}
use Rattle.ed_spec.specs.Edit.{range_replaced}
use Rattle.ed_session.specs.Ranges.{IsCut}

-- the first character of a text and what follows it are text each
pub first_char : (text rest : List ℕ) (c : ℕ) → IsUtf8 text → text ≡ encode_utf8 c ++ rest → IsUtf8 (encode_utf8 c) × IsUtf8 rest
first_char text rest c (cs, (all, spell)) is =
    let (es, cons, more) = cons_from_encodes cs rest c (spell ∙ is) in
    let both = and_parts (scalar c) (scalars es) (rw cons at all) in
    ((c ∷ [], (one both.0, append-nil (encode_utf8 c))), (es, (both.1, more)))
  where
    one : scalar c ≡ true → scalars (c ∷ []) ≡ true
    one is = ap (λ b. b && true) is

-- before the first character
pub cut_nothing : (text : List ℕ) → IsUtf8 text → IsCut text 0 text
unfolding chars
cut_nothing text is = record { front = []; cut = refl; utf8 = IsUtf8-nil; rest_utf8 = is; within = omega arith; taken = refl; left = refl }

-- behind one more
pub cut_next : (text rest more : List ℕ) (count c : ℕ) → IsCut text count rest → chars rest ≡ c ∷ chars more → rest ≡ encode_utf8 c ++ more → IsUtf8 (encode_utf8 c) → IsUtf8 more → IsCut text (count + 1) more
unfolding chars
cut_next text rest more count c cut first begins is_char is_more =
    let next : suc count ≡ count + 1 = omega arith in
    let left : drop count (chars text) ≡ c ∷ chars more = sym cut.left ∙ first in
    let inside : count < length (chars text) = some (chars text) count c (chars more) left in
    let at : drop count (chars text) ≡ get_or (chars text) count 0 ∷ drop (suc count) (chars text) = drop-cons (chars text) count 0 inside in
    let same = cons_parts _ _ _ _ (sym at ∙ left) in
    let one_char : chars (encode_utf8 c) ≡ c ∷ [] = chars_past_char (encode_utf8 c) [] c is_char (sym (append-nil (encode_utf8 c))) in
    record {
      front = cut.front ++ encode_utf8 c;
      cut = cut.cut ∙ rw begins (sym (append_assoc cut.front (encode_utf8 c) more));
      utf8 = IsUtf8-append cut.front (encode_utf8 c) cut.utf8 is_char;
      rest_utf8 = is_more;
      within = omega arith;
      taken = chars-append cut.front (encode_utf8 c) cut.utf8 ∙ ap (λ (l : List ℕ). l ++ chars (encode_utf8 c)) cut.taken ∙ ap (λ (l : List ℕ). take count (chars text) ++ l) one_char
          ∙ (let more_taken : take (suc count) (chars text) ≡ take count (chars text) ++ c ∷ [] = take-suc (chars text) count 0 inside ∙ ap (λ (n : ℕ). take count (chars text) ++ n ∷ []) same.0 in rw (← next) (sym more_taken));
      left = rw (← next) (sym same.1);
    }
  where
    some : (xs : List ℕ) (n x : ℕ) (ys : List ℕ) → drop n xs ≡ x ∷ ys → n < length xs
    some [] zero x ys is = absurd (cc)
    some [] (suc n) x ys is = absurd (cc)
    some (y ∷ xs) zero x ys is = omega arith
    some (y ∷ xs) (suc n) x ys is = let less = some xs n x ys is in omega arith

    cons_parts : (a b : ℕ) (xs ys : List ℕ) → a ∷ xs ≡ b ∷ ys → (a ≡ b) × (xs ≡ ys)
    cons_parts a b xs ys is = (cc, cc)

-- where nothing is left, no more characters are passed
pub cut_ends : (text rest : List ℕ) (count : ℕ) → IsCut text count rest → rest ≡ [] → length (chars text) ≤ count
unfolding chars
cut_ends text rest count cut none = none_left (chars text) count (sym cut.left ∙ ap chars none)
  where
    none_left : (xs : List ℕ) (n : ℕ) → drop n xs ≡ [] → length xs ≤ n
    none_left [] n is = omega arith
    none_left (x ∷ xs) zero is = absurd (cc)
    none_left (x ∷ xs) (suc n) is = let less = none_left xs n is in omega arith

cut_place : (text rest : List ℕ) (count : ℕ) (cut : IsCut text count rest) → length text - length rest ≡ length cut.front
cut_place text rest count cut =
    let whole : length text ≡ length cut.front + length rest = ap (λ (l : List ℕ). length l) cut.cut ∙ length-append cut.front rest in
    omega arith

-- the text may be cut there
pub cut_boundary : (text rest : List ℕ) (count : ℕ) → IsUtf8 text → IsCut text count rest → IsCharBoundary text (length text - length rest)
cut_boundary text rest count is cut =
    let whole : length text ≡ length cut.front + length rest = ap (λ (l : List ℕ). length l) cut.cut ∙ length-append cut.front rest in
    let front : take (length cut.front) text ≡ cut.front = ap (λ (l : List ℕ). take (length cut.front) l) cut.cut ∙ take_at cut.front rest (length cut.front) refl in
    rw (cut_place text rest count cut) (IsCharBoundary-from_take text (length cut.front) is (omega arith) (rw front cut.utf8))

-- a range gives way to other characters
pub range_is : (text front rest end new out : List ℕ) (from to : ℕ) → from ≤ to → IsCut text from rest → IsCut text to end → IsUtf8 new → front ≡ take (length text - length rest) text → out ≡ (front ++ new) ++ end
    → (from ≤ to) × (to ≤ length (chars text)) × (chars out ≡ range_replaced (chars text) from to (chars new))
range_is text front rest end new out from to ascends cut last is_new front_is out_is =
    let front_same : front ≡ cut.front = front_is ∙ rw (cut_place text rest from cut) (ap (λ (l : List ℕ). take (length cut.front) l) cut.cut ∙ take_at cut.front rest (length cut.front) refl) in
    let joined : out ≡ cut.front ++ (new ++ end) = out_is ∙ append_assoc front new end ∙ ap (λ (l : List ℕ). l ++ (new ++ end)) front_same in (
      ascends,
      last.within,
      ap chars joined ∙ chars-append cut.front (new ++ end) cut.utf8 ∙ ap (λ (l : List ℕ). chars cut.front ++ l) (chars-append new end is_new)
          ∙ ap (λ (l : List ℕ). l ++ (chars new ++ chars end)) cut.taken ∙ ap (λ (l : List ℕ). take from (chars text) ++ (chars new ++ l)) last.left
          ∙ sym (append_assoc (take from (chars text)) (chars new) (drop to (chars text))),
    )
