-- A file that is read as one text: its characters, its items and its fault.
use Rattle.std.proofs.Common.{◌≡◌, ◌≢◌, ◌∙◌, ◌⊎◌, List, ℕ, ◌+◌, ◌≤◌, [], ◌∷◌, ◌++◌, length, take, drop, get_or, refl, sym, ap, subst, Bool, true, false, IsUtf8, inl, inr, nat_eq, arith, ◌==◌, if◌then◌else◌, encode_utf8_all, eqb-true, eq-eqb}
use Rattle.std.proofs.lemmas.Bool.{and_parts, and_from, both_ways, not-false}
use Rattle.std.proofs.lemmas.List.{append-nil, drop-drop, length-drop, length-take-le, take-append-drop, take_rest, take_all}
use Rattle.std.proofs.lemmas.Slice.Eq.{bytes_eq-Decides}
use Rattle.std.proofs.lemmas.Str.{chars-append, chars-encodes, chars_past_char, IsCharBoundary-from_take, IsUtf8-drop, NoCharPasses-append, NoCharPasses-nil}
use Rattle.std.proofs.Math.ListN.{drop_of_length-le}
use Rattle.std.proofs.Math.Seq.{take-add}
use Rattle.std.proofs.Math.Utf8.{encode, scalars}
use Rattle.std.specs.List.{list_all, starts_with}
use Rattle.std.specs.Str.{chars, NoCharPasses, NonePass}
use Rattle.xt_spec.specs.Char.{is_char}
use Rattle.xt_spec.specs.Name.{IsSpeltBy}
use Rattle.xt_spec.specs.Tree.{Items, nil, element, leaf, text_item, reference_item, comment_item, pi_item, gap, source_text}
use Rattle.xt_spec.specs.Reading.{mark, plain_text, IsMarked, IsOneText, IsOrdered, IsReading}
use Rattle.xt_lex.specs.Data.{is_no_char, AreFirstChars, BeginsNoChar}
use Rattle.xt_lex.proofs.Theorems.{list_all_behind, spelt_joined, char_scalar}
use Rattle.xt_tree.specs.Meaning.{at_span}
use Rattle.xt_spec.specs.FirstFault.{IsFirstNoChar}
use Rattle.xt_read.specs.FrontSteps.{text_part, one_text_items}

-- ---- characters

all_chars : (cs : List ℕ) → NonePass is_no_char cs → list_all is_char cs ≡ true
all_chars [] none = refl
all_chars (c ∷ cs) none = and_from _ _ (not-false _ none.0) (all_chars cs none.1)

all_scalars : (cs : List ℕ) → list_all is_char cs ≡ true → scalars cs ≡ true
all_scalars [] all = refl
all_scalars (c ∷ cs) all =
    let both = and_parts _ _ all in
    and_from _ _ (char_scalar c both.0) (all_scalars cs both.1)

-- a text has the Chars that spell it
chars_are : (cs text : List ℕ) → encode_utf8_all cs ≡ text → list_all is_char cs ≡ true → chars text ≡ cs
chars_are cs text spell all = ap chars (sym spell) ∙ chars-encodes cs (all_scalars cs all)

-- where the first Chars end, and the text doesn't, stands the first character that is none
pub first_no_char : (text : List ℕ) (n : ℕ) → IsUtf8 text → AreFirstChars text n → n ≢ length text → IsFirstNoChar text n
first_no_char text n utf8 is short =
    let (cs, spell, none) = is.chars in
    let all = all_chars cs none in
    let (c, rest, begins, fails) = is.stops (omega (arith, is.within, short)) in
    let front : IsUtf8 (take n text) = (cs, (all_scalars cs all, spell)) in
    let tail : IsUtf8 (drop n text) = IsUtf8-drop text n utf8 (IsCharBoundary-from_take text n utf8 is.within front) in
    record {
      before = cs;
      character = c;
      behind = chars rest;
      are = ap chars (sym (take-append-drop n text)) ∙ chars-append (take n text) (drop n text) front ∙ ap (λ l. l ++ chars (drop n text)) (chars_are cs (take n text) spell all) ∙ ap (λ l. cs ++ l) (chars_past_char (drop n text) rest c tail begins);
      pass = all;
      fails = fails;
      at_is = sym (ap length spell ∙ length-take-le n text is.within);
    }

-- Chars behind a front of Chars
behind_front : (text : List ℕ) (len n : ℕ) → len ≤ length text → NoCharPasses is_no_char (take len text) → AreFirstChars (drop len text) n → AreFirstChars text (len + n)
behind_front text len n within front is = record {
  within = omega (arith, within, is.within, length-drop len text);
  chars = subst (NoCharPasses is_no_char) (sym (take-add len n text)) (NoCharPasses-append is_no_char (take len text) (take n (drop len text)) front is.chars);
  stops = λ more. subst BeginsNoChar (drop-drop n len text) (is.stops (omega (arith, more, length-drop len text, within)));
}

mark_passes : NoCharPasses is_no_char mark
unfolding encode
mark_passes = (0xFEFF ∷ [], refl, (refl, tt))

begins_mark : (text : List ℕ) → starts_with nat_eq text mark ≡ true → take 3 text ≡ mark
begins_mark text starts = sym ((bytes_eq-Decides mark (take 3 text)).0 starts)

-- a byte order mark is a Char
front_passes : (text : List ℕ) (len : ℕ) → len ≡ (if starts_with nat_eq text mark then 3 else 0) → NoCharPasses is_no_char (take len text)
front_passes text len size = by (starts_with nat_eq text mark) refl size
  where
    by : (b : Bool) → starts_with nat_eq text mark ≡ b → len ≡ (if b then 3 else 0) → NoCharPasses is_no_char (take len text)
    by true starts l = subst (λ k. NoCharPasses is_no_char (take k text)) (sym l) (subst (NoCharPasses is_no_char) (sym (begins_mark text starts)) mark_passes)
    by false starts l = subst (λ k. NoCharPasses is_no_char (take k text)) (sym l) (NoCharPasses-nil is_no_char)

-- .. so the first fault of a text is found behind it
pub no_char_behind : (text : List ℕ) (len n : ℕ) → IsUtf8 text → len ≡ (if starts_with nat_eq text mark then 3 else 0) → len ≤ length text → AreFirstChars (drop len text) n → len + n ≢ length text → IsFirstNoChar text (len + n)
no_char_behind text len n utf8 size within is short = first_no_char text (len + n) utf8 (behind_front text len n within (front_passes text len size) is) short

-- ---- items

-- Chars to the end spell the text
spelt_whole : (text : List ℕ) (n : ℕ) → n ≡ length text → AreFirstChars text n → IsSpeltBy (list_all is_char) text
spelt_whole text n size is =
    let (cs, spell, none) = is.chars in
    (cs, spell ∙ take_all n text (omega (arith, size)), all_chars cs none)

-- the text from a place on, where there is any
part_reads : (text : List ℕ) (len : ℕ) → len ≤ length text → IsSpeltBy (list_all is_char) (drop len text) → IsOneText (text_part text len (length text)) × (source_text (text_part text len (length text)) ≡ drop len text)
part_reads text len within spelt = by (len == length text) refl
  where
    rest : at_span text (record { from = len; to = length text }) ≡ drop len text
    rest = take_rest text len

    by : (b : Bool) → (len == length text) ≡ b → IsOneText (if b then nil else leaf text_item (at_span text (record { from = len; to = length text })) nil) × (source_text (if b then nil else leaf text_item (at_span text (record { from = len; to = length text })) nil) ≡ drop len text)
    by true e =
        let same : len ≡ length text = eqb-true len (length text) e in
        (tt, sym (drop_of_length-le text (omega (arith, same))))
    by false e = (
      (subst (IsSpeltBy (list_all is_char)) (sym rest) spelt, λ none. both_ways (len == length text) e (eq-eqb len (length text) (omega (arith, within, length-drop len text, ap length (sym rest ∙ none))))),
      append-nil (at_span text (record { from = len; to = length text })) ∙ rest,
    )

abbrev ReadsTo : List ℕ → ℕ → Type 0
ReadsTo text len = IsOrdered plain_text (one_text_items text len (length text)) × (source_text (one_text_items text len (length text)) ≡ text)

marked_reads : (text : List ℕ) → starts_with nat_eq text mark ≡ true → 3 ≤ length text → IsSpeltBy (list_all is_char) (drop 3 text) → ReadsTo text 3
marked_reads text starts within spelt =
    let part = part_reads text 3 within spelt in
    let marks : take 3 text ≡ mark = begins_mark text starts in
    (inl (text_part text 3 (length text), ap (λ t. leaf gap t (text_part text 3 (length text))) marks, part.0), ap (λ t. take 3 text ++ t) part.1 ∙ take-append-drop 3 text)

unmarked_reads : (text : List ℕ) → starts_with nat_eq text mark ≡ false → IsSpeltBy (list_all is_char) text → ReadsTo text 0
unmarked_reads text none spelt =
    let part = part_reads text 0 (omega arith) spelt in
    (inr (ap (λ t. starts_with nat_eq t mark) part.1 ∙ none, part.0), part.1)

pub one_text_reads : (text : List ℕ) (len n : ℕ) → len ≡ (if starts_with nat_eq text mark then 3 else 0) → len ≤ length text → AreFirstChars (drop len text) n → len + n ≡ length text → ReadsTo text len
one_text_reads text len n size within is whole = by (starts_with nat_eq text mark) refl size
  where
    spelt : IsSpeltBy (list_all is_char) (drop len text)
    spelt = spelt_whole (drop len text) n (omega (arith, whole, length-drop len text)) is

    by : (b : Bool) → starts_with nat_eq text mark ≡ b → len ≡ (if b then 3 else 0) → ReadsTo text len
    by true starts l = subst (ReadsTo text) (sym l) (marked_reads text starts (omega (arith, l, within)) (subst (λ k. IsSpeltBy (list_all is_char) (drop k text)) l spelt))
    by false starts l = subst (ReadsTo text) (sym l) (unmarked_reads text starts (subst (λ k. IsSpeltBy (list_all is_char) (drop k text)) l spelt))

-- ---- one reading

one_text_is : (items : Items) → IsOneText items → (items ≡ nil) ⊎ ((text : List ℕ) × (items ≡ leaf text_item text nil) × IsSpeltBy (list_all is_char) text × (text ≢ []))
one_text_is nil is = inl refl
one_text_is (element open_tag kids close rest) is = absurd is
one_text_is (leaf text_item text nil) is = inr (text, refl, is.0, is.1)
one_text_is (leaf text_item text (element open_tag kids close rest)) is = absurd is
one_text_is (leaf text_item text (leaf kind other rest)) is = absurd is
one_text_is (leaf reference_item text rest) is = absurd is
one_text_is (leaf comment_item text rest) is = absurd is
one_text_is (leaf pi_item text rest) is = absurd is
one_text_is (leaf gap text rest) is = absurd is

one_part : (a b : Items) → IsOneText a → IsOneText b → source_text a ≡ source_text b → a ≡ b
one_part a b x y same = by (one_text_is a x) (one_text_is b y)
  where
    Is : Items → Type 0
    Is items = (items ≡ nil) ⊎ ((text : List ℕ) × (items ≡ leaf text_item text nil) × IsSpeltBy (list_all is_char) text × (text ≢ []))

    by : Is a → Is b → a ≡ b
    by (inl first) (inl second) = first ∙ sym second
    by (inl first) (inr (text, second, spelt, some)) = absurd (some (sym (append-nil text) ∙ sym (ap source_text second) ∙ sym same ∙ ap source_text first))
    by (inr (text, first, spelt, some)) (inl second) = absurd (some (sym (append-nil text) ∙ sym (ap source_text first) ∙ same ∙ ap source_text second))
    by (inr (text, first, spelt, some)) (inr (other, second, spelt_too, more)) =
        first ∙ ap (λ t. leaf text_item t nil) (sym (append-nil text) ∙ sym (ap source_text first) ∙ same ∙ ap source_text second ∙ append-nil other) ∙ sym second

starts_mark : (rest : List ℕ) → starts_with nat_eq (mark ++ rest) mark ≡ true
starts_mark rest = refl

-- a text has at most one reading as one text
one_marked : (a b : Items) → IsMarked IsOneText a → IsMarked IsOneText b → source_text a ≡ source_text b → a ≡ b
one_marked a b (inl (rest, is, main)) (inl (behind, also, more)) same =
    is ∙ ap (leaf gap mark) (one_part rest behind main more (ap (drop 3) (sym (ap source_text is) ∙ same ∙ ap source_text also))) ∙ sym also
one_marked a b (inr (none, main)) (inr (never, more)) same = one_part a b main more same
one_marked a b (inl (rest, is, main)) (inr (never, more)) same =
    let starts : true ≡ false = sym (starts_mark (source_text rest)) ∙ ap (λ t. starts_with nat_eq t mark) (sym (ap source_text is) ∙ same) ∙ never in absurd (cc)
one_marked a b (inr (none, main)) (inl (behind, also, more)) same =
    let starts : true ≡ false = sym (starts_mark (source_text behind)) ∙ ap (λ t. starts_with nat_eq t mark) (sym (ap source_text also) ∙ sym same) ∙ none in absurd (cc)

pub one_text : (text : List ℕ) (a b : Items) → IsReading plain_text text a → IsReading plain_text text b → a ≡ b
one_text text a b x y = one_marked a b x.ordered y.ordered (x.joined ∙ sym y.joined)

-- ---- one fault

part_spelt : (items : Items) → IsOneText items → IsSpeltBy (list_all is_char) (source_text items)
part_spelt items is = by (one_text_is items is)
  where
    by : (items ≡ nil) ⊎ ((text : List ℕ) × (items ≡ leaf text_item text nil) × IsSpeltBy (list_all is_char) text × (text ≢ [])) → IsSpeltBy (list_all is_char) (source_text items)
    by (inl same) = subst (λ i. IsSpeltBy (list_all is_char) (source_text i)) (sym same) ([], refl, refl)
    by (inr (text, same, spelt, some)) = subst (IsSpeltBy (list_all is_char)) (sym (ap source_text same ∙ append-nil text)) spelt

mark_spelt : IsSpeltBy (list_all is_char) mark
unfolding encode
mark_spelt = (0xFEFF ∷ [], refl, refl)

-- a text that reads as one text has Chars alone
marked_spelt : (items : Items) → IsMarked IsOneText items → IsSpeltBy (list_all is_char) (source_text items)
marked_spelt items (inl (rest, is, main)) = subst (IsSpeltBy (list_all is_char)) (sym (ap source_text is)) (spelt_joined is_char mark (source_text rest) mark_spelt (part_spelt rest main))
marked_spelt items (inr (none, main)) = part_spelt items main

-- so it has no fault
pub no_first_no_char : (text : List ℕ) (items : Items) (at : ℕ) → IsOrdered plain_text items → source_text items ≡ text → IsFirstNoChar text at → ⊥
no_first_no_char text items at ordered joined fault =
    let (cs, spell, all) = marked_spelt items ordered in
    let same : cs ≡ fault.before ++ fault.character ∷ fault.behind = sym (chars_are cs text (spell ∙ joined) all) ∙ fault.are in
    let tail = list_all_behind is_char fault.before (fault.character ∷ fault.behind) (subst (λ l. list_all is_char l ≡ true) same all) in
    both_ways (is_char fault.character) fault.fails (and_parts _ _ tail).0

-- a list has one front of Chars that one that is none stands behind
one_front : (xs ys : List ℕ) (c d : ℕ) (more others : List ℕ) → xs ++ c ∷ more ≡ ys ++ d ∷ others → list_all is_char xs ≡ true → list_all is_char ys ≡ true → is_char c ≡ false → is_char d ≡ false → xs ≡ ys
one_front [] [] c d more others same x y fails fails_too = refl
one_front [] (b ∷ bs) c d more others same x y fails fails_too =
    let first : c ≡ b = ap (λ l. get_or l 0 0) same in
    absurd (both_ways (is_char c) fails (ap is_char first ∙ (and_parts _ _ y).0))
one_front (a ∷ xs) [] c d more others same x y fails fails_too =
    let first : a ≡ d = ap (λ l. get_or l 0 0) same in
    absurd (both_ways (is_char d) fails_too (ap is_char (sym first) ∙ (and_parts _ _ x).0))
one_front (a ∷ xs) (b ∷ ys) c d more others same x y fails fails_too =
    let first : a ≡ b = ap (λ l. get_or l 0 0) same in
    ap (λ k. k ∷ xs) first ∙ ap (λ l. b ∷ l) (one_front xs ys c d more others (ap (drop 1) same) (and_parts _ _ x).1 (and_parts _ _ y).1 fails fails_too)

pub one_first_no_char : (text : List ℕ) (m n : ℕ) → IsFirstNoChar text m → IsFirstNoChar text n → m ≡ n
one_first_no_char text m n x y =
    let same = one_front x.before y.before x.character y.character x.behind y.behind (sym x.are ∙ y.are) x.pass y.pass x.fails y.fails in
    x.at_is ∙ ap (λ l. length (encode_utf8_all l)) same ∙ sym y.at_is
