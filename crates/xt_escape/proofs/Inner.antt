-- How a text is cut: what a run of kept bytes, a character, an LF in front and a `]` at the end are written as.
use Rattle.std.proofs.Common.{suc, ◌≡◌, ◌≢◌, ◌∙◌, ℕ, ◌<◌, ◌≤◌, List, [], ◌∷◌, ◌++◌, length, take, drop, get_or, refl, sym, ap, subst, arith, inl, inr, true, false, Bool, ◌==◌, eqb-true, codes, encode_utf8, encode_utf8_all, append_assoc, append-nil, lit<}
use Rattle.std.proofs.lemmas.Bool.{and_parts, and_from, both_ways, cases_Bool, ne_eqb}
use Rattle.std.proofs.lemmas.Bool.Decides.{nat_tests}
use Rattle.std.proofs.lemmas.Grind.{flat_map-append}
use Rattle.std.proofs.lemmas.List.{take-append-drop, take-append-le, take_all, length-append}
use Rattle.std.proofs.lemmas.List.Folds.{list_all-append}
use Rattle.std.proofs.lemmas.List.Sums.{prefix_len_stops, prefix_len-le-length}
use Rattle.std.proofs.lemmas.Str.{encode_ascii, encodes-append, encodes-chars, chars-append, chars-nil, chars_past_char, IsUtf8-take, IsCharBoundary-at_seam}
use Rattle.std.specs.List.{list_all, flat_map, prefix_len}
use Rattle.std.specs.Str.{chars, IsUtf8, IsCharBoundary}
use lib.Utf8.{encode}
use Rattle.xt_spec.specs.Escape.{escape_char, escape_from, escape_text}
use Rattle.xt_escape.specs.Kept.{is_kept_byte, inner_text}
use Rattle.xt_escape.proofs.Escaped.{ascii_bytes}

stop_begins : (b : ℕ) → is_kept_byte b ≡ false → 128 ≤ b → 192 ≤ b
stop_begins b stops high = grind (arith, nat_tests)

-- a text may be cut before a byte that may not be kept
pub kept_cut : (text : List ℕ) (n : ℕ) → n ≡ prefix_len is_kept_byte text → IsCharBoundary text n
kept_cut text n is =
    rw is (prefix_len-le-length is_kept_byte text, λ inside high. stop_begins (get_or text (prefix_len is_kept_byte text) 0) (prefix_len_stops is_kept_byte text 0 inside) high)

prefix_passes : (p : ℕ → Bool) (xs : List ℕ) → list_all p (take (prefix_len p xs) xs) ≡ true
prefix_passes p [] = refl
prefix_passes p (x ∷ xs) =
    elim (cases_Bool (p x)) [
      | inl e ↦
          let more : prefix_len p (x ∷ xs) ≡ suc (prefix_len p xs) = rw e (omega arith) in
          rw more (and_from (p x) (list_all p (take (prefix_len p xs) xs)) e (prefix_passes p xs))
      | inr e ↦ let none : prefix_len p (x ∷ xs) ≡ 0 = rw e refl in rw none refl
    ]

-- a character of kept bytes stands for itself
isnt_ascii : (d c : ℕ) → d < 128 → is_kept_byte d ≡ false → list_all is_kept_byte (encode_utf8 c) ≡ true → (c == d) ≡ false
isnt_ascii d c small stops kept =
    elim (cases_Bool (c == d)) [
      | inr e ↦ e
      | inl e ↦
          let bytes : encode_utf8 c ≡ d ∷ [] = ap encode_utf8 (eqb-true c d e) ∙ encode_ascii d small in
          let all : list_all is_kept_byte (d ∷ []) ≡ true = subst (λ (l : List ℕ). list_all is_kept_byte l ≡ true) bytes kept in
          absurd (both_ways (is_kept_byte d) stops (and_parts (is_kept_byte d) true all).0)
    ]

mark_bytes : encode_utf8 0xFEFF ≡ 0xEF ∷ 0xBB ∷ 0xBF ∷ []
unfolding encode
mark_bytes = refl

isnt_mark : (c : ℕ) → list_all is_kept_byte (encode_utf8 c) ≡ true → (c == 0xFEFF) ≡ false
isnt_mark c kept =
    elim (cases_Bool (c == 0xFEFF)) [
      | inr e ↦ e
      | inl e ↦
          let bytes : encode_utf8 c ≡ 0xEF ∷ 0xBB ∷ 0xBF ∷ [] = ap encode_utf8 (eqb-true c 0xFEFF e) ∙ mark_bytes in
          let all : list_all is_kept_byte (0xEF ∷ 0xBB ∷ 0xBF ∷ []) ≡ true = subst (λ (l : List ℕ). list_all is_kept_byte l ≡ true) bytes kept in
          absurd (both_ways false refl all)
    ]

kept_char : (c : ℕ) → list_all is_kept_byte (encode_utf8 c) ≡ true → escape_char c ≡ c ∷ []
kept_char c kept =
    rw (isnt_ascii 0x26 c (lit< tt) refl kept) (rw (isnt_ascii 0x3C c (lit< tt) refl kept) (rw (isnt_ascii 0x3E c (lit< tt) refl kept) (rw (isnt_ascii 0xD c (lit< tt) refl kept) (rw (isnt_mark c kept) refl))))

kept_chars : (cs : List ℕ) → list_all is_kept_byte (encode_utf8_all cs) ≡ true → flat_map escape_char cs ≡ cs
kept_chars [] kept = refl
kept_chars (c ∷ cs) kept =
    let both = and_parts _ _ (sym (list_all-append is_kept_byte (encode_utf8 c) (encode_utf8_all cs)) ∙ kept) in
    rw (kept_char c both.0) (ap (λ (l : List ℕ). c ∷ l) (kept_chars cs both.1))

kept_inner : (text : List ℕ) → IsUtf8 text → list_all is_kept_byte text ≡ true → inner_text text ≡ text
kept_inner text utf8 kept =
    let same = encodes-chars text utf8 in
    ap encode_utf8_all (kept_chars (chars text) (subst (λ (l : List ℕ). list_all is_kept_byte l ≡ true) (sym same) kept)) ∙ same

pub inner_text-append : (xs ys : List ℕ) → IsUtf8 xs → inner_text (xs ++ ys) ≡ inner_text xs ++ inner_text ys
inner_text-append xs ys utf8 =
    ap (λ (cs : List ℕ). encode_utf8_all (flat_map escape_char cs)) (chars-append xs ys utf8)
    ∙ ap encode_utf8_all (flat_map-append escape_char (chars xs) (chars ys))
    ∙ encodes-append (flat_map escape_char (chars xs)) (flat_map escape_char (chars ys))

-- the kept bytes at the front are written as they are
pub kept_front : (text : List ℕ) (n : ℕ) → IsUtf8 text → n ≡ prefix_len is_kept_byte text → inner_text text ≡ take n text ++ inner_text (drop n text)
kept_front text n utf8 is =
    let run = take n text in
    let run_utf8 : IsUtf8 run = IsUtf8-take text n utf8 (kept_cut text n is) in
    let kept : list_all is_kept_byte run ≡ true = rw is (prefix_passes is_kept_byte text) in
    ap inner_text (sym (take-append-drop n text)) ∙ inner_text-append run (drop n text) run_utf8 ∙ ap (λ (l : List ℕ). l ++ inner_text (drop n text)) (kept_inner run run_utf8 kept)

pub char_front : (rest tail : List ℕ) (c : ℕ) → IsUtf8 rest → rest ≡ encode_utf8 c ++ tail → inner_text rest ≡ encode_utf8_all (escape_char c) ++ inner_text tail
char_front rest tail c utf8 is =
    ap (λ (cs : List ℕ). encode_utf8_all (flat_map escape_char cs)) (chars_past_char rest tail c utf8 is) ∙ encodes-append (escape_char c) (flat_map escape_char (chars tail))

-- a run and the character behind it
pub run_and_char : (old mid new text run rest tail : List ℕ) (c : ℕ) → IsUtf8 rest → inner_text text ≡ run ++ inner_text rest → rest ≡ encode_utf8 c ++ tail → mid ≡ old ++ run → new ≡ mid ++ encode_utf8_all (escape_char c)
    → old ++ inner_text text ≡ new ++ inner_text tail
run_and_char old mid new text run rest tail c utf8 cut is first second =
    rw second (rw first (rw cut (rw (char_front rest tail c utf8 is) (simp append_assoc))))

-- an LF in front
pub line_front : (text rest : List ℕ) → IsUtf8 text → text ≡ 0xA ∷ rest → encode_utf8_all (escape_text (chars text)) ≡ codes "&#10;" ++ encode_utf8_all (escape_from false (chars rest))
line_front text rest utf8 is =
    let begins : text ≡ encode_utf8 0xA ++ rest = is ∙ ap (λ (l : List ℕ). l ++ rest) (sym (encode_ascii 0xA (lit< tt))) in
    ap (λ (cs : List ℕ). encode_utf8_all (escape_text cs)) (chars_past_char text rest 0xA utf8 begins)
    ∙ encodes-append (codes "&#10;") (escape_from false (chars rest))
    ∙ ap (λ (l : List ℕ). l ++ encode_utf8_all (escape_from false (chars rest))) (ascii_bytes (codes "&#10;") refl)

first_same : (cs : List ℕ) → ((rest : List ℕ) → encode_utf8_all cs ≢ 0xA ∷ rest) → escape_from true cs ≡ escape_from false cs
first_same [] none = refl
first_same (c ∷ cs) none =
    let other : (c == 0xA) ≡ false = ne_eqb c 0xA (λ e. none (encode_utf8_all cs) (ap (λ d. encode_utf8 d ++ encode_utf8_all cs) e ∙ ap (λ (l : List ℕ). l ++ encode_utf8_all cs) (encode_ascii 0xA (lit< tt)))) in
    rw other refl

pub no_line_front : (text : List ℕ) → IsUtf8 text → ((rest : List ℕ) → text ≢ 0xA ∷ rest) → encode_utf8_all (escape_text (chars text)) ≡ encode_utf8_all (escape_from false (chars text))
no_line_front text utf8 none = ap encode_utf8_all (first_same (chars text) (λ rest e. none rest (sym (encodes-chars text utf8) ∙ e)))

-- a `]` at the end
last_bracket : (cs : List ℕ) → escape_from false (cs ++ 0x5D ∷ []) ≡ flat_map escape_char cs ++ codes "&#93;"
last_bracket [] = refl
last_bracket (c ∷ cs) =
    let more : (length (cs ++ 0x5D ∷ []) == 0) ≡ false = ne_eqb (length (cs ++ 0x5D ∷ [])) 0 (λ e. absurd (omega (arith, length-append cs (0x5D ∷ [])))) in
    rw more (rw (last_bracket cs) (sym (append_assoc (escape_char c) (flat_map escape_char cs) (codes "&#93;"))))

front_utf8 : (text inner : List ℕ) → IsUtf8 text → text ≡ inner ++ 0x5D ∷ [] → IsUtf8 inner
front_utf8 text inner utf8 is =
    let bracket : IsUtf8 (0x5D ∷ []) = (0x5D ∷ [], (refl, ascii_bytes (0x5D ∷ []) refl)) in
    let front : take (length inner) text ≡ inner = rw is (take-append-le (length inner) inner (0x5D ∷ []) (omega arith) ∙ take_all (length inner) inner (omega arith)) in
    subst IsUtf8 front (IsUtf8-take text (length inner) utf8 (IsCharBoundary-at_seam text inner (0x5D ∷ []) is bracket))

bracket_chars : chars (0x5D ∷ []) ≡ 0x5D ∷ []
unfolding chars
bracket_chars = refl

pub bracket_end : (text inner : List ℕ) → IsUtf8 text → text ≡ inner ++ 0x5D ∷ [] → encode_utf8_all (escape_from false (chars text)) ≡ inner_text inner ++ codes "&#93;"
bracket_end text inner utf8 is =
    let split : chars text ≡ chars inner ++ 0x5D ∷ [] = ap chars is ∙ chars-append inner (0x5D ∷ []) (front_utf8 text inner utf8 is) ∙ ap (λ (l : List ℕ). chars inner ++ l) bracket_chars in
    ap (λ (cs : List ℕ). encode_utf8_all (escape_from false cs)) split
    ∙ ap encode_utf8_all (last_bracket (chars inner))
    ∙ encodes-append (flat_map escape_char (chars inner)) (codes "&#93;")
    ∙ ap (λ (l : List ℕ). inner_text inner ++ l) (ascii_bytes (codes "&#93;") refl)

no_last : (cs : List ℕ) → ((front : List ℕ) → cs ≢ front ++ 0x5D ∷ []) → escape_from false cs ≡ flat_map escape_char cs
no_last [] none = refl
no_last (c ∷ []) none =
    let other : (c == 0x5D) ≡ false = ne_eqb c 0x5D (λ e. none [] (ap (λ d. d ∷ []) e)) in
    rw other refl
no_last (c ∷ d ∷ cs) none =
    let more : (length (d ∷ cs) == 0) ≡ false = ne_eqb (length (d ∷ cs)) 0 (λ e. absurd (omega arith)) in
    rw more (ap (λ (l : List ℕ). escape_char c ++ l) (no_last (d ∷ cs) (λ front e. none (c ∷ front) (ap (λ (l : List ℕ). c ∷ l) e))))

pub no_bracket_end : (text : List ℕ) → IsUtf8 text → ((front : List ℕ) → text ≢ front ++ 0x5D ∷ []) → encode_utf8_all (escape_from false (chars text)) ≡ inner_text text ++ []
no_bracket_end text utf8 none =
    ap encode_utf8_all (no_last (chars text) (λ front e. none (encode_utf8_all front) (ends front e))) ∙ sym (append-nil (inner_text text))
  where
    ends : (front : List ℕ) → chars text ≡ front ++ 0x5D ∷ [] → text ≡ encode_utf8_all front ++ 0x5D ∷ []
    ends front e =
        sym (encodes-chars text utf8) ∙ ap encode_utf8_all e ∙ encodes-append front (0x5D ∷ []) ∙ ap (λ (l : List ℕ). encode_utf8_all front ++ l) (ascii_bytes (0x5D ∷ []) refl)

-- the three parts, joined
pub parts_joined : (text rest inner front end first second third : List ℕ) → encode_utf8_all (escape_text (chars text)) ≡ front ++ encode_utf8_all (escape_from false (chars rest)) → encode_utf8_all (escape_from false (chars rest)) ≡ inner_text inner ++ end
    → first ≡ front → second ≡ first ++ inner_text inner → third ≡ second ++ end → third ≡ encode_utf8_all (escape_text (chars text))
parts_joined text rest inner front end first second third begins ends one two three =
    three ∙ rw two (rw one (append_assoc front (inner_text inner) end ∙ ap (λ (l : List ℕ). front ++ l) (sym ends) ∙ sym begins))

-- nothing is left
pub all_put : (old new text rest : List ℕ) → (length rest == 0) ≡ true → old ++ inner_text text ≡ new ++ inner_text rest → new ≡ old ++ inner_text text
all_put old new text [] none is =
    let empty : inner_text [] ≡ [] = ap (λ (cs : List ℕ). encode_utf8_all (flat_map escape_char cs)) chars-nil in
    sym (append-nil new) ∙ ap (λ (l : List ℕ). new ++ l) (sym empty) ∙ sym is
all_put old new text (b ∷ rest) none is = absurd (grind (arith, nat_tests))
