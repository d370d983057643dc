-- At each place of a text a token stands, or none does: the first `<` or `&`, the first `]]>` and the first character that is
-- no Char say how far character data goes, and what stands at a `<` or `&` is found by the steps of the code.
use Rattle.std.proofs.Common.{zero, suc, ◌≡◌, ◌∙◌, ℕ, ◌-◌, ◌<◌, List, [], ◌∷◌, ◌++◌, length, get_or, take, drop, true, false, eqb, ◌⊎◌, refl, ap, sym, subst, arith, inl, inr, Option, Some, None, eqb-true, eq-eqb, encode_utf8, encode_utf8_all, codes}
use Rattle.std.proofs.lemmas.Bool.{cases_Bool, cases_lt, both_ways}
use Rattle.std.proofs.lemmas.List.{take_at, drop_at, length-append}
use Rattle.std.proofs.lemmas.Str.{encodes-append, IsUtf8-take, IsCharBoundary-before_ascii, IsCharBoundary-end}
use Rattle.std.specs.Str.{IsUtf8, NonePass, IsCharBoundary}
use Rattle.xt_spec.specs.Char.{is_char}
use Rattle.xt_spec.specs.Token.{TokenKind, char_data, BeginsClose, NoFront, IsLongestFront}
use Rattle.xt_lex.specs.Data.{is_no_char, AreFirstChars, IsDelimiter, IsFirstDelimiter, IsFirstClose, IsFirstData}
use Rattle.xt_lex.specs.Markup.{markup}
use Rattle.xt_lex.proofs.DataLemmas.{front_data, close_reads}
use Rattle.xt_lex.proofs.Fronts.{markup_longest, markup_none, data_longest, data_none}

-- ---- the first `<` or `&`

is_delimiter : (b : ℕ) → IsDelimiter b ⊎ ¬ IsDelimiter b
is_delimiter b = elim (cases_Bool (eqb b 60)) [
  | inl less ↦ inl (inl (eqb-true b 60 less))
  | inr no_less ↦ elim (cases_Bool (eqb b 38)) [
    | inl and ↦ inl (inr (eqb-true b 38 and))
    | inr no_and ↦ inr (λ is. elim is [
      | inl e ↦ both_ways (eqb b 60) no_less (eq-eqb b 60 e)
      | inr e ↦ both_ways (eqb b 38) no_and (eq-eqb b 38 e)
    ])
  ]
]

some_delimiter : (s : List ℕ) → (n : ℕ) × IsFirstDelimiter s n
some_delimiter [] = (0, record { within = omega arith; plain = λ i h. absurd (omega arith); stops = λ h. absurd (omega arith) })
some_delimiter (b ∷ bs) = elim (is_delimiter b) [
  | inl is ↦ (0, record { within = omega arith; plain = λ i h. absurd (omega arith); stops = λ h. is })
  | inr none ↦ let rest = some_delimiter bs in (suc rest.0, record { within = omega (arith, rest.1.within); plain = behind rest.0 none rest.1; stops = λ h. rest.1.stops (omega arith) })
]
  where
    behind : (n : ℕ) → ¬ IsDelimiter b → IsFirstDelimiter bs n → (i : ℕ) → i < suc n → ¬ IsDelimiter (get_or (b ∷ bs) i 0)
    behind n none is zero h = none
    behind n none is (suc i) h = is.plain i (omega arith)

-- ---- the first `]]>`

begins_close : (s : List ℕ) → BeginsClose s ⊎ ¬ BeginsClose s
begins_close [] = inr (λ is. let e = is.1 in cc)
begins_close (a ∷ []) = inr (λ is. let e = is.1 in cc)
begins_close (a ∷ b ∷ []) = inr (λ is. let e = is.1 in cc)
begins_close (a ∷ b ∷ c ∷ s) = elim (cases_Bool (eqb a 93)) [
  | inr bad ↦ inr (λ is. both_ways (eqb a 93) bad (eq-eqb a 93 (ap (λ l. get_or l 0 0) is.1)))
  | inl first ↦ elim (cases_Bool (eqb b 93)) [
    | inr bad ↦ inr (λ is. both_ways (eqb b 93) bad (eq-eqb b 93 (ap (λ l. get_or l 1 0) is.1)))
    | inl second ↦ elim (cases_Bool (eqb c 62)) [
      | inr bad ↦ inr (λ is. both_ways (eqb c 62) bad (eq-eqb c 62 (ap (λ l. get_or l 2 0) is.1)))
      | inl third ↦ inl (s, three (eqb-true a 93 first) (eqb-true b 93 second) (eqb-true c 62 third))
    ]
  ]
]
  where
    three : a ≡ 93 → b ≡ 93 → c ≡ 62 → a ∷ b ∷ c ∷ s ≡ codes "]]>" ++ s
    three x y z = cc

some_close : (s : List ℕ) → (n : ℕ) × IsFirstClose s n
some_close [] = (0, record { within = omega arith; unclosed = λ k h. absurd (omega arith); stops = λ h. absurd (omega arith) })
some_close (b ∷ bs) = elim (begins_close (b ∷ bs)) [
  | inl is ↦ (0, record { within = omega arith; unclosed = λ k h. absurd (omega arith); stops = λ h. is })
  | inr none ↦ let rest = some_close bs in (suc rest.0, record { within = omega (arith, rest.1.within); unclosed = behind rest.0 none rest.1; stops = λ h. rest.1.stops (omega arith) })
]
  where
    behind : (n : ℕ) → ¬ BeginsClose (b ∷ bs) → IsFirstClose bs n → (k : ℕ) → k < suc n → ¬ BeginsClose (drop k (b ∷ bs))
    behind n none is zero h = none
    behind n none is (suc k) h = is.unclosed k (omega arith)

-- ---- the first character that is no Char

-- characters that are Chars, and what follows: nothing, or one that is none
pub record AreCut (cs : List ℕ) : Type 0 where
  pub front : List ℕ
  pub back : List ℕ
  pub joined : cs ≡ front ++ back
  pub pass : NonePass is_no_char front
  pub stops : (back ≡ []) ⊎ ((c : ℕ) × (rest : List ℕ) × (back ≡ c ∷ rest) × (is_char c ≡ false))

are_cut : (cs : List ℕ) → AreCut cs
are_cut [] = record { front = []; back = []; joined = refl; pass = tt; stops = inl refl }
are_cut (c ∷ cs) = elim (cases_Bool (is_char c)) [
  | inl is ↦ let rest = are_cut cs in record { front = c ∷ rest.front; back = rest.back; joined = ap (λ l. c ∷ l) rest.joined; pass = (not_no is, rest.pass); stops = rest.stops }
  | inr bad ↦ record { front = []; back = c ∷ cs; joined = refl; pass = tt; stops = inr (c, cs, refl, bad) }
]
  where
    not_no : is_char c ≡ true → is_no_char c ≡ false
    not_no is = rw is refl

chars_of_cut : (text cs : List ℕ) → encode_utf8_all cs ≡ text → (cut : AreCut cs) → AreFirstChars text (length (encode_utf8_all cut.front))
chars_of_cut text cs spelled cut = record {
  within = omega (arith, ap length whole, length-append (encode_utf8_all cut.front) (encode_utf8_all cut.back));
  chars = (cut.front, sym (ap (take (length (encode_utf8_all cut.front))) whole ∙ take_at (encode_utf8_all cut.front) (encode_utf8_all cut.back) (length (encode_utf8_all cut.front)) refl), cut.pass);
  stops = stops cut.stops;
}
  where
    whole : text ≡ encode_utf8_all cut.front ++ encode_utf8_all cut.back
    whole = sym spelled ∙ ap encode_utf8_all cut.joined ∙ encodes-append cut.front cut.back

    rest_is : drop (length (encode_utf8_all cut.front)) text ≡ encode_utf8_all cut.back
    rest_is = ap (drop (length (encode_utf8_all cut.front))) whole ∙ drop_at (encode_utf8_all cut.front) (encode_utf8_all cut.back) (length (encode_utf8_all cut.front)) refl

    stops : ((cut.back ≡ []) ⊎ ((c : ℕ) × (rest : List ℕ) × (cut.back ≡ c ∷ rest) × (is_char c ≡ false))) → length (encode_utf8_all cut.front) < length text → (c : ℕ) × (rest : List ℕ) × (drop (length (encode_utf8_all cut.front)) text ≡ encode_utf8 c ++ rest) × (is_char c ≡ false)
    stops (inl none) more = absurd (omega (arith, ap length whole, length-append (encode_utf8_all cut.front) (encode_utf8_all cut.back), ap (λ l. length (encode_utf8_all l)) none))
    stops (inr (c, rest, is, bad)) more = (c, encode_utf8_all rest, rest_is ∙ ap encode_utf8_all is, bad)

pub some_chars : (text : List ℕ) → IsUtf8 text → (n : ℕ) × AreFirstChars text n
some_chars text (cs, (scalars, spelled)) = (length (encode_utf8_all (are_cut cs).front), chars_of_cut text cs spelled (are_cut cs))

-- ---- character data

delimiter_small : (b : ℕ) → IsDelimiter b → b < 128
delimiter_small b (inl e) = omega (arith, e)
delimiter_small b (inr e) = omega (arith, e)

delimiter_cut : (s : List ℕ) (m : ℕ) → IsFirstDelimiter s m → IsCharBoundary s m
delimiter_cut s m is = elim (cases_lt m (length s)) [
  | inl inside ↦ IsCharBoundary-before_ascii s m inside (delimiter_small (get_or s m 0) (is.stops inside))
  | inr end ↦ let same : length s ≡ m = omega (arith, is.within) in subst (IsCharBoundary s) same (IsCharBoundary-end s)
]

close_cut : (s : List ℕ) (m : ℕ) → IsFirstClose s m → IsCharBoundary s m
close_cut s m is = elim (cases_lt m (length s)) [
  | inl inside ↦ let reads = close_reads s m (is.stops inside) in IsCharBoundary-before_ascii s m inside (omega (arith, reads.0))
  | inr end ↦ let same : length s ≡ m = omega (arith, is.within) in subst (IsCharBoundary s) same (IsCharBoundary-end s)
]

some_data : (s : List ℕ) → IsUtf8 s → (n : ℕ) × IsFirstData s n
some_data s u =
    let delimiter = some_delimiter s in
    let front = IsUtf8-take s delimiter.0 u (delimiter_cut s delimiter.0 delimiter.1) in
    let close = some_close (take delimiter.0 s) in
    let inner = IsUtf8-take (take delimiter.0 s) close.0 front (close_cut (take delimiter.0 s) close.0 close.1) in
    let chars = some_chars (take close.0 (take delimiter.0 s)) inner in
    (chars.0, front_data s (take delimiter.0 s) (take close.0 (take delimiter.0 s)) delimiter.0 close.0 chars.0 refl refl delimiter.1 close.1 chars.1)

-- ---- a token

by_data : (s : List ℕ) (n : ℕ) → ¬ IsDelimiter (get_or s 0 0) → IsFirstData s n → ((k : TokenKind) × (m : ℕ) × IsLongestFront s k m) ⊎ NoFront s
by_data s zero none is = inr (data_none s none is)
by_data s (suc n) none is = inl (char_data, suc n, data_longest s (suc n) none is (omega arith))

by_markup : (s : List ℕ) → IsUtf8 s → IsDelimiter (get_or s 0 0) → (o : Option (TokenKind × List ℕ)) → markup s ≡ o → ((k : TokenKind) × (m : ℕ) × IsLongestFront s k m) ⊎ NoFront s
by_markup s u begins None is = inr (markup_none s begins is)
by_markup s u begins (Some (k, r)) is = inl (k, length s - length r, markup_longest s r k u begins is)

-- a token stands at the front of a text, or none does
pub some_front : (s : List ℕ) → IsUtf8 s → ((k : TokenKind) × (n : ℕ) × IsLongestFront s k n) ⊎ NoFront s
some_front s u = elim (is_delimiter (get_or s 0 0)) [
  | inl begins ↦ by_markup s u begins (markup s) refl
  | inr none ↦ let found = some_data s u in by_data s found.0 none found.1
]
