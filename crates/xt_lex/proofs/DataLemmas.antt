-- Character data at the front of a text.
use Rattle.std.proofs.Common.{zero, suc, ◌≡◌, ◌≢◌, ℕ, ◌+◌, ◌<◌, ◌≤◌, List, ◌++◌, length, get_or, take, drop, ap, sym, subst, ◌∙◌, arith, inl, inr, Option, Some, None, le_refl, encode_utf8, codes, true, false, IsUtf8}
use Rattle.std.proofs.lemmas.Bool.{cases_lt, cases_eq, not-true, and_parts}
use Rattle.std.proofs.lemmas.List.{take_all, get_or_past, get_or-take, length-take-le, take-append-drop, drop-append-le, take-take, append_assoc}
use Rattle.std.proofs.lemmas.List.Prefix.{at_reads, at_from_reads}
use Rattle.std.proofs.lemmas.List.Folds.{list_all_at}
use Rattle.std.specs.List.{list_all}
use Rattle.std.specs.Str.{IsCharBoundary, NoCharPasses}
use Rattle.std.specs.Option.{unwrap_or}
use Rattle.memchr.specs.Find.{FindsNeedle, OccursAt}
use Rattle.std.specs.Str.Pattern.{FindsBy}
use Rattle.xt_spec.specs.Token.{BeginsClose, NoCloseBelow}
use Rattle.xt_lex.specs.Fast.{is_sound_byte, is_data_byte}
use Rattle.xt_lex.proofs.Sound.{sound_first_chars}
use Rattle.xt_lex.proofs.Spelling.{list_all_weaker}
use Rattle.xt_lex.specs.Data.{is_no_char, AreFirstChars, IsDelimiter, IsFirstDelimiter, IsFirstClose, IsFirstData}

pub first_chars_some : (s : List ℕ) (i j : ℕ) → FindsBy is_no_char s (Some (i, j)) → i ≤ j → IsCharBoundary s i → AreFirstChars s i
first_chars_some s i j found le cut = record {
  within = cut.0;
  chars = found.0;
  stops = λ _. (found.1.0, drop j s, found.1.2.split, not-true _ found.1.1);
}

pub first_chars_none : (s : List ℕ) → FindsBy is_no_char s None → AreFirstChars s (length s)
first_chars_none s none = record {
  within = le_refl _;
  chars = subst (NoCharPasses is_no_char) (sym (take_all (length s) s (le_refl _))) none;
  stops = λ h. absurd (omega arith);
}

close_byte : (s : List ℕ) (k : ℕ) → get_or s k 0 ≡ 93 → get_or s (k + 1) 0 ≡ 93 → get_or s (k + 2) 0 ≡ 62 → (i : ℕ) → i < 3 → get_or s (k + i) 0 ≡ get_or (codes "]]>") i 0
close_byte s k a b c zero h = let e : k + 0 ≡ k = omega arith in rw e a
close_byte s k a b c (suc zero) h = b
close_byte s k a b c (suc (suc zero)) h = c
close_byte s k a b c (suc (suc (suc i))) h = absurd (omega arith)

-- where `]]>` begins its three bytes stand
pub close_reads : (s : List ℕ) (k : ℕ) → BeginsClose (drop k s) → (get_or s k 0 ≡ 93) × (get_or s (k + 1) 0 ≡ 93) × (get_or s (k + 2) 0 ≡ 62)
close_reads s k h =
    let at = at_reads 0 s (codes "]]>") k h.0 h.1 in
    let zero : k + 0 ≡ k = omega arith in
    (rw zero at (at 0 (omega arith)), at 1 (omega arith), at 2 (omega arith))

close_fits : (s : List ℕ) (k : ℕ) → get_or s (k + 2) 0 ≡ 62 → k + 3 ≤ length s
close_fits s k c =
    elim (cases_lt (k + 2) (length s)) [
      | inl inside ↦ omega arith
      | inr end ↦
          let e : get_or s (k + 2) 0 ≡ 0 = get_or_past s (k + 2) 0 end in
          absurd (omega arith)
    ]

pub close_from_reads : (s : List ℕ) (k : ℕ) → k + 3 ≤ length s → get_or s k 0 ≡ 93 → get_or s (k + 1) 0 ≡ 93 → get_or s (k + 2) 0 ≡ 62 → BeginsClose (drop k s)
close_from_reads s k fits a b c =
    (drop (k + 3) s, at_from_reads 0 s (codes "]]>") k fits (λ i h. close_byte s k a b c i h))

-- an end before m is the same in the first m bytes
reads_below : (s : List ℕ) (m i b : ℕ) → i < m → get_or s i 0 ≡ b → get_or (take m s) i 0 ≡ b
reads_below s m i b h e = let at : i < m = h in rw get_or-take e

pub no_delimiter : (b : ℕ) → b ≢ 60 → b ≢ 38 → IsDelimiter b → ⊥
no_delimiter b less and (inl e) = less e
no_delimiter b less and (inr e) = and e

cut_inside : (s : List ℕ) (m k : ℕ) → k < m → m ≤ k + 2 → IsDelimiter (get_or s m 0) → get_or s (k + 1) 0 ≡ 93 → get_or s (k + 2) 0 ≡ 62 → ⊥
cut_inside s m k below past delimiter b c =
    elim (cases_eq m (k + 1)) [
      | inl e ↦ let read : get_or s m 0 ≡ 93 = rw e b in no_delimiter 93 (omega arith) (omega arith) (rw read at delimiter)
      | inr ne ↦
          let e : m ≡ k + 2 = omega arith in
          let read : get_or s m 0 ≡ 62 = rw e c in
          no_delimiter 62 (omega arith) (omega arith) (rw read at delimiter)
    ]

-- `]]>` doesn't begin before a delimiter, or the end of the text, and end behind it
pub cut_close : (s : List ℕ) (m k : ℕ) → m ≤ length s → k < m → m ≤ k + 2 → (m < length s → IsDelimiter (get_or s m 0)) → get_or s (k + 1) 0 ≡ 93 → get_or s (k + 2) 0 ≡ 62 → ⊥
cut_close s m k within below past delimits b c =
    elim (cases_lt m (length s)) [
      | inl inside ↦ cut_inside s m k below past (delimits inside) b c
      | inr end ↦
          let e : get_or s (k + 2) 0 ≡ 0 = get_or_past s (k + 2) 0 (omega arith) in
          absurd (omega arith)
    ]

-- a shorter text has no `]]>` that the text lacks, and where a delimiter ends it the text has none that it lacks
no_close_in : (s : List ℕ) (m n : ℕ) → m ≤ length s → n ≤ m → (m < length s → IsDelimiter (get_or s m 0)) → NoCloseBelow n (take m s) → NoCloseBelow n s
no_close_in s m n within le delimits none k below closes =
    let reads = close_reads s k closes in
    elim (cases_lt (k + 2) m) [
      | inl inside ↦
          none k below (close_from_reads (take m s) k (omega (arith, length-take-le m s within)) (reads_below s m k 93 (omega arith) reads.0) (reads_below s m (k + 1) 93 (omega arith) reads.1) (reads_below s m (k + 2) 62 inside reads.2))
      | inr past ↦ absurd (cut_close s m k within (omega arith) past delimits reads.1 reads.2)
    ]

occurs : (s : List ℕ) (k : ℕ) → BeginsClose (drop k s) → OccursAt s (codes "]]>") k
occurs s k closes = record {
  fits = close_fits s k (close_reads s k closes).2;
  reads = at_reads 0 s (codes "]]>") k closes.0 closes.1;
}

pub first_close : (s : List ℕ) (r : Option ℕ) (n : ℕ) → FindsNeedle s (codes "]]>") 0 r → n ≡ unwrap_or r (length s) → IsFirstClose s n
first_close s None n none e = rw e (record {
  within = le_refl _;
  unclosed = λ k below closes. none k (omega arith) (omega arith) (occurs s k closes);
  stops = λ h. absurd (omega arith);
})
first_close s (Some k) n found e = rw e (record {
  within = omega (arith, found.1.fits);
  unclosed = λ i below closes. found.0.before i (omega arith) below (occurs s i closes);
  stops = λ _. (drop (k + 3) s, at_from_reads 0 s (codes "]]>") k found.1.fits found.1.reads);
})

-- what begins a part of the text begins what follows there
pub drop_longer : (s : List ℕ) (n i : ℕ) → i ≤ length (take n s) → drop i s ≡ drop i (take n s) ++ drop n s
drop_longer s n i le = ap (drop i) (sym (take-append-drop n s)) ∙ drop-append-le i (take n s) (drop n s) le

longer_front : (x p r t : List ℕ) → x ≡ p ++ r → x ++ t ≡ p ++ (r ++ t)
longer_front x p r t e = ap (λ y. y ++ t) e ∙ append_assoc p r t

-- the steps of data_len
pub first_data : (s : List ℕ) (m n i : ℕ) → IsFirstDelimiter s m → IsFirstClose (take m s) n → AreFirstChars (take n s) i → IsFirstData s i
first_data s m n i d c a =
    let dw = d.within in
    let cw : n ≤ length (take m s) = c.within in
    let aw : i ≤ length (take n s) = a.within in
    let lm = length-take-le m s d.within in
    let nm : n ≤ m = omega arith in
    let ln = length-take-le n s (omega arith) in
    let in_ : i ≤ n = omega arith in
    record {
      within = omega arith;
      chars = subst (NoCharPasses is_no_char) (take-take i n s in_) a.chars;
      plain = λ j below. d.plain j (omega arith);
      unclosed = λ k below. no_close_in s m n dw nm d.stops c.unclosed k (omega arith);
      stops = λ more. elim (cases_lt i n) [
        | inl inside ↦
            let no = a.stops (omega arith) in
            inr (inr (no.0, no.1 ++ drop n s, drop_longer s n i aw ∙ longer_front (drop i (take n s)) (encode_utf8 no.0) no.1 (drop n s) no.2, no.3))
        | inr end ↦
            let e : i ≡ n = omega arith in
            rw e (elim (cases_lt n m) [
              | inl within ↦
                  let close = c.stops (omega arith) in
                  inr (inl (close.0 ++ drop m s, drop_longer s m n cw ∙ longer_front (drop n (take m s)) (codes "]]>") close.0 (drop m s) close.1))
              | inr all ↦
                  let f : n ≡ m = omega arith in
                  rw f (inl (d.stops (omega arith)))
            ])
      ];
    }

-- .. where the text before the delimiter was cut off
pub front_data : (s front inner : List ℕ) (m n i : ℕ) → front ≡ take m s → inner ≡ take n front → IsFirstDelimiter s m → IsFirstClose front n → AreFirstChars inner i → IsFirstData s i
front_data s front inner m n i is within d c a =
    let size : length front ≡ m = ap length is ∙ length-take-le m s d.within in
    let below : n ≤ m = omega (arith, c.within, size) in
    first_data s m n i d (subst (λ t. IsFirstClose t n) is c) (subst (λ t. AreFirstChars t i) (within ∙ ap (take n) is ∙ take-take n m s below) a)

-- bytes without a `]` hold no `]]>`
no_close_among : (t : List ℕ) → list_all is_data_byte t ≡ true → (k : ℕ) → ¬ BeginsClose (drop k t)
no_close_among t all k closes =
    let reads = close_reads t k closes in
    let fits = close_fits t k reads.2 in
    let fails : is_data_byte (get_or t k 0) ≡ false = ap is_data_byte reads.0 in
    let never : list_all is_data_byte t ≡ false = list_all_at is_data_byte t k 0 (omega (arith, fits)) fails in
    absurd (cc)

-- where each byte before the first delimiter passes the fast test, all of them are character data
pub sound_data : (s front : List ℕ) (m : ℕ) → front ≡ take m s → IsUtf8 front → IsFirstDelimiter s m → list_all is_data_byte front ≡ true → IsFirstData s (length front)
sound_data s front m is utf8 d all =
    let size : length (take m s) ≡ m = length-take-le m s d.within in
    let close : IsFirstClose (take m s) m = record { within = omega (arith, size); unclosed = λ k below. no_close_among (take m s) (subst (λ t. list_all is_data_byte t ≡ true) is all) k; stops = λ more. absurd (omega (arith, more, size)) } in
    let sound = sound_first_chars front utf8 (list_all_weaker is_data_byte is_sound_byte (λ b both. (and_parts _ _ both).0) front all) in
    let length_is : length front ≡ m = ap length is ∙ size in
    subst (IsFirstData s) (sym length_is) (first_data s m m m d close (subst (λ t. AreFirstChars t m) is (subst (AreFirstChars front) length_is sound)))
