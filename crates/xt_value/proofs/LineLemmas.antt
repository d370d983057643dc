-- Line ends as read, and white space as a space.
use Rattle.std.proofs.Common.{◌≡◌, ◌∙◌, ◌==◌, ℕ, ◌<◌, ◌≤◌, Bool, true, false, not, List, [], ◌∷◌, ◌++◌, map, length, get_or, inl, inr, ◌⊎◌, refl, sym, ap, subst, arith, append_assoc}
use Rattle.std.proofs.lemmas.Bool.{and_parts}
use Rattle.std.proofs.lemmas.Bool.Decides.{nat_tests}
use Rattle.std.proofs.lemmas.Str.{IsCharBoundary-after_ascii}
use Rattle.std.specs.Char.{is_ascii}
use Rattle.std.specs.Str.{IsUtf8, IsCharBoundary}
use Rattle.xt_spec.specs.LineEnds.{lines_read, lines_read_behind}
use Rattle.xt_spec.specs.Value.{spaced}
use Rattle.xt_value.specs.Parts.{is_cr, is_break, lacks_all, broken, Stops, IsCut}

one : (b : ℕ) (bytes others : List ℕ) → not (is_cr b) ≡ true → lines_read bytes ≡ others → lines_read (b ∷ bytes) ≡ b ∷ others
one b bytes others plain is = grind (arith, nat_tests)

-- a front without CR is read as it is
pub no_cr_line : (line tail : List ℕ) → lacks_all is_cr line ≡ true → lines_read (line ++ tail) ≡ line ++ lines_read tail
no_cr_line [] tail none = refl
no_cr_line (b ∷ line) tail none =
    let both = and_parts (not (is_cr b)) (lacks_all is_cr line) none in
    one b (line ++ tail) (line ++ lines_read tail) both.0 (no_cr_line line tail both.1)

no_break : (b : ℕ) → not (is_break b) ≡ true → (not (is_cr b) ≡ true) × (spaced b ≡ b)
no_break b is = (grind (arith, nat_tests), grind (arith, nat_tests))

head_same : (b c : ℕ) (xs ys : List ℕ) → b ≡ c → xs ≡ ys → b ∷ xs ≡ c ∷ ys
head_same b c xs ys e f = cc

-- .. and one without white space but spaces
pub no_break_word : (word tail : List ℕ) → lacks_all is_break word ≡ true → map spaced (lines_read (word ++ tail)) ≡ word ++ map spaced (lines_read tail)
no_break_word [] tail none = refl
no_break_word (b ∷ word) tail none =
    let both = and_parts (not (is_break b)) (lacks_all is_break word) none in
    let plain = no_break b both.0 in
    ap (map spaced) (one b (word ++ tail) (lines_read (word ++ tail)) plain.0 refl) ∙ head_same (spaced b) b _ _ plain.1 (no_break_word word tail both.1)

pub line_whole : (old new text line rest : List ℕ) → IsCut is_cr text line rest → new ≡ old ++ line → old ++ lines_read text ≡ new ++ lines_read rest
line_whole old new text line rest cut is =
    rw (← cut.joined) (ap (λ (l : List ℕ). old ++ l) (no_cr_line line rest cut.lacks) ∙ sym (append_assoc old line (lines_read rest)) ∙ ap (λ (l : List ℕ). l ++ lines_read rest) (sym is))

pub word_whole : (old new text word rest : List ℕ) → IsCut is_break text word rest → new ≡ old ++ word → old ++ map spaced (lines_read text) ≡ new ++ map spaced (lines_read rest)
word_whole old new text word rest cut is =
    rw (← cut.joined) (ap (λ (l : List ℕ). old ++ l) (no_break_word word rest cut.lacks) ∙ sym (append_assoc old word (map spaced (lines_read rest))) ∙ ap (λ (l : List ℕ). l ++ map spaced (lines_read rest)) (sym is))

-- a text may be cut behind an ASCII character in front
pub behind_first : (text bytes : List ℕ) → bytes ≡ text → IsUtf8 text → 1 ≤ length bytes → is_ascii (get_or bytes 0 0) ≡ true → IsCharBoundary text 1
behind_first text bytes same utf8 some ascii =
    let first : is_ascii (get_or text 0 0) ≡ true = subst (λ (l : List ℕ). is_ascii (get_or l 0 0) ≡ true) same ascii in
    let within : 0 < length text = subst (λ (l : List ℕ). 0 < length l) same (omega arith) in
    IsCharBoundary-after_ascii text 0 utf8 within (small _ first)
  where
    small : (b : ℕ) → is_ascii b ≡ true → b < 128
    small b is = grind (arith, nat_tests)

pub break_ascii : (b : ℕ) → is_break b ≡ true → b < 128
break_ascii b is = grind (arith, nat_tests)

equals : (b : ℕ) → (b == 0xA) ≡ true → b ≡ 0xA
equals b is = grind (arith, nat_tests)

-- behind a CR all is read as it would be alone, but for an LF in front
no_lf : (behind : List ℕ) → ((more : List ℕ) → behind ≡ 0xA ∷ more → ⊥) → lines_read_behind true behind ≡ lines_read behind
no_lf [] apart = refl
no_lf (b ∷ behind) apart = by (b == 0xA) refl
  where
    by : (t : Bool) → t ≡ (b == 0xA) → lines_read_behind true (b ∷ behind) ≡ lines_read (b ∷ behind)
    by true e = absurd (apart behind (ap (λ (n : ℕ). n ∷ behind) (equals b (sym e))))
    by false e = rw (← e) refl

kinds : (b : ℕ) → is_break b ≡ true → (b ≡ 0xD) ⊎ ((b ≡ 0xA) ⊎ (b ≡ 0x9))
kinds b is = by (b == 0xD) refl (b == 0xA) refl
  where
    by : (s : Bool) → s ≡ (b == 0xD) → (t : Bool) → t ≡ (b == 0xA) → (b ≡ 0xD) ⊎ ((b ≡ 0xA) ⊎ (b ≡ 0x9))
    by true e t f = inl (grind (arith, nat_tests))
    by false e true f = inr (inl (grind (arith, nat_tests)))
    by false e false f = inr (inr (grind (arith, nat_tests)))

pub break_alone : (text : List ℕ) (b : ℕ) (behind rest : List ℕ) → text ≡ b ∷ behind → is_break b ≡ true → ((more : List ℕ) → text ≡ 0xD ∷ 0xA ∷ more → ⊥) → rest ≡ behind
    → lines_read text ≡ broken b ∷ lines_read rest
break_alone text b behind rest begins is apart same = rw (begins, same) (by (kinds b is))
  where
    by : (b ≡ 0xD) ⊎ ((b ≡ 0xA) ⊎ (b ≡ 0x9)) → lines_read (b ∷ behind) ≡ broken b ∷ lines_read behind
    by (inl e) = rw e (ap (λ (l : List ℕ). 0xA ∷ l) (no_lf behind (λ more f. apart more (begins ∙ ap (λ (n : ℕ). n ∷ behind) e ∙ ap (λ (l : List ℕ). 0xD ∷ l) f))))
    by (inr (inl e)) = rw e refl
    by (inr (inr e)) = rw e refl

-- what is read behind a break
abbrev pub ReadsBreak : List ℕ → List ℕ → Type 0
ReadsBreak rest tail = (b : ℕ) (behind : List ℕ) → rest ≡ b ∷ behind → is_break b ≡ true → lines_read rest ≡ broken b ∷ lines_read tail

cr_breaks : (b : ℕ) → is_cr b ≡ true → (is_break b ≡ true) × (broken b ≡ 0xA)
cr_breaks b is = (grind (arith, nat_tests), grind (arith, nat_tests))

break_spaced : (b : ℕ) → is_break b ≡ true → spaced (broken b) ≡ 0x20
break_spaced b is = grind (arith, nat_tests)

nothing_left : (rest : List ℕ) → rest ≡ [] → (length rest == 0) ≡ false → ⊥
nothing_left rest is some = let none : (0 == 0) ≡ false = rw is at some in absurd (cc)

-- the line before a CR, and an LF for its end
pub line_and_end : (old mid new text line rest tail : List ℕ) → IsCut is_cr text line rest → (length rest == 0) ≡ false → mid ≡ old ++ line → new ≡ mid ++ 0xA ∷ [] → ReadsBreak rest tail
    → old ++ lines_read text ≡ new ++ lines_read tail
line_and_end old mid new text line rest tail cut some first second reads = by cut.stops
  where
    by : Stops is_cr rest → old ++ lines_read text ≡ new ++ lines_read tail
    by (inl none) = absurd (nothing_left rest none some)
    by (inr (b, behind, begins, is)) =
        let breaks = cr_breaks b is in
        let read : lines_read rest ≡ 0xA ∷ lines_read tail = reads b behind begins breaks.0 ∙ ap (λ (n : ℕ). n ∷ lines_read tail) breaks.1 in
        line_whole old mid text line rest cut first ∙ ap (λ (l : List ℕ). mid ++ l) read ∙ sym (append_assoc mid (0xA ∷ []) (lines_read tail)) ∙ ap (λ (l : List ℕ). l ++ lines_read tail) (sym second)

-- the characters before a break, and a space for it
pub word_and_space : (old mid new text word rest tail : List ℕ) → IsCut is_break text word rest → (length rest == 0) ≡ false → mid ≡ old ++ word → new ≡ mid ++ 0x20 ∷ [] → ReadsBreak rest tail
    → old ++ map spaced (lines_read text) ≡ new ++ map spaced (lines_read tail)
word_and_space old mid new text word rest tail cut some first second reads = by cut.stops
  where
    by : Stops is_break rest → old ++ map spaced (lines_read text) ≡ new ++ map spaced (lines_read tail)
    by (inl none) = absurd (nothing_left rest none some)
    by (inr (b, behind, begins, is)) =
        let read : map spaced (lines_read rest) ≡ 0x20 ∷ map spaced (lines_read tail) = ap (map spaced) (reads b behind begins is) ∙ ap (λ (n : ℕ). n ∷ map spaced (lines_read tail)) (break_spaced b is) in
        word_whole old mid text word rest cut first ∙ ap (λ (l : List ℕ). mid ++ l) read ∙ sym (append_assoc mid (0x20 ∷ []) (map spaced (lines_read tail))) ∙ ap (λ (l : List ℕ). l ++ map spaced (lines_read tail)) (sym second)
