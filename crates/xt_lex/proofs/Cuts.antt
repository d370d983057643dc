-- A text up to the first place where a needle stands in it.
use Rattle.std.proofs.Common.{zero, suc, ◌≡◌, ◌≢◌, ℕ, ◌+◌, ◌-◌, ◌<◌, List, [], ◌∷◌, ◌++◌, length, get_or, take, drop, Bool, true, false, not, ◌&&◌, eqb, ltb-true, lt-ltb, refl, ap, sym, subst, ◌∙◌, arith, inl, inr, Option, Some, None, encode_utf8_all}
use Rattle.std.proofs.lemmas.Bool.{cases_Bool, and_parts, and_from, both_ways, not_from_false, not-true}
use Rattle.std.proofs.lemmas.List.{length-append, length-drop}
use Rattle.std.proofs.lemmas.List.Prefix.{at_reads, at_from_reads}
use Rattle.std.proofs.lemmas.Str.{IsCharBoundary-after_ascii, chars-encodes, encodes-chars}
use Rattle.std.specs.List.{list_all}
use Rattle.std.specs.Str.{IsUtf8, IsCharBoundary, chars}
use Rattle.memchr.specs.Find.{FindsNeedle, OccursAt}
use lib.Utf8.{scalars}
use Rattle.xt_spec.specs.Char.{is_char}
use Rattle.xt_spec.specs.Markup.{begins, lacks, AreChars}
use Rattle.xt_lex.specs.Fast.{is_ending}
use Rattle.xt_lex.specs.Scan.{after_all, cut_either, cut, are_chars, after_chars}
use Rattle.xt_lex.proofs.Spelling.{encode_small, list_all_behind, strip}
use Rattle.xt_lex.proofs.StepLemmas.{bind_some}
use Rattle.xt_lex.proofs.Utf8.{char_scalar}
pub use Rattle.xt_scan.proofs.Theorems.{after_all_takes, after_all_again, stripped, after_all_is, front_utf8}

none_by : (needle s : List ℕ) → ((rest : List ℕ) → s ≢ needle ++ rest) → (o : Option (List ℕ)) → after_all needle s ≡ o → None ≡ o
none_by needle s h None e = refl
none_by needle s h (Some r) e = absurd (h r (after_all_takes needle s r e))

-- the needle stands at the place k, and r follows it
abbrev StandsAt : List ℕ → List ℕ → ℕ → List ℕ → Type 0
StandsAt needle s k r = drop k s ≡ needle ++ r

abbrev StandsBelow : List ℕ → List ℕ → ℕ → Type 0
StandsBelow needle s k = (j : ℕ) (t : List ℕ) → j < k → StandsAt needle s j t → ⊥

cut_later : (needle s : List ℕ) (b : ℕ) (bs a r : List ℕ) → s ≡ b ∷ bs → ((t : List ℕ) → s ≡ needle ++ t → ⊥) → cut needle bs ≡ Some (a, r) → (o : Option (List ℕ)) → after_all needle s ≡ o → cut_either b (cut needle bs) o ≡ Some (b ∷ a, r)
cut_later needle s b bs a r e none found None h = rw found refl
cut_later needle s b bs a r e none found (Some t) h = absurd (none t (after_all_takes needle s t h))

pub cut_at : (needle s : List ℕ) (k : ℕ) (r : List ℕ) → 0 < length needle → StandsAt needle s k r → StandsBelow needle s k → cut needle s ≡ Some (take k s, r)
cut_at needle [] k r some at none = absurd (omega (arith, ap length at, length-append needle r, length-drop {A = ℕ} k []))
cut_at needle (b ∷ bs) zero r some at none =
    let found : after_all needle (b ∷ bs) ≡ Some r = ap (after_all needle) at ∙ after_all_again needle r in
    rw found refl
cut_at needle (b ∷ bs) (suc k) r some at none =
    cut_later needle (b ∷ bs) b bs (take k bs) r refl (λ t e. none 0 t (omega arith) e) (cut_at needle bs k r some at (λ j t below e. none (suc j) t (omega arith) e)) (after_all needle (b ∷ bs)) refl

cut_nowhere : (needle s : List ℕ) (b : ℕ) (bs : List ℕ) → s ≡ b ∷ bs → ((t : List ℕ) → s ≡ needle ++ t → ⊥) → cut needle bs ≡ None → (o : Option (List ℕ)) → after_all needle s ≡ o → cut_either b (cut needle bs) o ≡ None
cut_nowhere needle s b bs e none found None h = rw found refl
cut_nowhere needle s b bs e none found (Some t) h = absurd (none t (after_all_takes needle s t h))

pub cut_none : (needle s : List ℕ) → ((j : ℕ) (t : List ℕ) → StandsAt needle s j t → ⊥) → cut needle s ≡ None
cut_none needle [] none = refl
cut_none needle (b ∷ bs) none = cut_nowhere needle (b ∷ bs) b bs refl (λ t e. none 0 t e) (cut_none needle bs (λ j t e. none (suc j) t e)) (after_all needle (b ∷ bs)) refl

-- the same of what a search answers
stands_occurs : (needle s : List ℕ) (k : ℕ) (t : List ℕ) → 0 < length needle → StandsAt needle s k t → OccursAt s needle k
stands_occurs needle s k t some at = record {
  fits = omega (arith, ap length at, length-append needle t, length-drop k s);
  reads = at_reads 0 s needle k t at;
}

ending_some : (needle : List ℕ) → is_ending needle ≡ true → 0 < length needle
ending_some [] h = absurd (cc)
ending_some (b ∷ bs) h = omega arith

pub cut_found : (needle s : List ℕ) (k : ℕ) → is_ending needle ≡ true → FindsNeedle s needle 0 (Some k) → cut needle s ≡ Some (take k s, drop (k + length needle) s)
cut_found needle s k ends found =
    let some = ending_some needle ends in
    cut_at needle s k (drop (k + length needle) s) some (at_from_reads 0 s needle k found.1.fits found.1.reads) (λ j t below at. found.0.before j (omega arith) below (stands_occurs needle s j t some at))

pub cut_missed : (needle s : List ℕ) → is_ending needle ≡ true → FindsNeedle s needle 0 None → cut needle s ≡ None
cut_missed needle s ends none =
    let some = ending_some needle ends in
    cut_none needle s (λ j t at. let occurs = stands_occurs needle s j t some at in let fits = occurs.fits in none j (omega arith) (omega arith) occurs)

ending_ascii : (needle : List ℕ) (i : ℕ) → is_ending needle ≡ true → i < length needle → get_or needle i 0 < 128
ending_ascii [] i h within = absurd (cc)
ending_ascii (b ∷ bs) zero h within = ltb-true b 128 (and_parts _ _ h).0
ending_ascii (b ∷ []) (suc i) h within = absurd (omega arith)
ending_ascii (b ∷ c ∷ bs) (suc i) h within = ending_ascii (c ∷ bs) i (and_parts _ _ h).1 (omega arith)

pub cut_behind : (needle s : List ℕ) (k : ℕ) → is_ending needle ≡ true → IsUtf8 s → OccursAt s needle k → IsCharBoundary s (k + length needle)
cut_behind needle s k ends u occurs =
    let some = ending_some needle ends in
    let fits = occurs.fits in
    let last = length needle in
    let read : get_or s (k + (length needle - 1)) 0 ≡ get_or needle (length needle - 1) 0 = occurs.reads (length needle - 1) (omega arith) in
    let small = ending_ascii needle (length needle - 1) ends (omega arith) in
    let same : k + (length needle - 1) + 1 ≡ k + length needle = omega arith in
    subst (IsCharBoundary s) same (IsCharBoundary-after_ascii s (k + (length needle - 1)) u (omega arith) (omega arith))

-- the needle begins nowhere in front, where the tail follows
abbrev pub is_fresh : List ℕ → List ℕ → List ℕ → Bool
is_fresh needle [] tail = true
is_fresh needle (b ∷ front) tail = not (begins needle (b ∷ (front ++ tail))) && is_fresh needle front tail

begins_after : (needle s : List ℕ) → begins needle s ≡ true → (r : List ℕ) × (after_all needle s ≡ Some r)
begins_after [] s h = (s, refl)
begins_after (c ∷ cs) [] h = absurd (cc)
begins_after (c ∷ cs) (b ∷ bs) h =
    let both = and_parts _ _ h in
    let first : eqb b c ≡ true = both.0 in
    rw first (begins_after cs bs both.1)

pub no_after : (needle s : List ℕ) → begins needle s ≡ false → after_all needle s ≡ None
no_after [] s h = absurd (cc)
no_after (c ∷ cs) [] h = refl
no_after (c ∷ cs) (b ∷ bs) h =
    elim (cases_Bool (eqb b c)) [
      | inl e ↦ rw e (no_after cs bs (rw e at h))
      | inr e ↦ rw e refl
    ]

pub after_begins : (needle s : List ℕ) → after_all needle s ≡ None → begins needle s ≡ false
after_begins needle s h =
    elim (cases_Bool (begins needle s)) [
      | inl e ↦ let found = begins_after needle s e in let bad : None ≡ Some found.0 = sym h ∙ found.1 in absurd (cc)
      | inr e ↦ e
    ]

pub cut_fresh_again : (needle front r : List ℕ) → 0 < length needle → is_fresh needle front (needle ++ r) ≡ true → cut needle (front ++ (needle ++ r)) ≡ Some (front, r)
cut_fresh_again [] [] r some h = absurd (omega arith)
cut_fresh_again (c ∷ cs) [] r some h = let found = after_all_again (c ∷ cs) r in rw found refl
cut_fresh_again needle (b ∷ front) r some h =
    let both = and_parts _ _ h in
    let none = no_after needle (b ∷ (front ++ (needle ++ r))) (not-true _ both.0) in
    let rest = cut_fresh_again needle front r some both.1 in
    rw none (rw rest refl)

-- what cut found
abbrev IsCut : List ℕ → List ℕ → List ℕ → List ℕ → Type 0
IsCut needle s front r = (s ≡ front ++ (needle ++ r)) × (is_fresh needle front (needle ++ r) ≡ true)

cut_by : (needle : List ℕ) (b : ℕ) (bs front r : List ℕ) → ((a x : List ℕ) → cut needle bs ≡ Some (a, x) → IsCut needle bs a x) → (o : Option (List ℕ)) → after_all needle (b ∷ bs) ≡ o → (p : Option (List ℕ × List ℕ)) → cut needle bs ≡ p → cut_either b p o ≡ Some (front, r) → IsCut needle (b ∷ bs) front r
cut_by needle b bs front r ih None e None f h = absurd (cc)
cut_by needle b bs front r ih None e (Some x) f h =
    let same : ◌≡◌ {A = List ℕ × List ℕ} (b ∷ x.0, x.1) (front, r) = cc in
    let rest = ih x.0 x.1 f in
    let text : b ∷ bs ≡ (b ∷ x.0) ++ (needle ++ x.1) = ap (λ t. b ∷ t) rest.0 in
    let none : begins needle (b ∷ (x.0 ++ (needle ++ x.1))) ≡ false = ap (begins needle) (sym text) ∙ after_begins needle (b ∷ bs) e in
    let fresh : is_fresh needle (b ∷ x.0) (needle ++ x.1) ≡ true = and_from _ _ (not_from_false _ none) rest.1 in
    subst (λ p. IsCut needle (b ∷ bs) p.0 p.1) same (text, fresh)
cut_by needle b bs front r ih (Some t) e p f h =
    let same : ◌≡◌ {A = List ℕ × List ℕ} ([], t) (front, r) = cc in
    subst (λ p. IsCut needle (b ∷ bs) p.0 p.1) same (after_all_takes needle (b ∷ bs) t e, refl)

pub cut_takes : (needle s front r : List ℕ) → cut needle s ≡ Some (front, r) → IsCut needle s front r
cut_takes needle [] front r h = absurd (cc)
cut_takes needle (b ∷ bs) front r h = cut_by needle b bs front r (λ a x e. cut_takes needle bs a x e) (after_all needle (b ∷ bs)) refl (cut needle bs) refl h

all_scalars : (cs : List ℕ) → list_all is_char cs ≡ true → scalars cs ≡ true
all_scalars [] h = refl
all_scalars (c ∷ cs) h =
    let both = and_parts _ _ h in
    and_from _ _ (char_scalar c both.0) (all_scalars cs both.1)

pub chars_utf8 : (t : List ℕ) → AreChars t → IsUtf8 t
chars_utf8 t (cs, e, h) = (cs, (all_scalars cs h, e))

pub chars_from_test : (t : List ℕ) → IsUtf8 t → are_chars t ≡ true → AreChars t
chars_from_test t u h = (chars t, encodes-chars t u, h)

pub test_from_chars : (t : List ℕ) → AreChars t → are_chars t ≡ true
test_from_chars t (cs, e, h) =
    let read : chars t ≡ cs = ap chars (sym e) ∙ chars-encodes cs (all_scalars cs h) in
    ap (list_all is_char) read ∙ h

-- what is fresh lacks the needle
pub begins_longer : (needle s t : List ℕ) → begins needle s ≡ true → begins needle (s ++ t) ≡ true
begins_longer [] s t h = refl
begins_longer (c ∷ cs) [] t h = absurd (cc)
begins_longer (c ∷ cs) (b ∷ bs) t h =
    let both = and_parts _ _ h in
    and_from _ _ both.0 (begins_longer cs bs t both.1)

pub lacks_from_fresh : (needle front tail : List ℕ) → is_fresh needle front tail ≡ true → lacks needle front ≡ true
lacks_from_fresh needle [] tail h = refl
lacks_from_fresh needle (b ∷ front) tail h =
    let both = and_parts _ _ h in
    let shorter : begins needle (b ∷ front) ≡ false = elim (cases_Bool (begins needle (b ∷ front))) [
      | inl e ↦ absurd (both_ways _ (not-true _ both.0) (begins_longer needle (b ∷ front) tail e))
      | inr e ↦ e
    ] in
    and_from _ _ (not_from_false _ shorter) (lacks_from_fresh needle front tail both.1)

-- a needle that begins in a front that lacks it, if ever, only in the needle behind
abbrev pub Stays : List ℕ → Type 0
Stays needle = (b : ℕ) (front r : List ℕ) → begins needle (b ∷ (front ++ (needle ++ r))) ≡ begins needle (b ∷ front)

pub fresh_from_lacks : (needle front r : List ℕ) → Stays needle → lacks needle front ≡ true → is_fresh needle front (needle ++ r) ≡ true
fresh_from_lacks needle [] r stays h = refl
fresh_from_lacks needle (b ∷ front) r stays h =
    let both = and_parts _ _ h in
    and_from _ _ (ap not (stays b front r) ∙ both.0) (fresh_from_lacks needle front r stays both.1)

-- Chars and what ends them
pub after_chars_takes : (c : ℕ) (cs s r : List ℕ) → c < 128 → IsUtf8 s → after_chars (c ∷ cs) s ≡ Some r → (inner : List ℕ) × AreChars inner × (is_fresh (c ∷ cs) inner ((c ∷ cs) ++ r) ≡ true) × (s ≡ inner ++ ((c ∷ cs) ++ r))
unfolding after_chars
after_chars_takes c cs s r small u h =
    let found = bind_some (cut (c ∷ cs) s) _ _ h in
    let is = cut_takes (c ∷ cs) s found.0.0 found.0.1 found.1 in
    let text = front_utf8 found.0.0 c (cs ++ found.0.1) small (subst IsUtf8 is.0 u) in
    elim (cases_Bool (are_chars found.0.0)) [
      | inl e ↦
          let rest : Some found.0.1 ≡ Some r = rw e at found.2 in
          let same : found.0.1 ≡ r = cc in
          (found.0.0, chars_from_test found.0.0 text e, subst (λ r. is_fresh (c ∷ cs) found.0.0 ((c ∷ cs) ++ r) ≡ true) same is.1, is.0 ∙ ap (λ r. found.0.0 ++ ((c ∷ cs) ++ r)) same)
      | inr e ↦ let none : None ≡ Some r = rw e at found.2 in absurd (cc)
    ]

pub after_chars_again : (needle inner r : List ℕ) → 0 < length needle → AreChars inner → is_fresh needle inner (needle ++ r) ≡ true → after_chars needle (inner ++ (needle ++ r)) ≡ Some r
unfolding after_chars
after_chars_again needle inner r some chars_ fresh =
    let found = cut_fresh_again needle inner r some fresh in
    let test = test_from_chars inner chars_ in
    rw found (rw test refl)

-- a search in the bytes of a text is one in the text
pub found_at : (s needle t u : List ℕ) (r : Option ℕ) → t ≡ s → u ≡ needle → FindsNeedle t u 0 r → FindsNeedle s needle 0 r
found_at s needle t u r e f h = subst (λ u. FindsNeedle s u 0 r) f (subst (λ t. FindsNeedle t u 0 r) e h)

-- Chars behind one of ASCII
pub chars_behind : (b : ℕ) (bs : List ℕ) → b < 128 → AreChars (b ∷ bs) → AreChars bs
chars_behind b bs small (cs, e, h) =
    let first : encode_utf8_all (b ∷ []) ≡ b ∷ [] = encode_small (b ∷ []) (and_from _ _ (lt-ltb b 128 small) refl) in
    let rest = strip cs (b ∷ []) bs (e ∙ ap (λ t. t ++ bs) (sym first)) in
    (rest.0, rest.2, list_all_behind is_char (b ∷ []) rest.0 (subst (λ cs. list_all is_char cs ≡ true) rest.1 h))
