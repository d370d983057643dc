-- Where a search for a byte ends, and what that cuts.
use Rattle.std.proofs.Common.{not, Option, Some, None, ◌≡◌, ◌∙◌, ℕ, suc, ◌<◌, ◌+◌, List, [], ◌∷◌, ◌++◌, take, drop, length, get_or, refl, sym, ap, subst, arith, true, false, Bool, inl, inr, append_assoc, length-append, eqb-true}
use Rattle.std.proofs.lemmas.Bool.{and_parts, and_from, not-false}
use Rattle.std.proofs.lemmas.Bool.Decides.{nat_tests}
use Rattle.std.proofs.lemmas.List.{take_at, drop_at}
use Rattle.std.proofs.lemmas.List.Sums.{position_or_len_is}
use Rattle.std.specs.List.{position_or_len}
use Rattle.std.specs.Option.{unwrap_or}
use Rattle.std.proofs.lemmas.Str.{IsCharBoundary-after_ascii}
use Rattle.std.specs.Str.{IsUtf8, IsCharBoundary}
use Rattle.xt_lex.proofs.Theorems.{boundary_at_stop}
use Rattle.memchr.specs.Find.{is_byte, IsFirstByte}
use Rattle.xt_value.specs.Tokens.{is_blank}
use Rattle.xt_value.specs.Parts.{lacks_all, is_semicolon, is_cr, is_break, is_ampersand, is_mark, Stops, IsCut}

fails : (b : Bool) → ¬ (b ≡ true) → b ≡ false
fails true never = absurd (never refl)
fails false never = refl

pub first_place : (test : ℕ → Bool) (text : List ℕ) (r : Option ℕ) → IsFirstByte test text r → position_or_len test text ≡ unwrap_or r (length text)
first_place test text None none =
    position_or_len_is test text (length text) 0 (omega arith) (λ k below. fails _ (none k (omega arith) below)) (λ past. absurd (omega arith))
first_place test text (Some k) found =
    let inside : k < length text = found.0.high in
    position_or_len_is test text k 0 (omega arith) (λ i below. fails _ (found.0.before i (omega arith) below)) (λ past. found.1)

-- what a search in the bytes of a text answers
pub place_of_text : (test : ℕ → Bool) (text bytes : List ℕ) (r : Option ℕ) (n : ℕ) → bytes ≡ text → IsFirstByte test bytes r → n ≡ unwrap_or r (length text) → n ≡ position_or_len test text
place_of_text test text bytes r n same found is = is ∙ sym (first_place test text r (subst (λ (l : List ℕ). IsFirstByte test l r) same found))

-- what ends a part is ASCII, so the text may be cut there
pub cr_ascii : (b : ℕ) → is_cr b ≡ true → b < 128
cr_ascii b is = grind (arith, nat_tests)

pub break_ascii : (b : ℕ) → is_break b ≡ true → b < 128
break_ascii b is = grind (arith, nat_tests)

pub blank_ascii : (b : ℕ) → is_blank b ≡ true → b < 128
blank_ascii b is = grind (arith, nat_tests)

pub ampersand_ascii : (b : ℕ) → is_ampersand b ≡ true → b < 128
ampersand_ascii b is = grind (arith, nat_tests)

pub mark_ascii : (b : ℕ) → is_mark b ≡ true → b < 128
mark_ascii b is = grind (arith, nat_tests)

pub may_cut : (p : ℕ → Bool) (text : List ℕ) (n : ℕ) → ((b : ℕ) → p b ≡ true → b < 128) → n ≡ position_or_len p text → IsCharBoundary text n
may_cut p text n ascii is = rw is (boundary_at_stop (λ b. not (p b)) text (λ b lacks. ascii b (not-false (p b) lacks)))

-- .. and behind a `;`
pub may_cut_behind : (text : List ℕ) (k : ℕ) → IsUtf8 text → IsFirstByte (is_byte 0x3B) text (Some k) → IsCharBoundary text (k + 1)
may_cut_behind text k utf8 found =
    let reads : get_or text k 0 ≡ 0x3B = eqb-true _ 0x3B found.1 in
    IsCharBoundary-after_ascii text k utf8 found.0.high (omega arith)

one_more : (n : ℕ) → 1 + n ≡ suc n
one_more n = omega arith

-- a text is cut at the first place that passes
place_cuts : (p : ℕ → Bool) (text : List ℕ) → IsCut p text (take (position_or_len p text) text) (drop (position_or_len p text) text)
place_cuts p [] = record { joined = refl; lacks = refl; stops = inl refl }
place_cuts p (x ∷ text) = by (p x) refl (place_cuts p text)
  where
    by : (t : Bool) → t ≡ p x → IsCut p text (take (position_or_len p text) text) (drop (position_or_len p text) text)
        → IsCut p (x ∷ text) (take (position_or_len p (x ∷ text)) (x ∷ text)) (drop (position_or_len p (x ∷ text)) (x ∷ text))
    by true e ih = let here : position_or_len p (x ∷ text) ≡ 0 = rw (← e) refl in rw here (record { joined = refl; lacks = refl; stops = inr (x, text, refl, sym e) })
    by false e ih =
        let there : position_or_len p (x ∷ text) ≡ suc (position_or_len p text) = rw (← e) (one_more _) in
        let first : not (p x) ≡ true = rw (← e) refl in
        rw there (record { joined = ap (λ (l : List ℕ). x ∷ l) ih.joined; lacks = and_from _ _ first ih.lacks; stops = ih.stops })

pub cut_at : (p : ℕ → Bool) (text front rest : List ℕ) (n : ℕ) → n ≡ position_or_len p text → front ≡ take n text → rest ≡ drop n text → IsCut p text front rest
cut_at p text front rest n at first last =
    let cut = place_cuts p text in
    subst (λ (l : List ℕ). IsCut p text front l) (ap (λ (k : ℕ). drop k text) (sym at) ∙ sym last) (subst (λ (l : List ℕ). IsCut p text l (drop (position_or_len p text) text)) (ap (λ (k : ℕ). take k text) (sym at) ∙ sym first) cut)

passes_and_lacks : (b : Bool) → b ≡ true → not b ≡ true → ⊥
passes_and_lacks true is lacks = let bad : false ≡ true = lacks in absurd (cc)
passes_and_lacks false is lacks = absurd (cc)

-- .. and at no other
pub cut_unique : (p : ℕ → Bool) (x y r s : List ℕ) → lacks_all p x ≡ true → lacks_all p y ≡ true → Stops p r → Stops p s → x ++ r ≡ y ++ s → (x ≡ y) × (r ≡ s)
cut_unique p [] [] r s a b e f same = (refl, same)
cut_unique p [] (c ∷ y) r s a b (inl e) f same = let bad = sym e ∙ same in absurd (cc)
cut_unique p [] (c ∷ y) r s a b (inr (d, behind, e, is)) f same =
    let begins = sym e ∙ same in
    let first : c ≡ d = cc in
    absurd (passes_and_lacks (p c) (ap p first ∙ is) (and_parts _ _ b).0)
cut_unique p (c ∷ x) [] r s a b e (inl f) same = let bad = same ∙ f in absurd (cc)
cut_unique p (c ∷ x) [] r s a b e (inr (d, behind, f, is)) same =
    let begins = same ∙ f in
    let first : c ≡ d = cc in
    absurd (passes_and_lacks (p c) (ap p first ∙ is) (and_parts _ _ a).0)
cut_unique p (c ∷ x) (d ∷ y) r s a b e f same =
    let first : c ≡ d = cc in
    let others : x ++ r ≡ y ++ s = cc in
    let rest = cut_unique p x y r s (and_parts _ _ a).1 (and_parts _ _ b).1 e f others in
    (let whole : ◌≡◌ {A = List ℕ} (c ∷ x) (d ∷ y) = ap (λ (n : ℕ). n ∷ x) first ∙ ap (λ (l : List ℕ). d ∷ l) rest.0 in whole, rest.1)

-- the first place that passes is that of the first byte behind a front in which none does
place_behind : (p : ℕ → Bool) (front : List ℕ) (b : ℕ) (rest : List ℕ) → lacks_all p front ≡ true → p b ≡ true → position_or_len p (front ++ b ∷ rest) ≡ length front
place_behind p [] b rest none is = rw is refl
place_behind p (x ∷ front) b rest none is =
    let both = and_parts (not (p x)) (lacks_all p front) none in
    rw both.0 (rw (place_behind p front b rest both.1 is) (omega arith))

-- a text cut behind its first `;`
pub cut_behind : (text front rest : List ℕ) (k : ℕ) → IsFirstByte (is_byte 0x3B) text (Some k) → lacks_all is_semicolon front ≡ true → text ≡ front ++ 0x3B ∷ rest
    → (take (k + 1) text ≡ front ++ 0x3B ∷ []) × (drop (k + 1) text ≡ rest)
cut_behind text front rest k found none is =
    let place : k ≡ length front = sym (first_place (is_byte 0x3B) text (Some k) found) ∙ ap (position_or_len (is_byte 0x3B)) is ∙ place_behind is_semicolon front 0x3B rest none refl in
    let regroup : text ≡ (front ++ 0x3B ∷ []) ++ rest = is ∙ sym (append_assoc front (0x3B ∷ []) rest) in
    let size_front : length (front ++ 0x3B ∷ []) ≡ length front + 1 = length-append front (0x3B ∷ []) in
    let cut : k + 1 ≡ length (front ++ 0x3B ∷ []) = omega arith in
    rw regroup (rw cut (take_at (front ++ 0x3B ∷ []) rest _ refl, drop_at (front ++ 0x3B ∷ []) rest _ refl))

pub never_cut : (text front rest : List ℕ) → IsFirstByte (is_byte 0x3B) text None → text ≡ front ++ 0x3B ∷ rest → ⊥
never_cut text front rest none is =
    let size : length text ≡ length front + suc (length rest) = ap length is ∙ length-append front (0x3B ∷ rest) in
    let reads : get_or text (length front) 0 ≡ 0x3B = ap (λ (l : List ℕ). get_or l (length front) 0) is ∙ at front in
    none (length front) (omega arith) (omega arith) (rw reads refl)
  where
    at : (front : List ℕ) → get_or (front ++ 0x3B ∷ rest) (length front) 0 ≡ 0x3B
    at [] = refl
    at (x ∷ front) = at front
