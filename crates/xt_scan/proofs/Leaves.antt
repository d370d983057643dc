-- The laws of what forms are made of.
use Rattle.std.proofs.Common.{◌≡◌, ◌≢◌, ℕ, ◌<◌, List, [], ◌∷◌, ◌++◌, Bool, true, false, not, ◌||◌, ◌&&◌, eqb, ltb, refl, ap, sym, subst, IsTrue, ◌∙◌, arith, inl, inr, Option, Some, None, eqb-true, eq-eqb, append_assoc}
use Rattle.std.proofs.lemmas.Bool.{cases_Bool, and_parts, and_from, both_ways, or_cases, not-true}
use Rattle.std.proofs.lemmas.Bool.Decides.{nat_tests}
use Rattle.std.proofs.lemmas.List.{length-append, get_or_at, take_at}
use Rattle.std.proofs.lemmas.Str.{IsUtf8-append, IsUtf8-take, IsCharBoundary-before_ascii}
use Rattle.std.proofs.lemmas.Slice.Eq.{bytes_eq-Decides}
use Rattle.std.specs.List.{list_all}
use Rattle.std.specs.Str.{IsUtf8}
use Rattle.xt_spec.specs.Char.{is_space}
use Rattle.xt_spec.specs.Tag.{IsBlank, IsSpace, IsQuote}
use Rattle.xt_spec.specs.Declaration.{IsQuoted}
use Rattle.xt_scan.specs.Look.{Span, from_to, in_class, Look, sees_behind, sees, solid_in, spaced_any, spaced_by}
use Rattle.xt_scan.specs.Step.{take_while, drop_while, after_all}
use Rattle.xt_scan.specs.Form.{word, blank, read_space, space, piece, is_letter, letters, is_among, keyword, read_to_quote, read_quoted, tested, quoted, quoted_text, quoted_ascii, step, first_of_word}
use Rattle.xt_scan.proofs.Looks.{spaced_sees, not_spaced}
use Rattle.xt_scan.proofs.Steps.{bind_some, take_while_split, take_while_passes, Stops, take_while_again, stops_at, after_all_takes, after_all_again, ascii, ascii_take_while, all_weaker, blank_utf8, utf8_behind}
use Rattle.xt_scan.proofs.Laws.{Leads, Begins, Lawful, tested_some}

-- ---- these bytes: some, the first no white space, all ASCII
abbrev pub is_word : List ℕ → Bool
is_word [] = false
is_word (c ∷ cs) = not (is_space c) && list_all (λ b. ltb b 128) (c ∷ cs)

byte_in : (c : ℕ) → in_class (from_to c c ∷ []) c ≡ true
byte_in c = grind (arith, nat_tests)

word_leads : (w t : List ℕ) → is_word w ≡ true → t ≡ w → Leads false (λ l. solid_in (first_of_word w)) t
word_leads [] t h e = absurd (cc)
word_leads (c ∷ cs) t h e =
    let first : is_space c ≡ false = not-true _ (and_parts _ _ h).0 in
    inr (λ n. absurd (cc), λ l r i. rw e (rw first (byte_in c)))

word_seen : (w r : List ℕ) → is_word w ≡ true → sees (solid_in (first_of_word w)) (w ++ r) ≡ true
word_seen [] r h = absurd (cc)
word_seen (c ∷ cs) r h =
    let first : is_space c ≡ false = not-true _ (and_parts _ _ h).0 in
    rw first (byte_in c)

word_utf8 : (w : List ℕ) → is_word w ≡ true → IsUtf8 w
word_utf8 [] h = absurd (cc)
word_utf8 (c ∷ cs) h = ascii (c ∷ cs) (and_parts _ _ h).1

pub lawful_word : (w : List ℕ) → is_word w ≡ true → Lawful (word w)
lawful_word w h = record {
  takes = λ s v r u e.
      let x = bind_some (after_all w s) _ _ e in
      let same : ◌≡◌ {A = Unit {0} × List ℕ} (tt, x.0) (v, r) = cc (x.2) in
      (w, refl, after_all_takes w s x.0 x.1 ∙ ap (λ r. w ++ r) (ap (λ p. p.1) same));
  again = λ v t r s out. let found = after_all_again w r in rw s (rw found refl);
  begins = λ s v r e.
      let x = bind_some (after_all w s) _ _ e in
      inr (λ l i. subst (λ s. sees (solid_in (first_of_word w)) s ≡ true) (sym (after_all_takes w s x.0 x.1)) (word_seen w x.0 h));
  leads = λ v t s. word_leads w t h s;
  utf8 = λ v t s. subst IsUtf8 (sym s) (word_utf8 w h);
}

-- ---- white space

blank_leads : (t r : List ℕ) (l : Look) → IsBlank t → sees l r ≡ true → sees_behind (spaced_by l) (t ++ r) ≡ true
blank_leads [] r l h i = spaced_sees l r i
blank_leads (b ∷ bs) r l h i =
    let both = and_parts _ _ h in
    let first : is_space b ≡ true = both.0 in
    rw first (blank_leads bs r l both.1 i)

some_blank : (t : List ℕ) → IsBlank t → t ≢ [] → (l : Look) (r : List ℕ) → sees l r ≡ true → sees (spaced_by l) (t ++ r) ≡ true
some_blank [] h some l r i = absurd (some refl)
some_blank (b ∷ bs) h some l r i =
    let both = and_parts _ _ h in
    let first : is_space b ≡ true = both.0 in
    rw first (blank_leads bs r l both.1 i)

blank_or : (t : List ℕ) → IsBlank t → Leads true spaced_by t
blank_or [] h = inl (refl, refl)
blank_or (b ∷ bs) h = inr (λ n. absurd (cc), some_blank (b ∷ bs) h (λ n. absurd (cc)))

-- what was read as white space
blank_begins : (s : List ℕ) → Begins true spaced_by s (drop_while is_space s)
blank_begins [] = inl (refl, refl)
blank_begins (b ∷ bs) =
    elim (cases_Bool (is_space b)) [
      | inl e ↦
          let split : b ∷ bs ≡ (b ∷ take_while is_space bs) ++ drop_while is_space bs = ap (λ t. b ∷ t) (take_while_split is_space bs) in
          let rest : drop_while is_space (b ∷ bs) ≡ drop_while is_space bs = rw e refl in
          inr (λ l i. subst (λ s. sees (spaced_by l) s ≡ true) (sym split) (some_blank (b ∷ take_while is_space bs) (and_from _ _ e (take_while_passes is_space bs)) (λ n. absurd (cc)) l (drop_while is_space bs) (subst (λ r. sees l r ≡ true) rest i)))
      | inr e ↦ let rest : drop_while is_space (b ∷ bs) ≡ b ∷ bs = rw e refl in inl (sym rest, refl)
    ]

no_space : (r : List ℕ) → sees spaced_any r ≡ false → Stops is_space r
no_space r out = stops_at is_space r (not_spaced r out)

pub lawful_blank : Lawful blank
lawful_blank = record {
  takes = λ s v r u e.
      let same : ◌≡◌ {A = Unit {0} × List ℕ} (tt, drop_while is_space s) (v, r) = cc in
      (take_while is_space s, take_while_passes is_space s, take_while_split is_space s ∙ ap (λ r. take_while is_space s ++ r) (ap (λ p. p.1) same));
  again = λ v t r s out. let again = (take_while_again is_space t r s (no_space r out)).1 in rw again refl;
  begins = λ s v r e.
      let same : ◌≡◌ {A = Unit {0} × List ℕ} (tt, drop_while is_space s) (v, r) = cc in
      subst (Begins true spaced_by s) (ap (λ p. p.1) same) (blank_begins s);
  leads = λ v t s. blank_or t s;
  utf8 = λ v t s. blank_utf8 t s;
}

space_takes : (s r : List ℕ) (v : Unit {0}) → read_space s ≡ Some (v, r) → (t : List ℕ) × IsSpace t × (s ≡ t ++ r)
space_takes [] r v h = absurd (cc)
space_takes (b ∷ bs) r v h =
    elim (cases_Bool (is_space b)) [
      | inl e ↦
          let rest : ◌≡◌ {A = Option (Unit {0} × List ℕ)} (Some (tt, drop_while is_space bs)) (Some (v, r)) = rw e at h in
          let same : ◌≡◌ {A = Unit {0} × List ℕ} (tt, drop_while is_space bs) (v, r) = cc in
          (b ∷ take_while is_space bs, (and_from _ _ e (take_while_passes is_space bs), λ n. absurd (cc)), ap (λ t. b ∷ t) (take_while_split is_space bs ∙ ap (λ t. take_while is_space bs ++ t) (ap (λ p. p.1) same)))
      | inr e ↦ let none : ◌≡◌ {A = Option (Unit {0} × List ℕ)} None (Some (v, r)) = rw e at h in absurd (cc)
    ]

space_again : (t r : List ℕ) (v : Unit {0}) → IsSpace t → sees spaced_any r ≡ false → read_space (t ++ r) ≡ Some (v, r)
space_again [] r v h out = absurd (h.1 refl)
space_again (b ∷ bs) r v h out =
    let both = and_parts _ _ h.0 in
    let first : is_space b ≡ true = both.0 in
    let rest = (take_while_again is_space bs r both.1 (no_space r out)).1 in
    rw first (rw rest refl)

pub lawful_space : Lawful space
lawful_space = record {
  takes = λ s v r u h. space_takes s r v h;
  again = λ v t r s out. space_again t r v s out;
  begins = λ s v r h.
      let one = space_takes s r v h in
      inr (λ l i. subst (λ s. sees (spaced_by l) s ≡ true) (sym one.2) (some_blank one.0 one.1.0 one.1.1 l r i));
  leads = λ v t s. inr (s.1, some_blank t s.0 s.1);
  utf8 = λ v t s. blank_utf8 t s.0;
}

-- ---- the longest front of some bytes

-- the bytes are in the class and no white space; the test is that of texts of such bytes, of which there are some
pub record IsPiece (p : ℕ → Bool) (c : List Span) (test : List ℕ → Bool) (Is : List ℕ → Type 0) : Type 0 where
  pub in_ : (b : ℕ) → p b ≡ true → in_class c b ≡ true
  pub solid : (b : ℕ) → p b ≡ true → is_space b ≡ false
  pub cuts : (s : List ℕ) → IsUtf8 s → IsUtf8 (take_while p s)
  pub from : (t : List ℕ) → IsUtf8 t → list_all p t ≡ true → test t ≡ true → Is t
  pub to : (t : List ℕ) → Is t → test t ≡ true
  pub all : (t : List ℕ) → Is t → list_all p t ≡ true
  pub none : test [] ≡ false
  pub utf8 : (t : List ℕ) → Is t → IsUtf8 t

module _ (p : ℕ → Bool) (c : List Span) (test : List ℕ → Bool) (Is : List ℕ → Type 0) (is : IsPiece p c test Is) where
  some : (t : List ℕ) → Is t → t ≢ []
  some t h = λ n. absurd (both_ways _ is.none (subst (λ t. test t ≡ true) n (is.to t h)))

  piece_leads : (t r : List ℕ) → Is t → sees (solid_in c) (t ++ r) ≡ true
  piece_leads [] r h = absurd (some [] h refl)
  piece_leads (b ∷ bs) r h =
      let first = (and_parts _ _ (is.all (b ∷ bs) h)).0 in
      let solid : is_space b ≡ false = is.solid b first in
      rw solid (is.in_ b first)

  piece_stops : (r : List ℕ) → sees (solid_in c) r ≡ false → Stops p r
  piece_stops r out = stops_at p r (λ b bs e. stop b bs (subst (λ r. sees (solid_in c) r ≡ false) e out))
    where
      stop : (b : ℕ) (bs : List ℕ) → sees (solid_in c) (b ∷ bs) ≡ false → p b ≡ false
      stop b bs out =
          elim (cases_Bool (p b)) [
            | inl e ↦
                let solid : is_space b ≡ false = is.solid b e in
                let bad : in_class c b ≡ false = rw solid at out in
                absurd (both_ways _ bad (is.in_ b e))
            | inr e ↦ e
          ]

  piece_takes : (s v r : List ℕ) → IsUtf8 s → (piece p c test Is).read s ≡ Some (v, r) → (t : List ℕ) × (piece p c test Is).Spells v t × (s ≡ t ++ r)
  piece_takes s v r u h =
      elim (cases_Bool (test (take_while p s))) [
        | inl e ↦
            let rest : ◌≡◌ {A = Option (List ℕ × List ℕ)} (Some (take_while p s, drop_while p s)) (Some (v, r)) = rw e at h in
            let same : ◌≡◌ {A = List ℕ × List ℕ} (take_while p s, drop_while p s) (v, r) = cc in
            let first : take_while p s ≡ v = ap (λ p. p.0) same in
            (take_while p s, (first, subst Is first (is.from (take_while p s) (is.cuts s u) (take_while_passes p s) e)), take_while_split p s ∙ ap (λ r. take_while p s ++ r) (ap (λ p. p.1) same))
        | inr e ↦ let none : ◌≡◌ {A = Option (List ℕ × List ℕ)} None (Some (v, r)) = rw e at h in absurd (cc)
      ]

  piece_again : (v t r : List ℕ) → (piece p c test Is).Spells v t → sees (solid_in c) r ≡ false → (piece p c test Is).read (t ++ r) ≡ Some (v, r)
  piece_again v t r s out =
      let again = take_while_again p v r (is.all v s.1) (piece_stops r out) in
      let passes = is.to v s.1 in
      let same : t ≡ v = s.0 in
      rw (same, again.0, again.1, passes) refl

  piece_seen : (s : List ℕ) → test (take_while p s) ≡ true → sees (solid_in c) s ≡ true
  piece_seen [] h = absurd (both_ways _ is.none h)
  piece_seen (b ∷ bs) h =
      elim (cases_Bool (p b)) [
        | inl e ↦ let solid : is_space b ≡ false = is.solid b e in rw solid (is.in_ b e)
        | inr e ↦ let none : take_while p (b ∷ bs) ≡ [] = rw e refl in absurd (both_ways _ is.none (subst (λ t. test t ≡ true) none h))
      ]

  piece_begins : (s v r : List ℕ) → (piece p c test Is).read s ≡ Some (v, r) → Begins false (λ l. solid_in c) s r
  piece_begins s v r h =
      elim (cases_Bool (test (take_while p s))) [
        | inl e ↦ inr (λ l i. piece_seen s e)
        | inr e ↦ let none : ◌≡◌ {A = Option (List ℕ × List ℕ)} None (Some (v, r)) = rw e at h in absurd (cc)
      ]

  pub lawful_piece : Lawful (piece p c test Is)
  lawful_piece = record {
    takes = piece_takes;
    again = λ v t r s out. piece_again v t r s out;
    begins = piece_begins;
    leads = λ v t s. inr (λ n. some v s.1 (sym s.0 ∙ n), λ l r i. subst (λ t. sees (solid_in c) (t ++ r) ≡ true) (sym s.0) (piece_leads v r s.1));
    utf8 = λ v t s. subst IsUtf8 (sym s.0) (is.utf8 v s.1);
  }

-- ---- one of some words

abbrev pub is_some_letters : List ℕ → Bool
is_some_letters [] = false
is_some_letters (b ∷ bs) = list_all is_letter (b ∷ bs)

among_all : (q : List ℕ → Bool) (words : List (List ℕ)) (t : List ℕ) → list_all q words ≡ true → is_among words t ≡ true → q t ≡ true
among_all q [] t all h = absurd (cc)
among_all q (w ∷ []) t all h = subst (λ t. q t ≡ true) (sym ((bytes_eq-Decides t w).0 h)) (and_parts _ _ all).0
among_all q (w ∷ x ∷ ws) t all h =
    let both = and_parts _ _ all in
    elim (or_cases _ _ h) [
      | inl e ↦ subst (λ t. q t ≡ true) (sym ((bytes_eq-Decides t w).0 e)) both.0
      | inr e ↦ among_all q (x ∷ ws) t both.1 e
    ]

letter_in : (b : ℕ) → is_letter b ≡ true → in_class letters b ≡ true
letter_in b h = grind (arith, nat_tests)

letter_solid : (b : ℕ) → is_letter b ≡ true → is_space b ≡ false
letter_solid b h = grind (arith, nat_tests)

letter_small : (b : ℕ) → is_letter b ≡ true → ltb b 128 ≡ true
letter_small b h = grind (arith, nat_tests)

letters_parts : (t : List ℕ) → is_some_letters t ≡ true → (list_all is_letter t ≡ true) × (t ≢ [])
letters_parts [] h = absurd (cc)
letters_parts (b ∷ bs) h = (h, λ n. absurd (cc))

no_letters_by : (words : List (List ℕ)) → list_all is_some_letters words ≡ true → (b : Bool) → is_among words [] ≡ b → b ≡ false
no_letters_by words all true h = let bad : false ≡ true = among_all is_some_letters words [] all h in absurd (cc)
no_letters_by words all false h = refl

no_letters_among : (words : List (List ℕ)) → list_all is_some_letters words ≡ true → is_among words [] ≡ false
no_letters_among words all = no_letters_by words all (is_among words []) refl

pub lawful_keyword : (words : List (List ℕ)) → list_all is_some_letters words ≡ true → Lawful (keyword words)
lawful_keyword words all =
    let parts : (t : List ℕ) → is_among words t ≡ true → (list_all is_letter t ≡ true) × (t ≢ []) = λ t h. letters_parts t (among_all is_some_letters words t all h) in
    lawful_piece is_letter letters (is_among words) (λ t. IsTrue (is_among words t)) (record {
      in_ = letter_in;
      solid = letter_solid;
      cuts = ascii_take_while is_letter letter_small;
      from = λ t u p h. h;
      to = λ t h. h;
      all = λ t h. (parts t h).0;
      none = no_letters_among words all;
      utf8 = λ t h. ascii t (all_weaker is_letter (λ b. ltb b 128) letter_small t (parts t h).0);
    })

-- ---- in quotes

pub record IsInner (test : List ℕ → Bool) (Is : List ℕ → Type 0) : Type 0 where
  pub from : (t : List ℕ) → IsUtf8 t → test t ≡ true → Is t
  pub to : (t : List ℕ) → Is t → test t ≡ true
  pub utf8 : (t : List ℕ) → Is t → IsUtf8 t

-- what stands before ASCII in text is text
pub front_utf8 : (a : List ℕ) (c : ℕ) (x : List ℕ) → c < 128 → IsUtf8 (a ++ (c ∷ x)) → IsUtf8 a
front_utf8 a c x small u =
    let s = a ++ (c ∷ x) in
    let read = get_or_at a c x 0 _ refl in
    let cut_ = IsCharBoundary-before_ascii s _ (omega (arith, length-append a (c ∷ x))) (omega arith) in
    subst IsUtf8 (take_at a (c ∷ x) _ refl) (IsUtf8-take s _ u cut_)

quote_is : (b : ℕ) → (eqb b 34 || eqb b 39) ≡ true → IsQuote b
quote_is b h = elim (or_cases _ _ h) [ inl e ↦ inl (eqb-true b 34 e) | inr e ↦ inr (eqb-true b 39 e) ]

quote_tests : (q : ℕ) → IsQuote q → (eqb q 34 || eqb q 39) ≡ true
quote_tests q (inl e) = rw e refl
quote_tests q (inr e) = rw e refl

pub quote_small : (q : ℕ) → IsQuote q → q < 128
quote_small q (inl e) = omega arith
quote_small q (inr e) = omega arith

quoted_leads : (v t : List ℕ) → IsQuoted v t → (t ≢ []) × ((r : List ℕ) → sees (solid_in (from_to 0x22 0x22 ∷ from_to 0x27 0x27 ∷ [])) (t ++ r) ≡ true)
quoted_leads v t (q, inl is, lacks, e) = (λ n. absurd (cc), λ r. rw (e, is) refl)
quoted_leads v t (q, inr is, lacks, e) = (λ n. absurd (cc), λ r. rw (e, is) refl)

quote_seen : (s v r : List ℕ) → read_quoted s ≡ Some (v, r) → sees (solid_in (from_to 0x22 0x22 ∷ from_to 0x27 0x27 ∷ [])) s ≡ true
quote_seen [] v r h = absurd (cc)
quote_seen (b ∷ bs) v r h =
    elim (cases_Bool (eqb b 34 || eqb b 39)) [
      | inl e ↦ elim (or_cases _ _ e) [
        | inl is ↦ let same = eqb-true b 34 is in rw same refl
        | inr is ↦ let same = eqb-true b 39 is in rw same refl
      ]
      | inr e ↦ let none : ◌≡◌ {A = Option (List ℕ × List ℕ)} None (Some (v, r)) = rw e at h in absurd (cc)
    ]

quote_utf8 : (q : ℕ) → IsQuote q → IsUtf8 (q ∷ [])
quote_utf8 q (inl is) = rw is (ascii (34 ∷ []) refl)
quote_utf8 q (inr is) = rw is (ascii (39 ∷ []) refl)

to_quote : (q : ℕ) (s v r : List ℕ) → IsQuote q → read_to_quote q s ≡ Some (v, r) → (t : List ℕ) × IsQuoted v t × (q ∷ s ≡ t ++ r) × (s ≡ v ++ (q ∷ r))
to_quote q s v r quote h =
    let p = λ (b : ℕ). not (eqb b q) in
    let x = bind_some (after_all (q ∷ []) (drop_while p s)) _ _ h in
    let same : ◌≡◌ {A = List ℕ × List ℕ} (take_while p s, x.0) (v, r) = cc (x.2) in
    let first : take_while p s ≡ v = ap (λ p. p.0) same in
    let rest : x.0 ≡ r = ap (λ p. p.1) same in
    let split : s ≡ v ++ (q ∷ r) = take_while_split p s ∙ ap (λ t. take_while p s ++ t) (after_all_takes (q ∷ []) (drop_while p s) x.0 x.1) ∙ ap (λ v. v ++ (q ∷ x.0)) first ∙ ap (λ r. v ++ (q ∷ r)) rest in
    ((q ∷ v) ++ q ∷ [], (q, quote, subst (λ v. list_all p v ≡ true) first (take_while_passes p s), refl), ap (λ t. q ∷ t) (split ∙ sym (append_assoc v (q ∷ []) r)), split)

-- what is read in quotes, and that it is text
pub any_quoted_takes : (s v r : List ℕ) → read_quoted s ≡ Some (v, r) → (t : List ℕ) × IsQuoted v t × (s ≡ t ++ r) × (IsUtf8 s → IsUtf8 v)
any_quoted_takes [] v r h = absurd (cc)
any_quoted_takes (b ∷ bs) v r h =
    elim (cases_Bool (eqb b 34 || eqb b 39)) [
      | inl e ↦
          let quote = quote_is b e in
          let small = quote_small b quote in
          let found = to_quote b bs v r quote (rw e at h) in
          (found.0, found.1, found.2, λ u. front_utf8 v b r small (subst IsUtf8 found.3 (utf8_behind b bs small u)))
      | inr e ↦ let none : ◌≡◌ {A = Option (List ℕ × List ℕ)} None (Some (v, r)) = rw e at h in absurd (cc)
    ]

quote_again : (q : ℕ) (v r : List ℕ) → list_all (λ b. not (eqb b q)) v ≡ true → read_to_quote q (v ++ (q ∷ r)) ≡ Some (v, r)
quote_again q v r lacks =
    let p = λ (b : ℕ). not (eqb b q) in
    let here : eqb q q ≡ true = eq-eqb q q refl in
    let again = take_while_again p v (q ∷ r) lacks (rw here refl, rw here refl) in
    rw (again.0, again.1) (rw here refl)

pub any_quoted_again : (v t r : List ℕ) → IsQuoted v t → read_quoted (t ++ r) ≡ Some (v, r)
any_quoted_again v t r (q, quote, lacks, e) =
    let split : t ++ r ≡ q ∷ (v ++ (q ∷ r)) = ap (λ t. t ++ r) e ∙ ap (λ t. q ∷ t) (append_assoc v (q ∷ []) r) in
    let tests = quote_tests q quote in
    let found = quote_again q v r lacks in
    rw split (rw tests found)

module _ (test : List ℕ → Bool) (Is : List ℕ → Type 0) (is : IsInner test Is) where
  quoted_takes : (s v r : List ℕ) → IsUtf8 s → tested test (read_quoted s) ≡ Some (v, r) → (t : List ℕ) × (quoted test Is).Spells v t × (s ≡ t ++ r)
  quoted_takes s v r u h =
      let x = tested_some test (read_quoted s) (v, r) h in
      let found = any_quoted_takes s v r x.0 in
      (found.0, (is.from v (found.3 u) x.1, found.1), found.2)

  pub lawful_quoted : Lawful (quoted test Is)
  lawful_quoted = record {
    takes = quoted_takes;
    again = λ v t r s out. let found = any_quoted_again v t r s.1 in let passes = is.to v s.0 in rw found (rw passes refl);
    begins = λ s v r h. inr (λ l i. quote_seen s v r (tested_some test (read_quoted s) (v, r) h).0);
    leads = λ v t s. let lead = quoted_leads v t s.1 in inr (lead.0, λ l r i. lead.1 r);
    utf8 = λ v t s. subst IsUtf8 (sym s.1.3) (IsUtf8-append (s.1.0 ∷ v) (s.1.0 ∷ []) (IsUtf8-append (s.1.0 ∷ []) v (quote_utf8 s.1.0 s.1.1) (is.utf8 v s.0)) (quote_utf8 s.1.0 s.1.1));
  }

pub lawful_quoted_text : (test : List ℕ → Bool) → Lawful (quoted_text test)
lawful_quoted_text test = lawful_quoted test (λ t. IsUtf8 t × IsTrue (test t)) (record { from = λ t u h. (u, h); to = λ t h. h.1; utf8 = λ t h. h.0 })

pub lawful_quoted_ascii : (test : List ℕ → Bool) → ((t : List ℕ) → test t ≡ true → list_all (λ b. ltb b 128) t ≡ true) → Lawful (quoted_ascii test)
lawful_quoted_ascii test small = lawful_quoted test (λ t. IsTrue (test t)) (record { from = λ t u h. h; to = λ t h. h; utf8 = λ t h. ascii t (small t h) })

-- ---- what another reader reads

pub record IsStep (Is : List ℕ → Type 0) (after : List ℕ → Option (List ℕ)) (c : List Span) : Type 0 where
  pub takes : (s r : List ℕ) → IsUtf8 s → after s ≡ Some r → (t : List ℕ) × Is t × (s ≡ t ++ r)
  pub again : (t r : List ℕ) → Is t → after (t ++ r) ≡ Some r
  pub begins : (s r : List ℕ) → after s ≡ Some r → sees (solid_in c) s ≡ true
  pub utf8 : (t : List ℕ) → Is t → IsUtf8 t

module _ (Is : List ℕ → Type 0) (after : List ℕ → Option (List ℕ)) (c : List Span) (is : IsStep Is after c) where
  -- nothing is no step: it would begin in front of nothing
  step_some : (t : List ℕ) → Is t → t ≢ []
  step_some t spells n =
      let bad : false ≡ true = is.begins [] [] (subst (λ t. after (t ++ []) ≡ Some []) n (is.again t [] spells)) in
      absurd (cc)

  pub lawful_step : Lawful (step Is after c)
  lawful_step = record {
    takes = λ s v r u h.
        let x = bind_some (after s) _ _ h in
        let same : ◌≡◌ {A = Unit {0} × List ℕ} (tt, x.0) (v, r) = cc (x.2) in
        let one = is.takes s x.0 u x.1 in
        (one.0, one.1, one.2 ∙ ap (λ r. one.0 ++ r) (ap (λ p. p.1) same));
    again = λ v t r s out. let found = is.again t r s in rw found refl;
    begins = λ s v r h. let x = bind_some (after s) _ _ h in inr (λ l i. is.begins s x.0 x.1);
    leads = λ v t s. inr (step_some t s, λ l r i. is.begins (t ++ r) r (is.again t r s));
    utf8 = λ v t s. is.utf8 t s;
  }
