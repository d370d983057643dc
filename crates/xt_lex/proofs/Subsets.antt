-- The subset of a DOCTYPE declaration: where it ends.
use Rattle.std.proofs.Common.{zero, suc, ◌≡◌, ◌≢◌, ℕ, ◌<◌, List, [], ◌∷◌, ◌++◌, length, true, false, not, eqb, ◌&&◌, refl, ap, sym, subst, ◌∙◌, arith, inl, inr, Option, Some, None, codes, eqb-true, append_assoc}
use Rattle.std.proofs.lemmas.Bool.{cases_Bool, and_parts, or_parts, both_ways, not-true}
use Rattle.std.proofs.lemmas.List.{length-append, append_cancel_right}
use Rattle.std.specs.List.{list_all}
use Rattle.xt_spec.specs.Tag.{IsQuote}
use Rattle.xt_spec.specs.Markup.{begins, lacks}
use Rattle.xt_spec.specs.Doctype.{SubsetPart, literal_part, comment_part, pi_part, other_part, subset_part_text, subset_text, is_quote_or_end, IsSubsetPart, AreSubsetParts, IsSubset}
use Rattle.xt_lex.specs.Scan.{◌>>=◌, maybe, take_while, drop_while, after, after_all, cut, quoted, many_in, many, after_first, after_less, after_marked, is_plain_in_subset, after_subset_part}
use Rattle.xt_lex.proofs.Cuts.{after_all_takes, cut_takes, cut_fresh_again, lacks_from_fresh, Stays, fresh_from_lacks, no_after, after_begins, begins_longer}
use Rattle.xt_scan.proofs.Theorems.{any_quoted_takes, any_quoted_again}
use Rattle.xt_lex.proofs.Instructions.{stays_end}
use Rattle.xt_lex.proofs.Many.{Shrinks, many_step, many_stop}
use Rattle.xt_lex.proofs.StepLemmas.{bind_some, take_while_split, after_takes}

-- ---- up to the first place of a needle

first_takes : (needle s r : List ℕ) → after_first needle s ≡ Some r → (inner : List ℕ) × (lacks needle inner ≡ true) × (s ≡ inner ++ (needle ++ r))
first_takes needle s r h =
    let found = bind_some (cut needle s) _ _ h in
    let is = cut_takes needle s found.0.0 found.0.1 found.1 in
    let same : found.0.1 ≡ r = cc (found.2) in
    (found.0.0, lacks_from_fresh needle found.0.0 _ is.1, is.0 ∙ ap (λ r. found.0.0 ++ (needle ++ r)) same)

first_again : (needle inner r : List ℕ) → 0 < length needle → Stays needle → lacks needle inner ≡ true → after_first needle (inner ++ (needle ++ r)) ≡ Some r
first_again needle inner r some stays h =
    let found = cut_fresh_again needle inner r some (fresh_from_lacks needle inner r stays h) in
    rw found refl

stays_comment : Stays (codes "-->")
stays_comment b [] r = refl
stays_comment b (c ∷ []) r = refl
stays_comment b (c ∷ d ∷ front) r = refl

-- ---- one part

-- a part at the front, and r behind it
abbrev PartFront : List ℕ → List ℕ → Type 0
PartFront s r = (p : SubsetPart) × (s ≡ subset_part_text p ++ r) × ((x y : List ℕ) → r ≡ x ++ y → IsSubsetPart p x)

comment_joined : (rest r1 inner r : List ℕ) → rest ≡ codes "!--" ++ r1 → r1 ≡ inner ++ (codes "-->" ++ r) → 60 ∷ rest ≡ (codes "<!--" ++ inner ++ codes "-->") ++ r
comment_joined rest r1 inner r e f = rw (e, f) (simp append_assoc)

pi_joined : (rest r1 inner r : List ℕ) → rest ≡ 63 ∷ r1 → r1 ≡ inner ++ (codes "?>" ++ r) → 60 ∷ rest ≡ (codes "<?" ++ inner ++ codes "?>") ++ r
pi_joined rest r1 inner r e f = rw (e, f) (simp append_assoc)

-- what a longer text doesn't begin with, its front doesn't
not_begun : (needle rest x y : List ℕ) → begins needle rest ≡ false → rest ≡ x ++ y → begins needle x ≡ false
not_begun needle rest x y none e =
    elim (cases_Bool (begins needle x)) [
      | inl is ↦ absurd (both_ways (begins needle rest) none (ap (begins needle) e ∙ begins_longer needle x y is))
      | inr is ↦ is
    ]

one_after : (c : ℕ) (s : List ℕ) → after_all (c ∷ []) s ≡ after c s
one_after c [] = refl
one_after c (b ∷ bs) = refl

alone : (rest r : List ℕ) → after_all (codes "!--") rest ≡ None → after 63 rest ≡ None → rest ≡ r → PartFront (60 ∷ rest) r
alone rest r no_comment no_pi same = (
  other_part 60,
  ap (λ t. 60 ∷ t) same,
  λ x y e. (refl, not_begun (codes "!--") rest x y (after_begins (codes "!--") rest no_comment) (same ∙ e), not_begun (codes "?") rest x y (after_begins (codes "?") rest (one_after 63 rest ∙ no_pi)) (same ∙ e)),
)

less_by : (rest r : List ℕ) (o p : Option (List ℕ)) → after_all (codes "!--") rest ≡ o → after 63 rest ≡ p → maybe (maybe (Some rest) (after_first (codes "?>")) p) (after_first (codes "-->")) o ≡ Some r → PartFront (60 ∷ rest) r
less_by rest r None None e f h = alone rest r e f (cc)
less_by rest r None (Some r1) e f h =
    let found = first_takes (codes "?>") r1 r h in
    (pi_part found.0, pi_joined rest r1 found.0 r (after_takes 63 rest r1 f) found.2, λ x y e. found.1)
less_by rest r (Some r1) p e f h =
    let found = first_takes (codes "-->") r1 r h in
    (comment_part found.0, comment_joined rest r1 found.0 r (after_all_takes (codes "!--") rest r1 e) found.2, λ x y e. found.1)

less_takes : (rest r : List ℕ) → after_less rest ≡ Some r → PartFront (60 ∷ rest) r
unfolding after_less
less_takes rest r h = less_by rest r (after_all (codes "!--") rest) (after 63 rest) refl refl h

marked_by : (s r : List ℕ) (o : Option (List ℕ)) → after 60 s ≡ o → maybe (quoted s >>= λ x. Some x.1) after_less o ≡ Some r → PartFront s r
marked_by s r None e h =
    let found = bind_some (quoted s) _ _ h in
    let same : found.0.1 ≡ r = cc (found.2) in
    let is = any_quoted_takes s found.0.0 found.0.1 found.1 in
    let q = is.1.0 in
    (literal_part q found.0.0, is.2 ∙ ap (λ t. t ++ found.0.1) is.1.3 ∙ ap (λ r. ((q ∷ found.0.0) ++ q ∷ []) ++ r) same, λ x y e. (is.1.1, is.1.2))
marked_by s r (Some rest) e h = subst (λ s. PartFront s r) (sym (after_takes 60 s rest e)) (less_takes rest r h)

marked_takes : (s r : List ℕ) → after_marked s ≡ Some r → PartFront s r
unfolding after_marked
marked_takes s r h = marked_by s r (after 60 s) refl h

plain_part : (b : ℕ) (bs : List ℕ) → is_plain_in_subset b ≡ true → PartFront (b ∷ bs) bs
plain_part b bs plain =
    let both = or_parts (is_quote_or_end b) (eqb b 60) (not-true _ plain) in
    let less : eqb b 60 ≡ false = both.1 in
    (other_part b, refl, λ x y e. (both.0, rw less refl, rw less refl))

pub part_takes : (s r : List ℕ) → after_subset_part s ≡ Some r → PartFront s r
part_takes [] r h = absurd (cc)
part_takes (b ∷ bs) r h =
    elim (cases_Bool (is_plain_in_subset b)) [
      | inl e ↦
          let rest : Some bs ≡ Some r = rw e at h in
          let same : bs ≡ r = cc in
          subst (PartFront (b ∷ bs)) same (plain_part b bs e)
      | inr e ↦ marked_takes (b ∷ bs) r (rw e at h)
    ]

longer : (p r s : List ℕ) → p ≢ [] → s ≡ p ++ r → length r < length s
longer [] r s some e = absurd (some refl)
longer (b ∷ bs) r s some e = omega (arith, ap length e, length-append bs r)

part_some : (p : SubsetPart) → subset_part_text p ≢ []
part_some (literal_part q inner) e = absurd (cc)
part_some (comment_part inner) e = absurd (cc)
part_some (pi_part inner) e = absurd (cc)
part_some (other_part b) e = absurd (cc)

pub part_shrinks : Shrinks after_subset_part
part_shrinks s r h =
    let found = part_takes s r h in
    longer (subset_part_text found.0) r s (part_some found.0) found.1

-- `]` goes on with nothing that begins with `<`
bracket_same : (needle x r : List ℕ) → list_all (λ c. not (eqb 93 c)) needle ≡ true → begins needle (x ++ (93 ∷ r)) ≡ begins needle x
bracket_same [] x r h = refl
bracket_same (c ∷ cs) [] r h = let no : eqb 93 c ≡ false = not-true _ (and_parts _ _ h).0 in rw no refl
bracket_same (c ∷ cs) (b ∷ bs) r h = ap (λ t. eqb b c && t) (bracket_same cs bs r (and_parts _ _ h).1)

literal_again : (q : ℕ) (inner r : List ℕ) → IsQuote q → list_all (λ b. not (eqb b q)) inner ≡ true → after_subset_part (((q ∷ inner) ++ q ∷ []) ++ r) ≡ Some r
unfolding after_marked
literal_again q inner r (inl is) h =
    let found = any_quoted_again inner ((34 ∷ inner) ++ 34 ∷ []) r (34, inl refl, subst (λ q. list_all (λ b. not (eqb b q)) inner ≡ true) is h, refl) in
    rw is (ap (λ o. o >>= λ x. Some x.1) found)
literal_again q inner r (inr is) h =
    let found = any_quoted_again inner ((39 ∷ inner) ++ 39 ∷ []) r (39, inr refl, subst (λ q. list_all (λ b. not (eqb b q)) inner ≡ true) is h, refl) in
    rw is (ap (λ o. o >>= λ x. Some x.1) found)

bracketed_split : (front inner ending r : List ℕ) → (front ++ inner ++ ending) ++ r ≡ front ++ (inner ++ (ending ++ r))
bracketed_split front inner ending r = simp append_assoc

comment_again : (inner r : List ℕ) → lacks (codes "-->") inner ≡ true → after_subset_part ((codes "<!--" ++ inner ++ codes "-->") ++ r) ≡ Some r
unfolding after_marked after_less
comment_again inner r h = ap after_subset_part (bracketed_split (codes "<!--") inner (codes "-->") r) ∙ first_again (codes "-->") inner r (omega arith) stays_comment h

pi_again : (inner r : List ℕ) → lacks (codes "?>") inner ≡ true → after_subset_part ((codes "<?" ++ inner ++ codes "?>") ++ r) ≡ Some r
unfolding after_marked after_less
pi_again inner r h = ap after_subset_part (bracketed_split (codes "<?") inner (codes "?>") r) ∙ first_again (codes "?>") inner r (omega arith) stays_end h

less_again : (x r : List ℕ) → begins (codes "!--") x ≡ false → begins (codes "?") x ≡ false → after_less (x ++ (93 ∷ r)) ≡ Some (x ++ (93 ∷ r))
unfolding after_less
less_again x r no_comment no_pi =
    let one = no_after (codes "!--") (x ++ (93 ∷ r)) (bracket_same (codes "!--") x r refl ∙ no_comment) in
    let two : after 63 (x ++ (93 ∷ r)) ≡ None = sym (one_after 63 (x ++ (93 ∷ r))) ∙ no_after (codes "?") (x ++ (93 ∷ r)) (bracket_same (codes "?") x r refl ∙ no_pi) in
    rw one (rw two refl)

plain_from : (b : ℕ) → is_quote_or_end b ≡ false → eqb b 60 ≡ false → is_plain_in_subset b ≡ true
plain_from b quote less = rw (quote, less) refl

other_again : (b : ℕ) (x r : List ℕ) → IsSubsetPart (other_part b) x → after_subset_part (b ∷ (x ++ (93 ∷ r))) ≡ Some (x ++ (93 ∷ r))
unfolding after_marked
other_again b x r (quote, no_comment, no_pi) =
    elim (cases_Bool (eqb b 60)) [
      | inl e ↦
          let is : b ≡ 60 = eqb-true b 60 e in
          rw is (less_again x r (subst (λ b. begins (codes "<!--") (b ∷ x) ≡ false) is no_comment) (subst (λ b. begins (codes "<?") (b ∷ x) ≡ false) is no_pi))
      | inr e ↦
          let plain : is_plain_in_subset b ≡ true = plain_from b quote e in
          rw plain refl
    ]

pub part_again : (p : SubsetPart) (x r : List ℕ) → IsSubsetPart p x → after_subset_part (subset_part_text p ++ (x ++ (93 ∷ r))) ≡ Some (x ++ (93 ∷ r))
part_again (literal_part q inner) x r h = literal_again q inner _ h.0 h.1
part_again (comment_part inner) x r h = comment_again inner _ h
part_again (pi_part inner) x r h = pi_again inner _ h
part_again (other_part b) x r h = other_again b x r h

-- ---- all parts

abbrev SubsetFront : List ℕ → List ℕ → Type 0
SubsetFront s rest = (parts : List SubsetPart) × AreSubsetParts parts × (s ≡ subset_text parts ++ rest)

subset_at : (s : List ℕ) (g : List ℕ → List ℕ) → ((r : List ℕ) → SubsetFront r (g r)) → (o : Option (List ℕ)) → after_subset_part s ≡ o → SubsetFront s (maybe s g o)
subset_at s g ih None e = ([], tt, refl)
subset_at s g ih (Some r) e =
    let first = part_takes s r e in
    let rest = ih r in
    (first.0 ∷ rest.0, (first.2 (subset_text rest.0) (g r) rest.2, rest.1), first.1 ∙ ap (λ t. subset_part_text first.0 ++ t) rest.2 ∙ sym (append_assoc (subset_part_text first.0) (subset_text rest.0) (g r)))

subset_in : (n : ℕ) (s : List ℕ) → SubsetFront s (many_in n after_subset_part s)
subset_in zero s = ([], tt, refl)
subset_in (suc n) s = subset_at s (many_in n after_subset_part) (λ r. subset_in n r) (after_subset_part s) refl

pub subset_takes : (s : List ℕ) → SubsetFront s (many after_subset_part s)
unfolding many
subset_takes s = subset_in (length s) s

no_part_at_end : (r : List ℕ) → after_subset_part (93 ∷ r) ≡ None
unfolding after_marked
no_part_at_end r = refl

pub subset_again : (parts : List SubsetPart) (r : List ℕ) → AreSubsetParts parts → many after_subset_part (subset_text parts ++ (93 ∷ r)) ≡ 93 ∷ r
subset_again [] r h = many_stop after_subset_part (93 ∷ r) (no_part_at_end r)
subset_again (p ∷ ps) r h =
    let rest = subset_text ps ++ (93 ∷ r) in
    ap (many after_subset_part) (append_assoc (subset_part_text p) (subset_text ps) (93 ∷ r))
    ∙ many_step after_subset_part part_shrinks (subset_part_text p ++ rest) rest (part_again p (subset_text ps) r h.0)
    ∙ subset_again ps r h.1

-- a text has at most one front that is a subset with its `]` behind it
pub subset_unique : (a b r s : List ℕ) → IsSubset a → IsSubset b → a ++ (93 ∷ r) ≡ b ++ (93 ∷ s) → (a ≡ b) × (r ≡ s)
subset_unique a b r s (ps, p, u, e) (qs, q, v, f) same =
    let left : many after_subset_part (a ++ (93 ∷ r)) ≡ 93 ∷ r = ap (λ a. many after_subset_part (a ++ (93 ∷ r))) e ∙ subset_again ps r p in
    let right : many after_subset_part (b ++ (93 ∷ s)) ≡ 93 ∷ s = ap (λ b. many after_subset_part (b ++ (93 ∷ s))) f ∙ subset_again qs s q in
    let ends : 93 ∷ r ≡ 93 ∷ s = sym left ∙ ap (many after_subset_part) same ∙ right in
    (append_cancel_right a b (93 ∷ r) (same ∙ ap (λ t. b ++ t) (sym ends)), cc)

ends_split : (a r : List ℕ) → a ++ codes "]" ++ r ≡ a ++ (93 ∷ r)
ends_split a r = simp append_assoc

pub one_end : (text a b r s : List ℕ) → IsSubset a → IsSubset b → text ≡ a ++ codes "]" ++ r → text ≡ b ++ codes "]" ++ s → a ≡ b
one_end text a b r s p q e f = (subset_unique a b r s p q (sym (ends_split a r) ∙ sym e ∙ f ∙ ends_split b s)).0

-- ---- the loop

plain_step : (b : ℕ) (bs : List ℕ) → is_plain_in_subset b ≡ true → after_subset_part (b ∷ bs) ≡ Some bs
plain_step b bs e = rw e refl

-- plain bytes in front count nothing
pub many_plain : (s : List ℕ) → many after_subset_part (drop_while is_plain_in_subset s) ≡ many after_subset_part s
many_plain [] = refl
many_plain (b ∷ bs) =
    elim (cases_Bool (is_plain_in_subset b)) [
      | inl e ↦ rw e (many_plain bs ∙ sym (many_step after_subset_part part_shrinks (b ∷ bs) bs (plain_step b bs e)))
      | inr e ↦ rw e refl
    ]

not_stuck : (b : ℕ) (bs : List ℕ) → drop_while is_plain_in_subset bs ≡ b ∷ bs → ⊥
not_stuck b bs e = omega (arith, ap length e, ap length (take_while_split is_plain_in_subset bs), length-append (take_while is_plain_in_subset bs) (drop_while is_plain_in_subset bs))

-- where no plain byte stands in front, the code's step is a part
pub marked_is : (s : List ℕ) → drop_while is_plain_in_subset s ≡ s → after_marked s ≡ after_subset_part s
unfolding after_marked
marked_is [] at = refl
marked_is (b ∷ bs) at =
    elim (cases_Bool (is_plain_in_subset b)) [
      | inl e ↦ absurd (not_stuck b bs (rw e at at))
      | inr e ↦ rw e refl
    ]

pub marked_shrinks : (s r : List ℕ) → after_marked s ≡ Some r → length r < length s
marked_shrinks s r h =
    let found = marked_takes s r h in
    longer (subset_part_text found.0) r s (part_some found.0) found.1
