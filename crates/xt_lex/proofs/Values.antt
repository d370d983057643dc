-- Values between quotes: what passes the test is made of characters and references, and what is so made passes.
use Rattle.std.proofs.Common.{zero, suc, ◌≡◌, ◌≢◌, ℕ, ◌<◌, ◌≤◌, List, [], ◌∷◌, ◌++◌, length, Bool, true, false, not, eqb, ◌||◌, refl, ap, sym, subst, ◌∙◌, arith, inl, inr, Option, Some, None, eqb-true, eq-eqb, ⊎_elim, encode_utf8, encode_utf8_all, codes, append_assoc, append-nil}
use Rattle.std.proofs.lemmas.Bool.{cases_Bool, and_parts, and_from, both_ways, or_cases, not-true, not-false, not_from_false}
use Rattle.std.proofs.lemmas.Bool.Decides.{nat_tests}
use Rattle.std.proofs.lemmas.List.{length-append}
use Rattle.std.proofs.lemmas.Str.{encode_ascii, length-encode, len_utf8_bounds, length-le-encodes, chars-encodes, encodes-chars, IsUtf8-take, IsUtf8-append}
use Rattle.std.specs.List.{list_all, prefix_len, AllByRecursion, concat}
use Rattle.std.specs.Str.{IsUtf8, chars}
use lib.Utf8.{scalars}
use Rattle.xt_spec.specs.Name.{IsSpeltBy}
use Rattle.xt_spec.specs.Tag.{IsReference, is_value_char, IsValuePart, IsQuote, IsAttValue}
use Rattle.xt_spec.specs.Token.{TokenKind, char_ref, entity_ref}
use Rattle.xt_lex.specs.Scan.{take_while, drop_while, after, reference, is_found, is_no_ampersand, references_stand, is_attr_char, is_value, after_value, after_quoted}
use Rattle.xt_lex.proofs.References.{IsFound, is_inner, reference_takes, reference_again, found_inner, found_spelt}
use Rattle.xt_lex.proofs.Runs.{take_while_is, boundary_at_stop}
use Rattle.xt_lex.proofs.Spelling.{list_all_weaker, list_all_joined, list_all_behind, spelt_joined, spelt_char, strip, bytes_lack}
use Rattle.xt_lex.proofs.StepLemmas.{take_while_split, take_while_passes, take_while_append, drop_while_append, after_takes, utf8_behind}
use Rattle.xt_lex.proofs.Utf8.{char_scalar, ascii}
use Rattle.xt_scan.proofs.Theorems.{quote_small}

found_some : {A : Type 0} (o : Option A) → is_found o ≡ true → (x : A) × (o ≡ Some x)
found_some None h = absurd (cc)
found_some (Some x) h = (x, refl)

stand_behind : (t r : List ℕ) → references_stand (t ++ r) ≡ true → references_stand r ≡ true
stand_behind [] r h = h
stand_behind (x ∷ xs) r h = stand_behind xs r (and_parts _ _ h).1

stand_front : (s r : List ℕ) → s ≡ 38 ∷ r → references_stand s ≡ true → is_found (reference s) ≡ true
stand_front s r e h = let first : references_stand (38 ∷ r) ≡ true = rw e at h in rw e (and_parts _ _ first).0

no_ampersand_stand : (t r : List ℕ) → list_all is_no_ampersand t ≡ true → references_stand (t ++ r) ≡ references_stand r
no_ampersand_stand [] r h = refl
no_ampersand_stand (x ∷ xs) r h =
    let both = and_parts _ _ h in
    let first : eqb x 38 ≡ false = not-true _ both.0 in
    rw first (no_ampersand_stand xs r both.1)

-- what stands before the first `&` counts nothing
pub behind_stand : (s : List ℕ) → references_stand (drop_while is_no_ampersand s) ≡ references_stand s
behind_stand s = sym (ap references_stand (take_while_split is_no_ampersand s) ∙ no_ampersand_stand (take_while is_no_ampersand s) (drop_while is_no_ampersand s) (take_while_passes is_no_ampersand s))

inner_no_ampersand : (b : ℕ) → is_inner b ≡ true → is_no_ampersand b ≡ true
inner_no_ampersand b h = grind (arith, nat_tests)

-- a reference counts nothing
reference_stand : (k : TokenKind) (t r : List ℕ) → IsFound k t → references_stand (t ++ r) ≡ references_stand r
reference_stand k t r f =
    let inner = found_inner k t f in
    let again = reference_again t r k f in
    let split : t ++ r ≡ 38 ∷ (inner.0 ++ r) = ap (λ t. t ++ r) inner.1 in
    let found : reference (38 ∷ (inner.0 ++ r)) ≡ Some (k, r) = ap reference (sym split) ∙ again in
    let rest = no_ampersand_stand inner.0 r (list_all_weaker is_inner is_no_ampersand inner_no_ampersand inner.0 inner.2) in
    rw split (rw found rest)

pub step_stand : (s r : List ℕ) (k : TokenKind) → IsUtf8 s → reference s ≡ Some (k, r) → references_stand s ≡ references_stand r
step_stand s r k u h =
    let found = reference_takes s r k u h in
    ap references_stand found.1 ∙ reference_stand k found.0 r found.2

pub reference_shorter : (s r : List ℕ) (k : TokenKind) → IsUtf8 s → reference s ≡ Some (k, r) → length r < length s
reference_shorter s r k u h =
    let found = reference_takes s r k u h in
    let inner = found_inner k found.0 found.2 in
    omega (arith, ap length found.1, length-append found.0 r, ap length inner.1)

pub stuck_stand : (s : List ℕ) → drop_while is_no_ampersand s ≡ s → s ≢ [] → reference s ≡ None → references_stand s ≡ false
stuck_stand [] at some h = absurd (some refl)
stuck_stand (b ∷ bs) at some h =
    elim (cases_Bool (eqb b 38)) [
      | inl e ↦ rw (e, h) refl
      | inr e ↦
          let passed : drop_while is_no_ampersand bs ≡ b ∷ bs = rw e at at in
          absurd (omega (arith, ap length passed, ap length (take_while_split is_no_ampersand bs), length-append (take_while is_no_ampersand bs) (drop_while is_no_ampersand bs)))
    ]

pub nonempty : (s : List ℕ) (b : Bool) → b ≡ eqb (length s) 0 → b ≡ false → s ≢ []
nonempty s b e isnt = λ is. both_ways b isnt (e ∙ ap (λ s. eqb (length s) 0) is)

pub drop_while_shorter : (p : ℕ → Bool) (s : List ℕ) → length (drop_while p s) ≤ length s
drop_while_shorter p s = omega (arith, ap length (take_while_split p s), length-append (take_while p s) (drop_while p s))

pub drop_while_twice : (p : ℕ → Bool) (s : List ℕ) → drop_while p (drop_while p s) ≡ drop_while p s
drop_while_twice p [] = refl
drop_while_twice p (x ∷ xs) =
    elim (cases_Bool (p x)) [
      | inl e ↦ rw e (drop_while_twice p xs)
      | inr e ↦ rw (e, e) refl
    ]

pub attr_scalars : (cs : List ℕ) → list_all is_attr_char cs ≡ true → scalars cs ≡ true
attr_scalars [] h = refl
attr_scalars (c ∷ cs) h =
    let both = and_parts _ _ h in
    and_from _ _ (char_scalar c (and_parts _ _ both.0).0) (attr_scalars cs both.1)

not_quote : (q c : ℕ) (r : List ℕ) → q < 128 → list_all (λ b. not (eqb b q)) (encode_utf8 c ++ r) ≡ true → not (eqb c q) ≡ true
not_quote q c r small h =
    elim (cases_Bool (eqb c q)) [
      | inl e ↦
          let same : c ≡ q = eqb-true c q e in
          let one : encode_utf8 c ≡ c ∷ [] = encode_ascii c (omega arith) in
          let at : list_all (λ b. not (eqb b q)) (c ∷ r) ≡ true = subst (λ t. list_all (λ b. not (eqb b q)) (t ++ r) ≡ true) one h in
          (and_parts _ _ at).0
      | inr e ↦ not_from_false _ e
    ]

reference_of : (k : TokenKind) (t : List ℕ) → IsFound k t → IsReference t
reference_of k t (inl f) = inl f.1
reference_of k t (inr f) = inr f.1

abbrev IsMadeOf : ℕ → List ℕ → Type 0
IsMadeOf q s = (parts : List (List ℕ)) × AllByRecursion (IsValuePart q) parts × (s ≡ concat parts)

first_is : (c b : ℕ) (rest s : List ℕ) → encode_utf8 c ++ rest ≡ s → encode_utf8 c ≡ b ∷ [] → s ≡ b ∷ rest
first_is c b rest s e one = sym e ∙ ap (λ t. t ++ rest) one

joined_on : (s t r x : List ℕ) → s ≡ t ++ r → r ≡ x → s ≡ t ++ x
joined_on s t r x a b = a ∙ ap (λ y. t ++ y) b

rest_shorter : (c : ℕ) (rest s : List ℕ) (n : ℕ) → encode_utf8 c ++ rest ≡ s → length s ≤ suc n → length rest ≤ n
rest_shorter c rest s n e le = let wide = len_utf8_bounds c in omega (arith, ap length e, length-append (encode_utf8 c) rest, length-encode c)

fronts_meet : (cs ts s t r : List ℕ) → encode_utf8_all cs ≡ s → s ≡ t ++ r → encode_utf8_all ts ≡ t → encode_utf8_all cs ≡ encode_utf8_all ts ++ r
fronts_meet cs ts s t r a b c = rw c (a ∙ b)

-- the parts of a value whose characters and references pass
value_parts : (q n : ℕ) (cs s : List ℕ) → q < 128 → length s ≤ n → encode_utf8_all cs ≡ s → list_all is_attr_char cs ≡ true → list_all (λ b. not (eqb b q)) s ≡ true → references_stand s ≡ true → IsMadeOf q s
value_parts q n [] s small le e attr lacks stand = ([], tt, sym e)
value_parts q zero (c ∷ cs) s small le e attr lacks stand = absurd (omega (arith, ap length e, length-le-encodes (c ∷ cs)))
value_parts q (suc n) (c ∷ cs) s small le e attr lacks stand =
    elim (cases_Bool (eqb c 38)) [
      | inl is ↦
          let same : c ≡ 38 = eqb-true c 38 is in
          let one : encode_utf8 c ≡ 38 ∷ [] = encode_ascii c (omega arith) ∙ ap (λ c. c ∷ []) same in
          let split : s ≡ 38 ∷ encode_utf8_all cs = first_is c 38 (encode_utf8_all cs) s e one in
          let x = found_some (reference s) (stand_front s (encode_utf8_all cs) split stand) in
          let found = reference_takes s x.0.1 x.0.0 (c ∷ cs, (attr_scalars (c ∷ cs) attr, e)) x.1 in
          let spelt = found_spelt x.0.0 found.0 found.2 in
          let inner = found_inner x.0.0 found.0 found.2 in
          let rest = strip (c ∷ cs) spelt.0 x.0.1 (fronts_meet (c ∷ cs) spelt.0 s found.0 x.0.1 e found.1 spelt.1) in
          let attr_rest = list_all_behind is_attr_char spelt.0 rest.0 (subst (λ l. list_all is_attr_char l ≡ true) rest.1 attr) in
          let lacks_rest = list_all_behind (λ b. not (eqb b q)) found.0 x.0.1 (subst (λ l. list_all (λ b. not (eqb b q)) l ≡ true) found.1 lacks) in
          let stand_rest = stand_behind found.0 x.0.1 (subst (λ l. references_stand l ≡ true) found.1 stand) in
          let smaller : length x.0.1 ≤ n = omega (arith, ap length found.1, length-append found.0 x.0.1, ap length inner.1) in
          let more = value_parts q n rest.0 x.0.1 small smaller rest.2 attr_rest lacks_rest stand_rest in
          (found.0 ∷ more.0, (inr (reference_of x.0.0 found.0 found.2), more.1), joined_on s found.0 x.0.1 (concat more.0) found.1 more.2)
      | inr isnt ↦
          let rest = encode_utf8_all cs in
          let both = and_parts (is_attr_char c) (list_all is_attr_char cs) attr in
          let here : list_all (λ b. not (eqb b q)) (encode_utf8 c ++ rest) ≡ true = subst (λ l. list_all (λ b. not (eqb b q)) l ≡ true) (sym e) lacks in
          let stand_here : references_stand (encode_utf8 c ++ rest) ≡ true = subst (λ l. references_stand l ≡ true) (sym e) stand in
          let smaller : length rest ≤ n = rest_shorter c rest s n e le in
          let more = value_parts q n cs rest small smaller refl both.1 (list_all_behind (λ b. not (eqb b q)) (encode_utf8 c) rest here) (stand_behind (encode_utf8 c) rest stand_here) in
          let passes = and_from _ _ (and_from _ _ both.0 (not_from_false _ isnt)) (not_quote q c rest small here) in
          (encode_utf8 c ∷ more.0, (inl (c, passes, refl), more.1), joined_on s (encode_utf8 c) rest (concat more.0) (sym e) more.2)
    ]

found_of : (t : List ℕ) → IsReference t → (k : TokenKind) × IsFound k t
found_of t (inl f) = (char_ref, inl (refl, f))
found_of t (inr f) = (entity_ref, inr (refl, f))

value_attr : (q c : ℕ) → is_value_char q c ≡ true → (is_attr_char c ≡ true) × (not (eqb c 38) ≡ true) × (not (eqb c q) ≡ true)
value_attr q c h =
    let last = and_parts _ _ h in
    let middle = and_parts _ _ last.0 in
    (middle.0, middle.1, last.1)

value_stands : (q : ℕ) (parts : List (List ℕ)) → AllByRecursion (IsValuePart q) parts → references_stand (concat parts) ≡ true
value_stands q [] h = refl
value_stands q (p ∷ ps) (inl (c, test, e), more) =
    let parts = value_attr q c test in
    rw e (no_ampersand_stand (encode_utf8 c) (concat ps) (bytes_lack 38 (encode_utf8 c) (omega arith) (spelt_char (λ c. not (eqb c 38)) c parts.1)) ∙ value_stands q ps more)
value_stands q (p ∷ ps) (inr ref, more) =
    let found = found_of p ref in
    reference_stand found.0 p (concat ps) found.1 ∙ value_stands q ps more

pub value_spelt : (q : ℕ) (parts : List (List ℕ)) → AllByRecursion (IsValuePart q) parts → IsSpeltBy (λ cs. list_all is_attr_char cs) (concat parts)
value_spelt q [] h = ([], refl, refl)
value_spelt q (p ∷ ps) (inl (c, test, e), more) =
    let parts = value_attr q c test in
    rw e (spelt_joined is_attr_char (encode_utf8 c) (concat ps) (spelt_char is_attr_char c parts.0) (value_spelt q ps more))
value_spelt q (p ∷ ps) (inr ref, more) =
    let found = found_of p ref in
    spelt_joined is_attr_char p (concat ps) (found_spelt found.0 p found.1) (value_spelt q ps more)

inner_no_quote : (q b : ℕ) → IsQuote q → is_inner b ≡ true → not (eqb b q) ≡ true
inner_no_quote q b (inl e) h = rw e (grind (arith, nat_tests))
inner_no_quote q b (inr e) h = rw e (grind (arith, nat_tests))

amp_no_quote : (q : ℕ) → IsQuote q → not (eqb 38 q) ≡ true
amp_no_quote q (inl e) = rw e refl
amp_no_quote q (inr e) = rw e refl

reference_lacks : (q : ℕ) (k : TokenKind) (t : List ℕ) → IsQuote q → IsFound k t → list_all (λ b. not (eqb b q)) t ≡ true
reference_lacks q k t is f =
    let inner = found_inner k t f in
    let split = inner.1 in
    rw split (and_from _ _ (amp_no_quote q is) (list_all_weaker is_inner (λ b. not (eqb b q)) (λ b h. inner_no_quote q b is h) inner.0 inner.2))

value_lacks : (q : ℕ) (parts : List (List ℕ)) → IsQuote q → AllByRecursion (IsValuePart q) parts → list_all (λ b. not (eqb b q)) (concat parts) ≡ true
value_lacks q [] is h = refl
value_lacks q (p ∷ ps) is (inl (c, test, e), more) =
    let parts = value_attr q c test in
    rw e (list_all_joined (λ b. not (eqb b q)) (encode_utf8 c) (concat ps) (bytes_lack q (encode_utf8 c) (quote_small q is) (spelt_char (λ c. not (eqb c q)) c parts.2)) (value_lacks q ps is more))
value_lacks q (p ∷ ps) is (inr ref, more) =
    let found = found_of p ref in
    list_all_joined (λ b. not (eqb b q)) p (concat ps) (reference_lacks q found.0 p is found.1) (value_lacks q ps is more)

value_passes : (q : ℕ) (parts : List (List ℕ)) → AllByRecursion (IsValuePart q) parts → is_value (concat parts) ≡ true
value_passes q parts h =
    let spelt = value_spelt q parts h in
    let read : chars (concat parts) ≡ spelt.0 = ap chars (sym spelt.1) ∙ chars-encodes spelt.0 (attr_scalars spelt.0 spelt.2) in
    and_from _ _ (ap (λ cs. list_all is_attr_char cs) read ∙ spelt.2) (value_stands q parts h)

value_takes : (q : ℕ) (s r : List ℕ) → IsUtf8 s → q < 128 → after_value q s ≡ Some r → IsMadeOf q (take_while (λ b. not (eqb b q)) s) × (s ≡ take_while (λ b. not (eqb b q)) s ++ (q ∷ r))
value_takes q s r u small h =
    let test = λ (b : ℕ). not (eqb b q) in
    let front = take_while test s in
    elim (cases_Bool (is_value front)) [
      | inl f ↦
          let rest : after q (drop_while test s) ≡ Some r = rw f at h in
          let ends : (b : ℕ) → test b ≡ false → b < 128 = λ b e. omega (arith, eqb-true b q (not-false _ e)) in
          let utf8 : IsUtf8 front = subst IsUtf8 (take_while_is test s) (IsUtf8-take s (prefix_len test s) u (boundary_at_stop test s ends)) in
          let both = and_parts _ _ f in
          let made = value_parts q (length front) (chars front) front small (omega arith) (encodes-chars front utf8) both.0 (take_while_passes test s) both.1 in
          (made, take_while_split test s ∙ ap (λ t. front ++ t) (after_takes q (drop_while test s) r rest))
      | inr f ↦ let none : None ≡ Some r = rw f at h in absurd (cc)
    ]

quote_cases : (b : ℕ) → (eqb b 34 || eqb b 39) ≡ true → IsQuote b
quote_cases b h = ⊎_elim (λ e. inl (eqb-true b 34 e)) (λ e. inr (eqb-true b 39 e)) (or_cases _ _ h)

pub quoted_takes : (s r : List ℕ) → IsUtf8 s → after_quoted s ≡ Some r → (p : List ℕ) × IsAttValue p × (s ≡ p ++ r)
quoted_takes [] r u h = absurd (cc)
quoted_takes (b ∷ bs) r u h =
    elim (cases_Bool (eqb b 34 || eqb b 39)) [
      | inl e ↦
          let rest : after_value b bs ≡ Some r = rw e at h in
          let quote = quote_cases b e in
          let small = quote_small b quote in
          let found = value_takes b bs r (utf8_behind b bs small u) small rest in
          let value = take_while (λ c. not (eqb c b)) bs in
          ((b ∷ value) ++ b ∷ [], (b, found.0.0, quote, found.0.1, ap (λ t. (b ∷ t) ++ b ∷ []) found.0.2), ap (λ t. b ∷ t) (found.1 ∙ sym (append_assoc value (b ∷ []) r)))
      | inr e ↦ let none : None ≡ Some r = rw e at h in absurd (cc)
    ]

pub quoted_utf8 : (p : List ℕ) → IsAttValue p → IsUtf8 p
quoted_utf8 p (q, parts, is, made, split) =
    let one : IsUtf8 (q ∷ []) = ⊎_elim (λ i. rw i (ascii (codes "\"") refl)) (λ i. rw i (ascii (codes "'") refl)) is in
    let spelt = value_spelt q parts made in
    rw split (IsUtf8-append (q ∷ concat parts) (q ∷ []) (IsUtf8-append (q ∷ []) (concat parts) one (spelt.0, (attr_scalars spelt.0 spelt.2, spelt.1))) one)

value_again : (q : ℕ) (v r : List ℕ) → is_value v ≡ true → list_all (λ b. not (eqb b q)) v ≡ true → after_value q (v ++ (q ∷ r)) ≡ Some r
value_again q v r passes lacks =
    let test = λ (b : ℕ). not (eqb b q) in
    let same : eqb q q ≡ true = eq-eqb q q refl in
    let front : take_while test (v ++ (q ∷ r)) ≡ v = take_while_append test v (q ∷ r) lacks ∙ ap (λ t. v ++ t) (rw same refl) ∙ append-nil v in
    let back : drop_while test (v ++ (q ∷ r)) ≡ q ∷ r = drop_while_append test v (q ∷ r) lacks ∙ rw same refl in
    rw front (rw passes (rw back (rw same refl)))

quote_begins : (q : ℕ) (x r : List ℕ) → IsQuote q → after_value q x ≡ Some r → after_quoted (q ∷ x) ≡ Some r
quote_begins q x r (inl e) found =
    let test : (eqb q 34 || eqb q 39) ≡ true = rw e refl in
    rw test found
quote_begins q x r (inr e) found =
    let test : (eqb q 34 || eqb q 39) ≡ true = rw e refl in
    rw test found

pub quoted_again : (p r : List ℕ) → IsAttValue p → after_quoted (p ++ r) ≡ Some r
quoted_again p r (q, parts, is, made, split) =
    let whole : p ++ r ≡ q ∷ (concat parts ++ (q ∷ r)) = ap (λ t. t ++ r) split ∙ ap (λ t. q ∷ t) (append_assoc (concat parts) (q ∷ []) r) in
    let found = value_again q (concat parts) r (value_passes q parts made) (value_lacks q parts is made) in
    subst (λ t. after_quoted t ≡ Some r) (sym whole) (quote_begins q (concat parts ++ (q ∷ r)) r is found)
