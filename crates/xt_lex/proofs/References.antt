-- References: what the steps find is spelled so, and what is spelled so they find.
use Rattle.std.proofs.Common.{◌≡◌, ◌≢◌, ℕ, List, [], ◌∷◌, ◌++◌, Bool, true, false, eqb, ltb, ◌||◌, ◌⊎◌, refl, ap, sym, subst, ◌∙◌, arith, inl, inr, Option, Some, None, eqb-true, codes, append_assoc, append-nil}
use Rattle.std.proofs.lemmas.Bool.{cases_Bool, both_ways, and_parts}
use Rattle.std.proofs.lemmas.Bool.Decides.{nat_tests}
use Rattle.std.specs.List.{list_all}
use Rattle.std.specs.Str.{IsUtf8}
use Rattle.std.specs.Option.{MatchOption}
use Rattle.xt_spec.specs.Char.{is_char, is_name_char}
use Rattle.xt_spec.specs.Name.{IsNCName, IsSpeltBy}
use Rattle.xt_spec.specs.Reference.{is_decimal_digit, is_hexadecimal_digit, number_behind, AreDigits, NamesChar, IsEntityRef, StandsFor}
use Rattle.xt_spec.specs.Token.{TokenKind, char_ref, entity_ref}
use Rattle.xt_lex.specs.NameTest.{is_name_byte}
use Rattle.xt_lex.specs.Scan.{maybe, take_while, drop_while, after, after_ncname, named, after_number, after_char_ref, entity_step, number_step, ended, numbered, reference, is_attr_char}
use Rattle.xt_lex.proofs.NameLemmas.{ncname_passes, ncname_nonempty, name_all}
use Rattle.xt_lex.proofs.Spelling.{list_all_weaker, list_all_joined, spelt_joined, spelt_ascii}
use Rattle.xt_lex.proofs.StepLemmas.{bind_some, take_while_split, take_while_passes, take_while_append, drop_while_append, after_takes, after_ncname_takes, after_ncname_again, utf8_behind}

pub pair_parts : {A : Type 0} (x y : A) (q r : List ℕ) → ◌≡◌ {A = Option (A × List ℕ)} (Some (x, q)) (Some (y, r)) → (x ≡ y) × (q ≡ r)
pair_parts {A} x y q r h =
    let same : ◌≡◌ {A = A × List ℕ} (x, q) (y, r) = cc in
    (ap (λ p. p.0) same, ap (λ p. p.1) same)

named_some : (base : ℕ) (digits : List ℕ) (c : ℕ) → named base digits ≡ Some c → (is_char c ≡ true) × (number_behind base 0 digits ≡ c)
named_some base digits c h =
    elim (cases_Bool (is_char (number_behind base 0 digits))) [
      | inl e ↦
          let found : Some (number_behind base 0 digits) ≡ Some c = rw e at h in
          let same : number_behind base 0 digits ≡ c = cc in
          (subst (λ n. is_char n ≡ true) same e, same)
      | inr e ↦ let none : None ≡ Some c = rw e at h in absurd (cc)
    ]

number_takes : (base : ℕ) (is_digit : ℕ → Bool) (s r : List ℕ) (c : ℕ) → after_number base is_digit s ≡ Some (c, r) → (is_char c ≡ true) × AreDigits base is_digit (take_while is_digit s) c × (s ≡ take_while is_digit s ++ (59 ∷ r))
unfolding after_number
number_takes base is_digit s r c h =
    let n = bind_some (named base (take_while is_digit s)) _ _ h in
    let semicolon = bind_some (after 59 (drop_while is_digit s)) _ _ n.2 in
    let found = pair_parts n.0 c semicolon.0 r semicolon.2 in
    let char = named_some base (take_while is_digit s) n.0 n.1 in
    let same : number_behind base 0 (take_while is_digit s) ≡ c = char.1 ∙ found.0 in
    let test : is_char c ≡ true = subst (λ n. is_char n ≡ true) found.0 char.0 in
    let close = after_takes 59 (drop_while is_digit s) semicolon.0 semicolon.1 in (
      test,
      record {
        some = λ e. let zero : 0 ≡ c = ap (λ ds. number_behind base 0 ds) (sym e) ∙ same in both_ways (is_char c) (subst (λ n. is_char n ≡ false) zero refl) test;
        all = take_while_passes is_digit s;
        spell = same;
      },
      take_while_split is_digit s ∙ ap (λ t. take_while is_digit s ++ t) (close ∙ ap (λ t. 59 ∷ t) found.1),
    )

number_again : (base : ℕ) (is_digit : ℕ → Bool) (digits r : List ℕ) (c : ℕ) → is_digit 59 ≡ false → AreDigits base is_digit digits c → is_char c ≡ true → after_number base is_digit (digits ++ (59 ∷ r)) ≡ Some (c, r)
unfolding after_number
number_again base is_digit digits r c semicolon d h =
    let front : take_while is_digit (digits ++ (59 ∷ r)) ≡ digits = take_while_append is_digit digits (59 ∷ r) d.all ∙ ap (λ t. digits ++ t) (rw semicolon refl) ∙ append-nil digits in
    let back : drop_while is_digit (digits ++ (59 ∷ r)) ≡ 59 ∷ r = drop_while_append is_digit digits (59 ∷ r) d.all ∙ rw semicolon refl in
    let test : is_char (number_behind base 0 digits) ≡ true = subst (λ n. is_char n ≡ true) (sym d.spell) h in
    let named_ : named base digits ≡ Some c = rw test (ap (λ n. Some n) d.spell) in
    rw (front, back) (rw named_ refl)

char_ref_by : (s r : List ℕ) (c : ℕ) (o : Option (List ℕ)) → after 120 s ≡ o → maybe (after_number 10 is_decimal_digit s) (after_number 16 is_hexadecimal_digit) o ≡ Some (c, r) → (t : List ℕ) × (s ≡ t ++ r) × NamesChar (38 ∷ 35 ∷ t) c
char_ref_by s r c None e h =
    let n = number_takes 10 is_decimal_digit s r c h in
    let digits = take_while is_decimal_digit s in
    (digits ++ codes ";", n.2 ∙ sym (append_assoc digits (codes ";") r), (n.0, inl (digits, n.1, refl)))
char_ref_by s r c (Some x) e h =
    let n = number_takes 16 is_hexadecimal_digit x r c h in
    let digits = take_while is_hexadecimal_digit x in
    (120 ∷ (digits ++ codes ";"), after_takes 120 s x e ∙ ap (λ t. 120 ∷ t) (n.2 ∙ sym (append_assoc digits (codes ";") r)), (n.0, inr (digits, n.1, refl)))

pub char_ref_takes : (s r : List ℕ) (c : ℕ) → after_char_ref s ≡ Some (c, r) → (t : List ℕ) × (s ≡ t ++ r) × NamesChar (38 ∷ 35 ∷ t) c
unfolding after_char_ref
char_ref_takes s r c h = char_ref_by s r c (after 120 s) refl h

no_x : (digits x : List ℕ) → digits ≢ [] → list_all is_decimal_digit digits ≡ true → after 120 (digits ++ x) ≡ None
no_x [] x some h = absurd (some refl)
no_x (d ∷ ds) x some h =
    let digit : is_decimal_digit d ≡ true = (and_parts _ _ h).0 in
    let e : eqb d 120 ≡ false = grind (arith, nat_tests) in
    rw e refl

pub char_ref_again : (t r : List ℕ) (c : ℕ) → NamesChar t c → (u : List ℕ) × (t ≡ 38 ∷ 35 ∷ u) × (after_char_ref (u ++ r) ≡ Some (c, r))
unfolding after_char_ref
char_ref_again t r c (h, inl (digits, d, e)) =
    let split : (digits ++ codes ";") ++ r ≡ digits ++ (59 ∷ r) = append_assoc digits (codes ";") r in
    let plain = no_x digits (59 ∷ r) d.some d.all in
    let again = number_again 10 is_decimal_digit digits r c refl d h in
    (digits ++ codes ";", e, rw split (rw plain again))
char_ref_again t r c (h, inr (digits, d, e)) =
    let split : (digits ++ codes ";") ++ r ≡ digits ++ (59 ∷ r) = append_assoc digits (codes ";") r in
    let again = number_again 16 is_hexadecimal_digit digits r c refl d h in
    (120 ∷ (digits ++ codes ";"), e, rw split again)

-- the text is a reference of the kind
abbrev pub IsFound : TokenKind → List ℕ → Type 0
IsFound k t = ((k ≡ char_ref) × ((c : ℕ) × NamesChar t c)) ⊎ ((k ≡ entity_ref) × IsEntityRef t)

reference_by : (s r : List ℕ) (k : TokenKind) (o : Option (List ℕ)) → IsUtf8 s → after 35 s ≡ o → maybe (entity_step s) number_step o ≡ Some (k, r) → (t : List ℕ) × (s ≡ t ++ r) × IsFound k (38 ∷ t)
reference_by s r k None u e h =
    let n = bind_some (after_ncname s) _ _ h in
    let semicolon = bind_some (after 59 n.0) _ _ n.2 in
    let found = pair_parts entity_ref k semicolon.0 r semicolon.2 in
    let name = after_ncname_takes s n.0 u n.1 in
    let close = after_takes 59 n.0 semicolon.0 semicolon.1 in
    let front = take_while is_name_byte s in
    (front ++ codes ";", name.1 ∙ ap (λ t. front ++ t) (close ∙ ap (λ t. 59 ∷ t) found.1) ∙ sym (append_assoc front (codes ";") r), inr (sym found.0, (front, name.0, refl)))
reference_by s r k (Some h1) u e h =
    let x = bind_some (after_char_ref h1) _ _ h in
    let found = pair_parts char_ref k x.0.1 r x.2 in
    let hash = after_takes 35 s h1 e in
    let spelled = char_ref_takes h1 x.0.1 x.0.0 x.1 in
    (35 ∷ spelled.0, hash ∙ ap (λ t. 35 ∷ t) (spelled.1 ∙ ap (λ t. spelled.0 ++ t) found.1), inl (sym found.0, (x.0.0, spelled.2)))

pub reference_takes : (s r : List ℕ) (k : TokenKind) → IsUtf8 s → reference s ≡ Some (k, r) → (t : List ℕ) × (s ≡ t ++ r) × IsFound k t
unfolding reference
reference_takes s r k u h =
    let amp = bind_some (after 38 s) _ _ h in
    let split = after_takes 38 s amp.0 amp.1 in
    let found = reference_by amp.0 r k (after 35 amp.0) (utf8_behind 38 amp.0 (omega arith) (subst IsUtf8 split u)) refl amp.2 in
    (38 ∷ found.0, split ∙ ap (λ t. 38 ∷ t) found.1, found.2)

no_hash : (name x : List ℕ) → IsNCName name → after 35 (name ++ x) ≡ None
no_hash [] x q = absurd (omega (arith, ncname_nonempty [] q))
no_hash (c ∷ cs) x q =
    elim (cases_Bool (eqb c 35)) [
      | inl e ↦
          let same : c ≡ 35 = eqb-true c 35 e in
          let byte : is_name_byte c ≡ true = (and_parts _ _ (ncname_passes (c ∷ cs) q)).0 in
          let bad : false ≡ true = rw same at byte in
          absurd (cc)
      | inr e ↦ rw e refl
    ]

pub reference_again : (t r : List ℕ) (k : TokenKind) → IsFound k t → reference (t ++ r) ≡ Some (k, r)
unfolding reference
reference_again t r k (inl (e, (c, names))) =
    let again = char_ref_again t r c names in
    let split : t ++ r ≡ 38 ∷ 35 ∷ (again.0 ++ r) = ap (λ t. t ++ r) again.1 in
    let found = again.2 in
    rw (split, e) (rw found refl)
reference_again t r k (inr (e, (name, q, is))) =
    let split : t ++ r ≡ 38 ∷ (name ++ (59 ∷ r)) = ap (λ t. t ++ r) is ∙ ap (λ t. 38 ∷ t) (append_assoc name (codes ";") r) in
    let plain = no_hash name (59 ∷ r) q in
    let found = after_ncname_again name (59 ∷ r) q refl refl in
    rw (split, e) (rw plain (rw found refl))

-- a byte that may stand in a reference behind its `&`
abbrev pub is_inner : ℕ → Bool
is_inner b = is_name_byte b || eqb b 59 || eqb b 35

name_inner : (b : ℕ) → is_name_byte b ≡ true → is_inner b ≡ true
name_inner b h = rw h refl

decimal_inner : (b : ℕ) → is_decimal_digit b ≡ true → is_inner b ≡ true
decimal_inner b h = grind (arith, nat_tests)

hexadecimal_inner : (b : ℕ) → is_hexadecimal_digit b ≡ true → is_inner b ≡ true
hexadecimal_inner b h = grind (arith, nat_tests)

pub found_inner : (k : TokenKind) (t : List ℕ) → IsFound k t → (u : List ℕ) × (t ≡ 38 ∷ u) × (list_all is_inner u ≡ true)
found_inner k t (inl (e, (c, (h, inl (digits, d, is))))) =
    (35 ∷ (digits ++ codes ";"), is, list_all_joined is_inner digits (codes ";") (list_all_weaker is_decimal_digit is_inner decimal_inner digits d.all) refl)
found_inner k t (inl (e, (c, (h, inr (digits, d, is))))) =
    (35 ∷ 120 ∷ (digits ++ codes ";"), is, list_all_joined is_inner digits (codes ";") (list_all_weaker is_hexadecimal_digit is_inner hexadecimal_inner digits d.all) refl)
found_inner k t (inr (e, (name, q, is))) =
    (name ++ codes ";", is, list_all_joined is_inner name (codes ";") (list_all_weaker is_name_byte is_inner name_inner name (ncname_passes name q)) refl)

decimal_ascii : (b : ℕ) → is_decimal_digit b ≡ true → ltb b 128 ≡ true
decimal_ascii b h = grind (arith, nat_tests)

hexadecimal_ascii : (b : ℕ) → is_hexadecimal_digit b ≡ true → ltb b 128 ≡ true
hexadecimal_ascii b h = grind (arith, nat_tests)

decimal_attr : (b : ℕ) → is_decimal_digit b ≡ true → is_attr_char b ≡ true
decimal_attr b h = grind (arith, nat_tests)

hexadecimal_attr : (b : ℕ) → is_hexadecimal_digit b ≡ true → is_attr_char b ≡ true
hexadecimal_attr b h = grind (arith, nat_tests)

name_attr : (c : ℕ) → is_name_char c ≡ true → is_attr_char c ≡ true
name_attr c h = grind (arith, nat_tests)

-- its characters may stand in a value
pub found_spelt : (k : TokenKind) (t : List ℕ) → IsFound k t → IsSpeltBy (λ cs. list_all is_attr_char cs) t
found_spelt k t (inl (e, (c, (h, inl (digits, d, is))))) =
    let spelt = spelt_ascii is_attr_char digits (list_all_weaker is_decimal_digit (λ b. ltb b 128) decimal_ascii digits d.all) (list_all_weaker is_decimal_digit is_attr_char decimal_attr digits d.all) in
    rw is (spelt_joined is_attr_char (codes "&#" ++ digits) (codes ";") (spelt_joined is_attr_char (codes "&#") digits (spelt_ascii is_attr_char (codes "&#") refl refl) spelt) (spelt_ascii is_attr_char (codes ";") refl refl))
found_spelt k t (inl (e, (c, (h, inr (digits, d, is))))) =
    let spelt = spelt_ascii is_attr_char digits (list_all_weaker is_hexadecimal_digit (λ b. ltb b 128) hexadecimal_ascii digits d.all) (list_all_weaker is_hexadecimal_digit is_attr_char hexadecimal_attr digits d.all) in
    rw is (spelt_joined is_attr_char (codes "&#x" ++ digits) (codes ";") (spelt_joined is_attr_char (codes "&#x") digits (spelt_ascii is_attr_char (codes "&#x") refl refl) spelt) (spelt_ascii is_attr_char (codes ";") refl refl))
found_spelt k t (inr (e, (name, (cs, spells, test), is))) =
    let spelt : IsSpeltBy (λ cs. list_all is_attr_char cs) name = (cs, spells, list_all_weaker is_name_char is_attr_char name_attr cs (name_all cs (and_parts _ _ test).0)) in
    rw is (spelt_joined is_attr_char (codes "&" ++ name) (codes ";") (spelt_joined is_attr_char (codes "&") name (spelt_ascii is_attr_char (codes "&") refl refl) spelt) (spelt_ascii is_attr_char (codes ";") refl refl))

numbered_by : (h : List ℕ) (c : ℕ) (x : ℕ × List ℕ) → after_char_ref h ≡ Some x → ended x.0 x.1 ≡ Some c → NamesChar (38 ∷ 35 ∷ h) c
numbered_by h c (d, []) e f =
    let spelled = char_ref_takes h [] d e in
    let same : d ≡ c = cc in
    let whole : h ≡ spelled.0 = spelled.1 ∙ append-nil spelled.0 in
    subst (λ c. NamesChar (38 ∷ 35 ∷ h) c) same (subst (λ t. NamesChar (38 ∷ 35 ∷ t) d) (sym whole) spelled.2)
numbered_by h c (d, b ∷ bs) e f = absurd (cc)

-- the whole text is a character reference, and this its Char
pub numbered_takes : (s : List ℕ) (c : ℕ) → numbered s ≡ Some c → NamesChar s c
unfolding numbered
numbered_takes s c h =
    let amp = bind_some (after 38 s) _ _ h in
    let hash = bind_some (after 35 amp.0) _ _ amp.2 in
    let x = bind_some (after_char_ref hash.0) _ _ hash.2 in
    let split : s ≡ 38 ∷ 35 ∷ hash.0 = after_takes 38 s amp.0 amp.1 ∙ ap (λ t. 38 ∷ t) (after_takes 35 amp.0 hash.0 hash.1) in
    subst (λ t. NamesChar t c) (sym split) (numbered_by hash.0 c x.0 x.1 x.2)

pub numbered_again : (s : List ℕ) (c : ℕ) → NamesChar s c → numbered s ≡ Some c
unfolding numbered
numbered_again s c h =
    let again = char_ref_again s [] c h in
    let split = again.1 in
    let found : after_char_ref again.0 ≡ Some (c, []) = ap after_char_ref (sym (append-nil again.0)) ∙ again.2 in
    rw split (rw found refl)

-- what a text stands for, from the answer at a character reference, where it is no reference to a predefined entity
pub stands_by : (s : List ℕ) (r : Option ℕ) → r ≡ numbered s → (s ≡ codes "&lt;" → ⊥) → (s ≡ codes "&gt;" → ⊥) → (s ≡ codes "&amp;" → ⊥) → (s ≡ codes "&apos;" → ⊥) → (s ≡ codes "&quot;" → ⊥) → MatchOption r ((c : ℕ) → ¬ StandsFor s c) (λ c. StandsFor s c)
stands_by s (Some c) e l g a p q = inl (numbered_takes s c (sym e))
stands_by s None e l g a p q = λ c stands. elim stands [
  | inl names ↦ let again = numbered_again s c names in absurd (cc)
  | inr known ↦ elim known [
    | inl is ↦ l is.0
    | inr known ↦ elim known [
      | inl is ↦ g is.0
      | inr known ↦ elim known [
        | inl is ↦ a is.0
        | inr known ↦ elim known [ inl is ↦ p is.0 | inr is ↦ q is.0 ]
      ]
    ]
  ]
]
