-- The XML declaration and the text declaration: their forms are lawful, and say what the standard says.
use Rattle.std.proofs.Common.{◌≡◌, ℕ, List, [], ◌∷◌, ◌++◌, Bool, true, false, ltb, refl, ap, sym, subst, ◌∙◌, arith, inl, inr, Option, Some, None, IsTrue, codes, eqb-true, append_assoc}
use Rattle.std.proofs.lemmas.Bool.{cases_Bool, and_parts, and_from, or_cases, both_ways}
use Rattle.std.proofs.lemmas.Bool.Decides.{nat_tests}
use Rattle.std.proofs.lemmas.Slice.Eq.{bytes_eq-Decides}
use Rattle.std.specs.List.{list_all}
use Rattle.std.specs.Option.{option_map, IfSome, IfNone}
use Rattle.std.specs.Str.{IsUtf8}
use Rattle.xt_spec.specs.Reference.{is_decimal_digit}
use Rattle.xt_spec.specs.Declaration.{is_version_num, is_latin_letter, is_encoding_char, is_enc_name, is_yes_or_no, IsQuoted, IsWordAndValue, IsPart, Declaration, IsDeclarationOf, IsDeclaration}
use Rattle.xt_spec.specs.Char.{is_space}
use Rattle.xt_spec.specs.Tag.{IsEq}
use Rattle.xt_scan.specs.Look.{sees, in_class, anything, solid_in}
use Rattle.xt_scan.specs.Form.{MaybeSpells}
use Rattle.xt_scan.specs.Front.{whole}
use Rattle.xt_scan.proofs.Theorems.{sees_apart, sees_anything, sees_nothing, whole_takes, one_value, whole_none, Leads, Lawful, lawful_both, lawful_given, lawful_such, lawful_maybe, lawful_word, lawful_space, lawful_blank, lawful_quoted_ascii, Stops, stops_at, all_weaker}
use Rattle.xt_lex.specs.DeclaredValues.{values_of}
use Rattle.xt_lex.specs.declared.declaration.Declaration.{Declaration as Values}
use Rattle.xt_lex.specs.NameTest.{is_name_byte, name_class}
use Rattle.xt_lex.specs.Scan.{take_while, drop_while}
use Rattle.xt_lex.specs.XmlDecl.{equals, word_value, version, encoding, standalone, has_form, declaration_of, declared_values, xml_decl}
use Rattle.xt_lex.proofs.QNames.{byte_in_class}
use Rattle.xt_lex.proofs.StepLemmas.{space_no_name}

-- ---- what the tests let pass is ASCII

digit_small : (b : ℕ) → is_decimal_digit b ≡ true → ltb b 128 ≡ true
digit_small b h = grind (arith, nat_tests)

encoding_small : (b : ℕ) → is_encoding_char b ≡ true → ltb b 128 ≡ true
encoding_small b h = grind (arith, nat_tests)

version_ascii : (v : List ℕ) → is_version_num v ≡ true → list_all (λ b. ltb b 128) v ≡ true
version_ascii [] h = absurd (cc)
version_ascii (a ∷ []) h = absurd (cc)
version_ascii (a ∷ b ∷ []) h = absurd (cc)
version_ascii (a ∷ b ∷ c ∷ cs) h =
    let first = and_parts _ _ h in
    let both = and_parts _ _ first.0 in
    let one : a ≡ 49 = eqb-true a 49 both.0 in
    let two : b ≡ 46 = eqb-true b 46 both.1 in
    rw (one, two) (all_weaker is_decimal_digit (λ b. ltb b 128) digit_small (c ∷ cs) first.1)

letter_small : (b : ℕ) → is_latin_letter b ≡ true → ltb b 128 ≡ true
letter_small b h = grind (arith, nat_tests)

enc_ascii : (v : List ℕ) → is_enc_name v ≡ true → list_all (λ b. ltb b 128) v ≡ true
enc_ascii [] h = absurd (cc)
enc_ascii (b ∷ bs) h =
    let both = and_parts _ _ h in
    and_from _ _ (letter_small b both.0) (all_weaker is_encoding_char (λ b. ltb b 128) encoding_small bs both.1)

yes_ascii : (v : List ℕ) → is_yes_or_no v ≡ true → list_all (λ b. ltb b 128) v ≡ true
yes_ascii v h = elim (or_cases _ _ h) [
  | inl e ↦ let is : v ≡ codes "yes" = (bytes_eq-Decides v (codes "yes")).0 e in rw is refl
  | inr e ↦ let is : v ≡ codes "no" = (bytes_eq-Decides v (codes "no")).0 e in rw is refl
]

-- ---- lawful

lawful_version : Lawful version
unfolding version
lawful_version = search (lawful_both, lawful_word, lawful_space, lawful_blank, lawful_quoted_ascii, version_ascii) depth 20

lawful_encoding : Lawful encoding
unfolding encoding
lawful_encoding = search (lawful_both, lawful_word, lawful_space, lawful_blank, lawful_quoted_ascii, enc_ascii) depth 20

lawful_standalone : Lawful standalone
unfolding standalone
lawful_standalone = search (lawful_both, lawful_word, lawful_space, lawful_blank, lawful_quoted_ascii, yes_ascii) depth 20

lawful_values : Lawful declared_values
unfolding declared_values version encoding standalone
lawful_values = search (lawful_such, lawful_given, lawful_both, lawful_maybe, lawful_word, lawful_blank, lawful_version, lawful_encoding, lawful_standalone) depth 20

lawful_xml_decl : Lawful xml_decl
unfolding xml_decl declared_values version encoding standalone
lawful_xml_decl = search (lawful_both, lawful_word, lawful_values) depth 20

-- ---- they say what the standard says

equals_joined : (t before r e behind_ : List ℕ) → t ≡ before ++ r → r ≡ e ++ behind_ → e ≡ codes "=" → t ≡ before ++ codes "=" ++ behind_
equals_joined t before r e behind_ a b c = rw (a, b, c) (simp append_assoc)

pub equals_is : (v : Unit {0}) (t : List ℕ) → equals.Spells v t → IsEq t
equals_is v t (_, _, before, r, first, (_, _, e, behind_, is, second, _, split), _, whole_) = (before, behind_, first, second, equals_joined t before r e behind_ whole_ split is)

pub is_equals : (t : List ℕ) → IsEq t → equals.Spells tt t
is_equals t (before, behind_, first, second, e) = (tt, tt, before, codes "=" ++ behind_, first, (tt, tt, codes "=", behind_, refl, second, refl, refl), refl, e ∙ append_assoc before (codes "=") behind_)

word_joined : (t space r1 w w1 r2 eq q : List ℕ) → t ≡ space ++ r1 → r1 ≡ w1 ++ r2 → w1 ≡ w → r2 ≡ eq ++ q → t ≡ space ++ w ++ eq ++ q
word_joined t space r1 w w1 r2 eq q a b c d = rw (a, b, c, d) (simp append_assoc)

word_split : (t space w eq q : List ℕ) → t ≡ space ++ w ++ eq ++ q → t ≡ space ++ (w ++ (eq ++ q))
word_split t space w eq q e = e ∙ (simp append_assoc)

value_is : (w : List ℕ) (test : List ℕ → Bool) (v t : List ℕ) → (word_value w test).Spells v t → IsTrue (test v) × IsWordAndValue w v t
value_is w test v t (_, y, space, r1, is_space, (_, y1, w1, r2, is_word, (_, y2, eq, q, is_eq, (passes, is_quoted), c, s2), b, s1), a, s0) =
    let same : y2 ≡ v = c ∙ b ∙ a in (
      subst (λ v. IsTrue (test v)) same passes,
      record {
        space = space;
        equals = eq;
        quoted = q;
        is_space = is_space;
        is_eq = equals_is _ eq is_eq;
        is_quoted = subst (λ v. IsQuoted v q) same is_quoted;
        spelled = word_joined t space r1 w w1 r2 eq q s0 s1 is_word s2;
      },
    )

is_value : (w : List ℕ) (test : List ℕ → Bool) (v t : List ℕ) → IsTrue (test v) → IsWordAndValue w v t → (word_value w test).Spells v t
is_value w test v t passes is = (tt, v, is.space, w ++ (is.equals ++ is.quoted), is.is_space, (tt, v, w, is.equals ++ is.quoted, refl, (tt, v, is.equals, is.quoted, is_equals is.equals is.is_eq, (passes, is.is_quoted), refl, refl), refl, refl), refl, word_split t is.space w is.equals is.quoted is.spelled)

part_is : (w : List ℕ) (test : List ℕ → Bool) (o : Option (List ℕ)) (t : List ℕ) → MaybeSpells (word_value w test).Spells o t → IsPart w test o t
part_is w test None t s = s
part_is w test (Some v) t s = value_is w test v t s

is_part : (w : List ℕ) (test : List ℕ → Bool) (o : Option (List ℕ)) (t : List ℕ) → IsPart w test o t → MaybeSpells (word_value w test).Spells o t
is_part w test None t is = is
is_part w test (Some v) t is = is_value w test v t is.0 is.1

parts_joined : (t head r v r1 e r2 s r3 blank end : List ℕ) → t ≡ head ++ r → head ≡ codes "<?xml" → r ≡ v ++ r1 → r1 ≡ e ++ r2 → r2 ≡ s ++ r3 → r3 ≡ blank ++ end → end ≡ codes "?>" → t ≡ codes "<?xml" ++ v ++ e ++ s ++ blank ++ codes "?>"
parts_joined t head r v r1 e r2 s r3 blank end a b c d f g h = rw (a, b, c, d, f, g, h) (simp append_assoc)

parts_split : (t v e s blank : List ℕ) → t ≡ codes "<?xml" ++ v ++ e ++ s ++ blank ++ codes "?>" → t ≡ codes "<?xml" ++ (v ++ (e ++ (s ++ (blank ++ codes "?>"))))
parts_split t v e s blank is = is ∙ (simp append_assoc)

declaration_is : (d : Declaration) (t : List ℕ) → xml_decl.Spells d t → IsDeclarationOf d t
unfolding xml_decl declared_values version encoding standalone
declaration_is d t (_, y, head, r, is_head, ((x, (v, es, t1, r1, sv, (e, s, t2, r2, se, (s0, u, t3, r3, ss, (_, _, blank, end, is_blank, is_end, _, e5), a4, e4), a3, e3), a2, e2), made), form), a0, e0) =
    let same : declaration_of (v, (e, s0)) ≡ d = ap declaration_of (ap (λ s. (v, (e, s))) a4 ∙ ap (λ es. (v, es)) a3 ∙ a2) ∙ made ∙ a0 in
    let has : IsTrue (has_form d) = subst (λ d. IsTrue (has_form d)) a0 form in
    subst (λ d. IsDeclarationOf d t) same (record {
      version = t1;
      encoding = t2;
      standalone = t3;
      blank = blank;
      has_version = part_is (codes "version") is_version_num v t1 sv;
      has_encoding = part_is (codes "encoding") is_enc_name e t2 se;
      has_standalone = part_is (codes "standalone") is_yes_or_no s0 t3 ss;
      is_blank = is_blank;
      form = subst (λ d. IsTrue (has_form d)) (sym same) has;
      spelled = parts_joined t head r t1 r1 t2 r2 t3 r3 blank end e0 is_head e2 e3 e4 e5 is_end;
    })

-- what stands behind `<?xml`
pub is_values : (d : Declaration) (t : List ℕ) → IsDeclarationOf d t → (v : List ℕ) × declared_values.Spells d v × (t ≡ codes "<?xml" ++ v)
unfolding declared_values version encoding standalone
is_values d t is =
    let end = is.blank ++ codes "?>" in (
      is.version ++ (is.encoding ++ (is.standalone ++ end)),
      (
        (
          (d.version, (d.encoding, d.standalone)),
          (
            d.version,
            (d.encoding, d.standalone),
            is.version,
            is.encoding ++ (is.standalone ++ end),
            is_part (codes "version") is_version_num d.version is.version is.has_version,
            (
              d.encoding,
              d.standalone,
              is.encoding,
              is.standalone ++ end,
              is_part (codes "encoding") is_enc_name d.encoding is.encoding is.has_encoding,
              (d.standalone, tt, is.standalone, end, is_part (codes "standalone") is_yes_or_no d.standalone is.standalone is.has_standalone, (tt, tt, is.blank, codes "?>", is.is_blank, refl, refl, refl), refl, refl),
              refl,
              refl,
            ),
            refl,
            refl,
          ),
          refl,
        ),
        is.form,
      ),
      parts_split t is.version is.encoding is.standalone is.blank is.spelled,
    )

is_declaration : (d : Declaration) (t : List ℕ) → IsDeclarationOf d t → xml_decl.Spells d t
unfolding xml_decl
is_declaration d t is = let values = is_values d t is in (tt, d, codes "<?xml", values.0, refl, values.1, refl, values.2)

-- ---- what the token and the public call need

pub declaration_takes : (s : List ℕ) (x : Declaration × List ℕ) → IsUtf8 s → declared_values.read s ≡ Some x → (t : List ℕ) × IsDeclarationOf x.0 t × (codes "<?xml" ++ s ≡ t ++ x.1)
unfolding xml_decl
declaration_takes s x u h =
    let one = lawful_values.takes s x.0 x.1 u h in
    (codes "<?xml" ++ one.0, declaration_is x.0 (codes "<?xml" ++ one.0) (tt, x.0, codes "<?xml", one.0, refl, one.1, refl, refl), ap (λ s. codes "<?xml" ++ s) one.2)

pub values_again : (d : Declaration) (v r : List ℕ) → declared_values.Spells d v → declared_values.read (v ++ r) ≡ Some (d, r)
unfolding declared_values version encoding standalone
values_again d v r spells = lawful_values.again d v r spells (sees_nothing r)

no_name : (b : ℕ) (bs : List ℕ) → sees (solid_in name_class) (b ∷ bs) ≡ false → is_name_byte b ≡ false
no_name b bs out =
    elim (cases_Bool (is_space b)) [
      | inl e ↦ space_no_name b e
      | inr e ↦
          let none : in_class name_class b ≡ false = rw e at out in
          elim (cases_Bool (is_name_byte b)) [
            | inl name ↦ absurd (both_ways _ none (byte_in_class b name))
            | inr other ↦ other
          ]
    ]

stops : (d : Declaration) (v r : List ℕ) → declared_values.Spells d v → Leads declared_values.null declared_values.front v → Stops is_name_byte (v ++ r)
unfolding declared_values version encoding standalone
stops d v r spells (inl p) = absurd (cc (p.1))
stops d v r spells (inr p) =
    let out = sees_apart (declared_values.front anything) (solid_in name_class) (v ++ r) refl (p.1 anything r (sees_anything r)) in
    stops_at is_name_byte (v ++ r) (λ b bs e. no_name b bs (subst (λ s. sees (solid_in name_class) s ≡ false) e out))

-- the target of a declaration is `xml`
pub values_target : (d : Declaration) (v r : List ℕ) → declared_values.Spells d v → (take_while is_name_byte (codes "xml" ++ (v ++ r)) ≡ codes "xml") × (drop_while is_name_byte (codes "xml" ++ (v ++ r)) ≡ v ++ r)
values_target d v r spells =
    let none = stops d v r spells (lawful_values.leads d v spells) in
    (ap (λ t. codes "xml" ++ t) none.0, none.1)

pub declaration_utf8 : (d : Declaration) (t : List ℕ) → IsDeclarationOf d t → IsUtf8 t
declaration_utf8 d t is = lawful_xml_decl.utf8 d t (is_declaration d t is)

ends : sees xml_decl.bars [] ≡ false
unfolding xml_decl declared_values version encoding standalone
ends = refl

pub declaration_unique : (text : List ℕ) (d e : Declaration) → IsDeclarationOf d text → IsDeclarationOf e text → d ≡ e
declaration_unique text d e a b = one_value xml_decl lawful_xml_decl ends text d e (is_declaration d text a) (is_declaration e text b)

-- the clauses of the call
pub read_only : (text : List ℕ) (r : Option Values) → IsUtf8 text → option_map values_of r ≡ whole (xml_decl.read text) → IfSome r (λ d. IsDeclarationOf (values_of d) text)
read_only text None u h = tt
read_only text (Some d) u h = declaration_is (values_of d) text (whole_takes xml_decl lawful_xml_decl text (values_of d) u (sym h))

pub read_one : (text : List ℕ) (r : Option Values) → IsUtf8 text → option_map values_of r ≡ whole (xml_decl.read text) → IfSome r (λ d. (e : Declaration) → IsDeclarationOf e text → e ≡ values_of d)
read_one text None u h = tt
read_one text (Some d) u h = λ e is. declaration_unique text e (values_of d) is (read_only text (Some d) u h)

pub read_none : (text : List ℕ) (r : Option Values) → option_map values_of r ≡ whole (xml_decl.read text) → IfNone r (¬ IsDeclaration text)
read_none text None h = λ x. whole_none xml_decl values_of lawful_xml_decl ends text None h x.0 (is_declaration x.0 text x.1)
read_none text (Some d) h = tt
