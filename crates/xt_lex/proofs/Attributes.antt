-- Attributes: their form is lawful, and says what the standard says; what stands before and behind each part of one.
use Rattle.std.proofs.Common.{◌≡◌, ℕ, ◌<◌, length, Option, List, [], ◌∷◌, ◌++◌, ◌||◌, true, eqb, refl, ap, sym, subst, ◌∙◌, inl, inr, Some, None, eqb-true, append_assoc, map}
use Rattle.std.proofs.lemmas.Bool.{cases_Bool, and_parts, or_cases}
use Rattle.std.specs.List.{AllByRecursion, concat}
use Rattle.std.specs.Str.{IsUtf8}
use Rattle.xt_spec.specs.Char.{is_space}
use Rattle.xt_spec.specs.Name.{IsQName}
use Rattle.xt_spec.specs.Tag.{IsSpace, Attribute, attribute_text, IsAttribute, IsAttValue}
use Rattle.xt_scan.specs.Form.{space, ManySpell}
use Rattle.xt_scan.specs.Front.{rest_of}
use Rattle.xt_scan.specs.Step.{many_read}
use Rattle.xt_scan.specs.Look.{from_to, sees, solid_in}
use Rattle.xt_scan.proofs.Theorems.{Lawful, lawful_blank, lawful_both, lawful_given, lawful_space, lawful_spelled, lawful_step, lawful_word, many_end, many_step, sees_nothing, taken}
use Rattle.xt_lex.specs.QName.{q_name}
use Rattle.xt_lex.specs.Scan.{after_quoted}
use Rattle.xt_lex.specs.Tag.{att_value, attribute_of, attribute, Rests, attribute_rests}
use Rattle.xt_lex.specs.XmlDecl.{equals}
use Rattle.xt_lex.proofs.Declarations.{equals_is, is_equals}
use Rattle.xt_lex.proofs.QNames.{lawful_q_name}
use Rattle.xt_lex.proofs.StepLemmas.{bind_some}
use Rattle.xt_lex.proofs.Values.{quoted_takes, quoted_again, quoted_utf8}
pub use Rattle.xt_scan.proofs.Theorems.{utf8_rest}

-- ---- lawful

value_begins : (s r : List ℕ) → after_quoted s ≡ Some r → sees (solid_in (from_to 0x22 0x22 ∷ from_to 0x27 0x27 ∷ [])) s ≡ true
value_begins [] r h = absurd (cc)
value_begins (b ∷ bs) r h =
    elim (cases_Bool (eqb b 34 || eqb b 39)) [
      | inl e ↦ elim (or_cases _ _ e) [
        | inl is ↦ let same = eqb-true b 34 is in rw same refl
        | inr is ↦ let same = eqb-true b 39 is in rw same refl
      ]
      | inr e ↦ let none : None ≡ Some r = rw e at h in absurd (cc)
    ]

lawful_att_value : Lawful att_value
unfolding att_value
lawful_att_value = lawful_step IsAttValue after_quoted _ (record { takes = quoted_takes; again = quoted_again; begins = value_begins; utf8 = quoted_utf8 })

lawful_equals : Lawful equals
lawful_equals = search (lawful_both, lawful_word, lawful_blank) depth 14

pub lawful_attribute : Lawful attribute
unfolding attribute q_name att_value
lawful_attribute = search (lawful_given, lawful_both, lawful_spelled, lawful_space, lawful_word, lawful_blank, lawful_q_name, lawful_att_value) depth 20

-- ---- it says what the standard says

four_joined : (t s1 s2 t1 t2 t3 t4 : List ℕ) → t ≡ t1 ++ s1 → s1 ≡ t2 ++ s2 → s2 ≡ t3 ++ t4 → t ≡ t1 ++ t2 ++ t3 ++ t4
four_joined t s1 s2 t1 t2 t3 t4 a b c = rw (a, b, c) (simp append_assoc)

pub attribute_is : (a : Attribute) (t : List ℕ) → attribute.Spells a t → IsAttribute a × (t ≡ attribute_text a)
unfolding attribute q_name att_value
attribute_is a t (x, (sp, r1, t1, s1, (e1, (u1, is1)), (nm, r2, t2, s2, (e2, (v2, is2)), (eq, q, t3, t4, (e3, (u3, is3)), (e4, (u4, is4)), h3, g3), h2, g2), h1, g1), h) =
    let p3 : ◌≡◌ {A = List ℕ × List ℕ} (t3, t4) r2 = rw (← e3, ← e4) h3 in
    let p2 : ◌≡◌ {A = List ℕ × (List ℕ × List ℕ)} (t2, (t3, t4)) r1 = rw (← e2, p3) h2 in
    let p1 : ◌≡◌ {A = List ℕ × (List ℕ × (List ℕ × List ℕ))} (t1, (t2, (t3, t4))) x = rw (← e1, p2) h1 in
    let same : attribute_of (t1, (t2, (t3, t4))) ≡ a = ap attribute_of p1 ∙ h in
    subst (λ a. IsAttribute a × (t ≡ attribute_text a)) same (record { space = is1; name = subst IsQName (sym is2.0) is2.1; equals = equals_is u3 t3 is3; quoted = is4 }, four_joined t s1 s2 t1 t2 t3 t4 g1 g2 g3)

four_split : (x y z w : List ℕ) → x ++ y ++ z ++ w ≡ x ++ (y ++ (z ++ w))
four_split x y z w = simp append_assoc

pub is_attribute : (a : Attribute) → IsAttribute a → attribute.Spells a (attribute_text a)
unfolding attribute q_name att_value
is_attribute a is = (
  (a.space, (a.name, (a.equals, a.quoted))),
  (
    a.space,
    (a.name, (a.equals, a.quoted)),
    a.space,
    a.name ++ (a.equals ++ a.quoted),
    (refl, (tt, is.space)),
    (a.name, (a.equals, a.quoted), a.name, a.equals ++ a.quoted, (refl, (a.name, (refl, is.name))), (a.equals, a.quoted, a.equals, a.quoted, (refl, (tt, is_equals a.equals is.equals)), (refl, (tt, is.quoted)), refl, refl), refl, refl),
    refl,
    four_split a.space a.name a.equals a.quoted,
  ),
  refl,
)

pub attributes_are : (parts : List Attribute) (t : List ℕ) → ManySpell attribute.Spells parts t → AllByRecursion IsAttribute parts × (t ≡ concat (map attribute_text parts))
attributes_are [] t e = (tt, e)
attributes_are (p ∷ ps) t (t1, t2, first, rest, e) =
    let one = attribute_is p t1 first in
    let more = attributes_are ps t2 rest in
    ((one.0, more.0), e ∙ ap (λ x. x ++ t2) one.1 ∙ ap (λ x. attribute_text p ++ x) more.1)

pub are_attributes : (parts : List Attribute) → AllByRecursion IsAttribute parts → ManySpell attribute.Spells parts (concat (map attribute_text parts))
are_attributes [] h = refl
are_attributes (p ∷ ps) h = (attribute_text p, concat (map attribute_text ps), is_attribute p h.0, are_attributes ps h.1, refl)

pub attribute_again : (a : Attribute) (r : List ℕ) → IsAttribute a → attribute.read (attribute_text a ++ r) ≡ Some (a, r)
unfolding attribute q_name att_value
attribute_again a r is = lawful_attribute.again a (attribute_text a) r (is_attribute a is) (sees_nothing r)

begins_by : (sp name eq quoted : List ℕ) → IsSpace sp → (b : ℕ) × (x : List ℕ) × (sp ++ name ++ eq ++ quoted ≡ b ∷ x) × (is_space b ≡ true)
begins_by [] name eq quoted h = absurd (h.1 refl)
begins_by (b ∷ bs) name eq quoted h = (b, bs ++ name ++ eq ++ quoted, refl, (and_parts _ _ h.0).0)

pub attribute_begins : (a : Attribute) → IsAttribute a → (b : ℕ) × (x : List ℕ) × (attribute_text a ≡ b ∷ x) × (is_space b ≡ true)
attribute_begins a is = begins_by a.space a.name a.equals a.quoted is.space

-- ---- the loop over them

rest_some : {A : Type 0} (o : Option (A × List ℕ)) (r : List ℕ) → rest_of o ≡ Some r → (x : A × List ℕ) × (o ≡ Some x) × (x.1 ≡ r)
rest_some None r h = absurd (cc)
rest_some (Some x) r h = (x, refl, cc (h))

rest_none : {A : Type 0} (o : Option (A × List ℕ)) → rest_of o ≡ None → o ≡ None
rest_none None h = refl
rest_none (Some x) h = absurd (cc)

pub attribute_step : (s r : List ℕ) → IsUtf8 s → rest_of (attribute.read s) ≡ Some r → (length r < length s) × ((many_read attribute.read s).1 ≡ (many_read attribute.read r).1) × IsUtf8 r
unfolding attribute
attribute_step s r u h =
    let x = rest_some (attribute.read s) r h in
    subst (λ r. (length r < length s) × ((many_read attribute.read s).1 ≡ (many_read attribute.read r).1) × IsUtf8 r) x.2 (many_step attribute lawful_attribute refl s x.0 u x.1)

pub attribute_end : (s : List ℕ) → rest_of (attribute.read s) ≡ None → (many_read attribute.read s).1 ≡ s
unfolding attribute
attribute_end s h = many_end attribute lawful_attribute refl s (rest_none (attribute.read s) h)

-- ---- its parts

-- an attribute stands at the front, and these are what follows its parts
pub record AttributeFront (s : List ℕ) (x : Rests) : Type 0 where
  pub parts : Attribute
  pub is_attribute : IsAttribute parts
  pub space : s ≡ parts.space ++ x.0
  pub name : x.0 ≡ parts.name ++ x.1
  pub equals : x.1 ≡ parts.equals ++ x.2
  pub quoted : x.2 ≡ parts.quoted ++ x.3
  pub space_utf8 : IsUtf8 x.0
  pub name_utf8 : IsUtf8 x.1
  pub equals_utf8 : IsUtf8 x.2
  pub utf8 : IsUtf8 x.3

pub rests_takes : (s : List ℕ) (x : Rests) → IsUtf8 s → attribute_rests s ≡ Some x → AttributeFront s x
unfolding attribute_rests q_name att_value
rests_takes s x u h =
    let a = bind_some (space.read s) _ _ h in
    let b = bind_some (q_name.read a.0.1) _ _ a.2 in
    let c = bind_some (equals.read b.0.1) _ _ b.2 in
    let d = bind_some (att_value.read c.0.1) _ _ c.2 in
    let same : ◌≡◌ {A = Rests} (a.0.1, b.0.1, c.0.1, d.0.1) x = cc (d.2) in
    let sp = taken space lawful_space s a.0.0 a.0.1 u a.1 in
    let name = taken q_name lawful_q_name a.0.1 b.0.0 b.0.1 sp.3 b.1 in
    let eq = taken equals lawful_equals b.0.1 c.0.0 c.0.1 name.3 c.1 in
    let quoted = taken att_value lawful_att_value c.0.1 d.0.0 d.0.1 eq.3 d.1 in
    subst (AttributeFront s) same (record {
      parts = record { space = sp.0; name = name.0; equals = eq.0; quoted = quoted.0 };
      is_attribute = record { space = sp.1; name = subst IsQName (sym name.1.0) name.1.1; equals = equals_is c.0.0 eq.0 eq.1; quoted = quoted.1 };
      space = sp.2;
      name = name.2;
      equals = eq.2;
      quoted = quoted.2;
      space_utf8 = sp.3;
      name_utf8 = name.3;
      equals_utf8 = eq.3;
      utf8 = quoted.3;
    })

whole_joined : (s s1 s2 s3 r sp name equals quoted : List ℕ) → s ≡ sp ++ s1 → s1 ≡ name ++ s2 → s2 ≡ equals ++ s3 → s3 ≡ quoted ++ r → s ≡ (sp ++ name ++ equals ++ quoted) ++ r
whole_joined s s1 s2 s3 r sp name equals quoted a b c d = rw (a, b, c, d) (simp append_assoc)

pub front_whole : (s : List ℕ) (x : Rests) → (f : AttributeFront s x) → s ≡ attribute_text f.parts ++ x.3
front_whole s x f = whole_joined s x.0 x.1 x.2 x.3 f.parts.space f.parts.name f.parts.equals f.parts.quoted f.space f.name f.equals f.quoted
