-- DOCTYPE declarations: their forms are lawful, and say what the standard says.
use Rattle.std.proofs.Common.{◌≡◌, ℕ, List, [], ◌∷◌, ◌++◌, true, ltb, refl, ap, sym, subst, ◌∙◌, arith, inl, inr, Some, None, codes, append_assoc}
use Rattle.std.proofs.lemmas.Bool.Decides.{nat_tests}
use Rattle.std.proofs.lemmas.Str.{IsUtf8-append}
use Rattle.std.specs.Str.{IsUtf8}
use Rattle.xt_spec.specs.Markup.{AreChars}
use Rattle.xt_spec.specs.Name.{IsQName}
use Rattle.xt_spec.specs.Doctype.{is_pubid_char, IsExternalId, subset_text, IsOptionalExternalId, IsOptionalSubset, IsDoctype}
use Rattle.xt_spec.specs.Token.{TokenKind, doctype}
use Rattle.xt_scan.specs.Look.{sees, from_to, solid_in}
use Rattle.xt_scan.proofs.Theorems.{Lawful, lawful_blank, lawful_both, lawful_either, lawful_given, lawful_maybe, lawful_quoted, lawful_quoted_ascii, lawful_space, lawful_step, lawful_word, all_weaker, sees_nothing}
use Rattle.xt_lex.specs.DoctypeDecl.{system_literal, pubid_literal, system_id, public_id, external_id, external, IsBracketed, bracketed, brackets, doctype_decl}
use Rattle.xt_lex.specs.Markup.{doctype_step}
use Rattle.xt_lex.specs.QName.{q_name}
use Rattle.xt_lex.specs.Scan.{after, are_chars, many, after_subset_part, after_bracketed}
use Rattle.xt_lex.proofs.Cuts.{chars_utf8, chars_from_test, test_from_chars, front_utf8}
use Rattle.xt_lex.proofs.QNames.{lawful_q_name}
use Rattle.xt_lex.proofs.References.{pair_parts}
use Rattle.xt_lex.proofs.StepLemmas.{bind_some, after_takes, utf8_behind}
use Rattle.xt_lex.proofs.Subsets.{subset_takes, subset_again}
use Rattle.xt_lex.proofs.Utf8.{ascii}

-- ---- external identifiers

lawful_system_literal : Lawful system_literal
unfolding system_literal
lawful_system_literal = lawful_quoted are_chars AreChars (record { from = chars_from_test; to = test_from_chars; utf8 = chars_utf8 })

pubid_small : (b : ℕ) → is_pubid_char b ≡ true → ltb b 128 ≡ true
pubid_small b h = grind (arith, nat_tests)

lawful_pubid_literal : Lawful pubid_literal
unfolding pubid_literal
lawful_pubid_literal = lawful_quoted_ascii _ (all_weaker is_pubid_char (λ b. ltb b 128) pubid_small)

lawful_system_id : Lawful system_id
unfolding system_id system_literal
lawful_system_id = search (lawful_both, lawful_word, lawful_space, lawful_system_literal) depth 14

lawful_public_id : Lawful public_id
unfolding public_id pubid_literal system_literal
lawful_public_id = search (lawful_both, lawful_word, lawful_space, lawful_system_literal, lawful_pubid_literal) depth 14

lawful_external : Lawful external
unfolding external external_id system_id public_id pubid_literal system_literal
lawful_external = search (lawful_given, lawful_maybe, lawful_both, lawful_either, lawful_space, lawful_system_id, lawful_public_id) depth 14

-- ---- the brackets

bracketed_joined : (s s1 m r subset : List ℕ) → s ≡ 91 ∷ s1 → s1 ≡ subset ++ m → m ≡ 93 ∷ r → s ≡ (codes "[" ++ subset ++ codes "]") ++ r
bracketed_joined s s1 m r subset a b c = rw (a, b, c) (simp append_assoc)

bracketed_takes : (s r : List ℕ) → IsUtf8 s → after_bracketed s ≡ Some r → (t : List ℕ) × IsBracketed t × (s ≡ t ++ r)
bracketed_takes s r u h =
    let opened = bind_some (after 91 s) _ _ h in
    let is = after_takes 91 s opened.0 opened.1 in
    let parts = subset_takes opened.0 in
    let end = after_takes 93 (many after_subset_part opened.0) r opened.2 in
    let subset = subset_text parts.0 in
    let inner : opened.0 ≡ subset ++ (93 ∷ r) = parts.2 ∙ ap (λ t. subset ++ t) end in
    let text = front_utf8 subset 93 r (omega arith) (subst IsUtf8 inner (utf8_behind 91 opened.0 (omega arith) (subst IsUtf8 is u))) in
    (codes "[" ++ subset ++ codes "]", (subset, (parts.0, parts.1, text, refl), refl), bracketed_joined s opened.0 (many after_subset_part opened.0) r subset is parts.2 end)

bracketed_split : (t subset r : List ℕ) → t ≡ codes "[" ++ subset ++ codes "]" → t ++ r ≡ 91 ∷ (subset ++ (93 ∷ r))
bracketed_split t subset r e = rw e (simp append_assoc)

bracketed_again : (t r : List ℕ) → IsBracketed t → after_bracketed (t ++ r) ≡ Some r
bracketed_again t r (subset, (parts, are, u, is), e) =
    let found : many after_subset_part (subset ++ (93 ∷ r)) ≡ 93 ∷ r = ap (λ s. many after_subset_part (s ++ (93 ∷ r))) is ∙ subset_again parts r are in
    rw (bracketed_split t subset r e) (rw found refl)

bracketed_begins : (s r : List ℕ) → after_bracketed s ≡ Some r → sees (solid_in (from_to 0x5B 0x5B ∷ [])) s ≡ true
bracketed_begins s r h =
    let opened = bind_some (after 91 s) _ _ h in
    rw (after_takes 91 s opened.0 opened.1) refl

bracketed_utf8 : (t : List ℕ) → IsBracketed t → IsUtf8 t
bracketed_utf8 t (subset, is, e) = rw e (IsUtf8-append (codes "[" ++ subset) (codes "]") (IsUtf8-append (codes "[") subset (ascii (codes "[") refl) is.2) (ascii (codes "]") refl))

lawful_bracketed : Lawful bracketed
unfolding bracketed
lawful_bracketed = lawful_step IsBracketed after_bracketed _ (record { takes = bracketed_takes; again = bracketed_again; begins = bracketed_begins; utf8 = bracketed_utf8 })

lawful_brackets : Lawful brackets
unfolding brackets bracketed
lawful_brackets = search (lawful_given, lawful_maybe, lawful_both, lawful_blank, lawful_bracketed) depth 14

-- ---- the declaration

lawful_doctype_decl : Lawful doctype_decl
unfolding doctype_decl q_name external external_id system_id public_id pubid_literal system_literal brackets bracketed
lawful_doctype_decl = search (lawful_both, lawful_space, lawful_blank, lawful_word, lawful_q_name, lawful_external, lawful_brackets) depth 20

-- ---- they say what the standard says

system_joined : (t w r sp l : List ℕ) → t ≡ w ++ r → w ≡ codes "SYSTEM" → r ≡ sp ++ l → t ≡ codes "SYSTEM" ++ sp ++ l
system_joined t w r sp l a b c = rw (a, b, c) (simp append_assoc)

public_joined : (t w r1 sp r2 p r3 gap l : List ℕ) → t ≡ w ++ r1 → w ≡ codes "PUBLIC" → r1 ≡ sp ++ r2 → r2 ≡ p ++ r3 → r3 ≡ gap ++ l → t ≡ codes "PUBLIC" ++ sp ++ p ++ gap ++ l
public_joined t w r1 sp r2 p r3 gap l a b c d e = rw (a, b, c, d, e) (simp append_assoc)

external_id_is : (v : Unit {0}) (t : List ℕ) → external_id.Spells v t → IsExternalId t
unfolding external_id system_id public_id pubid_literal system_literal
external_id_is v t (inl (_, _, w, r, is, (_, inner, sp, l, space, (chars_, quoted), _, e2), _, e1)) = inl (sp, l, space, (inner, chars_, quoted), system_joined t w r sp l e1 is e2)
external_id_is v t (inr (_, _, w, r1, is, (_, _, sp, r2, space, (public, _, p, r3, (test, in_quotes), (_, inner, gap, l, gap_, (chars_, quoted), _, e4), _, e3), _, e2), _, e1)) =
    inr (sp, p, gap, l, space, (public, test, in_quotes), gap_, (inner, chars_, quoted), public_joined t w r1 sp r2 p r3 gap l e1 is e2 e3 e4)

is_external_id : (t : List ℕ) → IsExternalId t → external_id.Spells tt t
unfolding external_id system_id public_id pubid_literal system_literal
is_external_id t (inl (sp, l, space, (inner, chars_, quoted), e)) = inl (tt, tt, codes "SYSTEM", sp ++ l, refl, (tt, inner, sp, l, space, (chars_, quoted), refl, refl), refl, e ∙ append_assoc (codes "SYSTEM") sp l)
is_external_id t (inr (sp, p, gap, l, space, (public, test, in_quotes), gap_, (inner, chars_, quoted), e)) = inr (
  tt,
  tt,
  codes "PUBLIC",
  sp ++ (p ++ (gap ++ l)),
  refl,
  (tt, tt, sp, p ++ (gap ++ l), space, (public, tt, p, gap ++ l, (test, in_quotes), (tt, inner, gap, l, gap_, (chars_, quoted), refl, refl), refl, refl), refl, refl),
  refl,
  e ∙ simp append_assoc,
)

external_is : (v : Unit {0}) (t : List ℕ) → external.Spells v t → IsOptionalExternalId t
unfolding external
external_is v t (None, e, _) = inl e
external_is v t (Some _, (_, w, sp, id, space, is, _, e), _) = inr (sp, id, space, external_id_is w id is, e)

is_external : (t : List ℕ) → IsOptionalExternalId t → external.Spells tt t
unfolding external
is_external t (inl e) = (None, e, refl)
is_external t (inr (sp, id, space, is, e)) = (Some tt, (tt, tt, sp, id, space, is_external_id id is, refl, e), refl)

brackets_is : (v : Unit {0}) (t : List ℕ) → brackets.Spells v t → IsOptionalSubset t
unfolding brackets bracketed
brackets_is v t (None, e, _) = inl e
brackets_is v t (Some _, (_, _, text, b, (subset, is, e1), blank, _, e), _) = inr (subset, b, is, blank, e ∙ ap (λ x. x ++ b) e1)

is_brackets : (t : List ℕ) → IsOptionalSubset t → brackets.Spells tt t
unfolding brackets bracketed
is_brackets t (inl e) = (None, e, refl)
is_brackets t (inr (subset, b, is, blank, e)) = (Some tt, (tt, tt, codes "[" ++ subset ++ codes "]", b, (subset, is, refl), blank, refl, e), refl)

doctype_joined : (t r1 r2 r3 r4 space name external blank brackets end : List ℕ) → t ≡ space ++ r1 → r1 ≡ name ++ r2 → r2 ≡ external ++ r3 → r3 ≡ blank ++ r4 → r4 ≡ brackets ++ end → end ≡ codes ">" → codes "<!DOCTYPE" ++ t ≡ codes "<!DOCTYPE" ++ space ++ name ++ external ++ blank ++ brackets ++ codes ">"
doctype_joined t r1 r2 r3 r4 space name external blank brackets end a b c d e f = rw (a, b, c, d, e, f) (simp append_assoc)

doctype_is : (v t : List ℕ) → doctype_decl.Spells v t → IsDoctype (codes "<!DOCTYPE" ++ t)
unfolding doctype_decl q_name
doctype_is v t (_, _, sp, r1, space, (n, _, name, r2, (same, is), (_, x, id, r3, is_id, (_, _, b, r4, blank, (_, y, br, end, is_br, is_end, _, e5), _, e4), _, e3), _, e2), _, e1) = record {
  space = sp;
  name = name;
  external = id;
  blank = b;
  brackets = br;
  is_space = space;
  is_name = subst IsQName (sym same) is;
  is_external = external_is x id is_id;
  is_blank = blank;
  is_brackets = brackets_is y br is_br;
  spelled = doctype_joined t r1 r2 r3 r4 sp name id b br end e1 e2 e3 e4 e5 is_end;
}

doctype_split : (t space name external blank brackets : List ℕ) → t ≡ codes "<!DOCTYPE" ++ space ++ name ++ external ++ blank ++ brackets ++ codes ">" → t ≡ codes "<!DOCTYPE" ++ (space ++ (name ++ (external ++ (blank ++ (brackets ++ codes ">")))))
doctype_split t space name external blank brackets e = e ∙ simp append_assoc

-- what stands behind `<!DOCTYPE`
is_doctype : (t : List ℕ) → (is : IsDoctype t) → (x : List ℕ) × doctype_decl.Spells is.name x × (t ≡ codes "<!DOCTYPE" ++ x)
unfolding doctype_decl q_name
is_doctype t is =
    let end = is.brackets ++ codes ">" in (
      is.space ++ (is.name ++ (is.external ++ (is.blank ++ end))),
      (
        tt,
        is.name,
        is.space,
        is.name ++ (is.external ++ (is.blank ++ end)),
        is.is_space,
        (
          is.name,
          tt,
          is.name,
          is.external ++ (is.blank ++ end),
          (refl, is.is_name),
          (tt, tt, is.external, is.blank ++ end, is_external is.external is.is_external, (tt, tt, is.blank, end, is.is_blank, (tt, tt, is.brackets, codes ">", is_brackets is.brackets is.is_brackets, refl, refl, refl), refl, refl), refl, refl),
          refl,
          refl,
        ),
        refl,
        refl,
      ),
      doctype_split t is.space is.name is.external is.blank is.brackets is.spelled,
    )

-- ---- what the token needs

pub doctype_takes : (s r : List ℕ) (k : TokenKind) → IsUtf8 s → doctype_step s ≡ Some (k, r) → (t : List ℕ) × IsDoctype t × (codes "<!DOCTYPE" ++ s ≡ t ++ r) × (doctype ≡ k)
unfolding doctype_step
doctype_takes s r k u h =
    let x = bind_some (doctype_decl.read s) _ _ h in
    let same = pair_parts doctype k x.0.1 r x.2 in
    let one = lawful_doctype_decl.takes s x.0.0 x.0.1 u x.1 in
    (codes "<!DOCTYPE" ++ one.0, doctype_is x.0.0 one.0 one.1, ap (λ s. codes "<!DOCTYPE" ++ s) (one.2 ∙ ap (λ r. one.0 ++ r) same.1), same.0)

pub doctype_again : (t r : List ℕ) → IsDoctype t → (x : List ℕ) × (t ≡ codes "<!DOCTYPE" ++ x) × (doctype_step (x ++ r) ≡ Some (doctype, r))
unfolding doctype_step doctype_decl q_name external brackets
doctype_again t r is =
    let behind = is_doctype t is in
    let found = lawful_doctype_decl.again is.name behind.0 r behind.1 (sees_nothing r) in
    (behind.0, behind.2, rw found refl)

pub doctype_utf8 : (t : List ℕ) → IsDoctype t → IsUtf8 t
doctype_utf8 t is =
    let behind = is_doctype t is in
    subst IsUtf8 (sym behind.2) (IsUtf8-append (codes "<!DOCTYPE") behind.0 (ascii (codes "<!DOCTYPE") refl) (lawful_doctype_decl.utf8 is.name behind.0 behind.1))
