-- Markup that is no tag: what the steps find is spelled so, and what is spelled so they find.
use Rattle.std.proofs.Common.{◌≡◌, ℕ, List, [], ◌∷◌, ◌++◌, true, false, not, ◌⊎◌, refl, ap, sym, subst, ◌∙◌, arith, inl, inr, Option, Some, None, codes, bytes_eq, append_assoc, append-nil}
use Rattle.std.proofs.lemmas.Bool.{cases_Bool, and_parts, and_from, both_ways}
use Rattle.std.proofs.lemmas.Slice.Eq.{bytes_eq-Decides}
use Rattle.std.specs.Str.{IsUtf8}
use Rattle.std.proofs.lemmas.Str.{chars-nil}
use Rattle.xt_spec.specs.Declaration.{Declaration}
use Rattle.xt_spec.specs.Markup.{begins, lacks, is_reserved}
use Rattle.xt_spec.specs.Token.{TokenKind, start_tag, empty_tag, end_tag, char_data, char_ref, entity_ref, cdata_section, comment, pi, declaration, doctype, Spells}
use Rattle.xt_lex.specs.NameTest.{is_name_byte}
use Rattle.xt_lex.specs.QName.{q_name}
use Rattle.xt_lex.specs.Tag.{tag, open_tag, closing_tag}
use Rattle.xt_lex.specs.Scan.{◌>>=◌, maybe, after, after_all, after_chars, after_target, after_data, take_while, drop_while}
use Rattle.xt_lex.specs.Markup.{cdata_step, comment_step, doctype_step, declared_section, declared, instruction, pi_or_declaration, tag_or_pi, angle_markup}
use Rattle.xt_lex.proofs.Attributes.{utf8_rest}
use Rattle.xt_lex.proofs.Cuts.{after_all_takes, after_chars_takes, after_chars_again, is_fresh, lacks_from_fresh, Stays, fresh_from_lacks}
use Rattle.xt_lex.proofs.Declarations.{declaration_takes, is_values, values_again, values_target}
use Rattle.xt_lex.specs.XmlDecl.{declared_values}
use Rattle.xt_lex.proofs.Doctypes.{doctype_takes, doctype_again}
use Rattle.xt_lex.proofs.NameLemmas.{ncname_passes}
use Rattle.xt_lex.proofs.Instructions.{behind_target, pi_spelled, target_takes, target_again, data_takes, data_again, data_no_name}
use Rattle.xt_lex.proofs.References.{pair_parts}
use Rattle.xt_lex.proofs.StepLemmas.{bind_some, take_while_split, take_while_append, after_takes, name_run_utf8}
use Rattle.xt_lex.proofs.Tags.{IsTagKind, tag_takes, tag_again}
use Rattle.xt_lex.proofs.Utf8.{ascii, ncname_utf8}

-- a token that begins with `<` and is no tag
abbrev pub IsSpecial : TokenKind → Type 0
IsSpecial cdata_section = Unit {0}
IsSpecial comment = Unit {0}
IsSpecial pi = Unit {0}
IsSpecial declaration = Unit {0}
IsSpecial doctype = Unit {0}
IsSpecial start_tag = ⊥
IsSpecial empty_tag = ⊥
IsSpecial end_tag = ⊥
IsSpecial char_data = ⊥
IsSpecial char_ref = ⊥
IsSpecial entity_ref = ⊥

stays_close : Stays (codes "]]>")
stays_close b [] r = refl
stays_close b (c ∷ []) r = refl
stays_close b (c ∷ d ∷ front) r = refl

spelled_as : (k j : TokenKind) (t : List ℕ) → k ≡ j → Spells j t × IsSpecial j → Spells k t × IsSpecial k
spelled_as k j t e h = subst (λ k. Spells k t × IsSpecial k) (sym e) h

-- the text behind a front, in its parts
found_behind : (front s inner ending r : List ℕ) → s ≡ inner ++ (ending ++ r) → front ++ s ≡ (front ++ inner ++ ending) ++ r
found_behind front s inner ending r e = rw e (simp append_assoc)

cdata_takes : (s r : List ℕ) (k : TokenKind) → IsUtf8 s → cdata_step s ≡ Some (k, r) → (t : List ℕ) × (codes "<![CDATA[" ++ s ≡ t ++ r) × Spells k t × IsSpecial k
cdata_takes s r k u h =
    let found = bind_some (after_chars (codes "]]>") s) _ _ h in
    let same = pair_parts cdata_section k found.0 r found.2 in
    let inner = after_chars_takes 93 (codes "]>") s found.0 (omega arith) u found.1 in
    let text = codes "<![CDATA[" ++ inner.0 ++ codes "]]>" in
    let spelled = spelled_as k cdata_section text (sym same.0) ((inner.0, (inner.1, lacks_from_fresh (codes "]]>") inner.0 _ inner.2, refl)), tt) in
    (text, found_behind (codes "<![CDATA[") s inner.0 (codes "]]>") found.0 inner.3 ∙ ap (λ r. text ++ r) same.1, spelled.0, spelled.1)

dashes : (b : ℕ) (front r : List ℕ) → begins (codes "--") (b ∷ (front ++ (codes "--" ++ r))) ≡ begins (codes "--") (b ∷ (front ++ codes "-"))
dashes b [] r = refl
dashes b (c ∷ front) r = refl

-- no `--` before the end of a comment
no_dashes : (front r : List ℕ) → is_fresh (codes "--") front (codes "--" ++ r) ≡ true → lacks (codes "--") (front ++ codes "-") ≡ true
no_dashes [] r h = refl
no_dashes (b ∷ front) r h =
    let both = and_parts _ _ h in
    and_from _ _ (ap not (sym (dashes b front r)) ∙ both.0) (no_dashes front r both.1)

fresh_dashes : (front r : List ℕ) → lacks (codes "--") (front ++ codes "-") ≡ true → is_fresh (codes "--") front (codes "--" ++ r) ≡ true
fresh_dashes [] r h = refl
fresh_dashes (b ∷ front) r h =
    let both = and_parts _ _ h in
    and_from _ _ (ap not (dashes b front r) ∙ both.0) (fresh_dashes front r both.1)

close_joined : (s inner s1 r : List ℕ) → s ≡ inner ++ (codes "--" ++ s1) → s1 ≡ 62 ∷ r → s ≡ inner ++ (codes "-->" ++ r)
close_joined s inner s1 r e f = e ∙ ap (λ t. inner ++ (codes "--" ++ t)) f

comment_takes : (s r : List ℕ) (k : TokenKind) → IsUtf8 s → comment_step s ≡ Some (k, r) → (t : List ℕ) × (codes "<!--" ++ s ≡ t ++ r) × Spells k t × IsSpecial k
comment_takes s r k u h =
    let found = bind_some (after_chars (codes "--") s) _ _ h in
    let close = bind_some (after 62 found.0) _ _ found.2 in
    let same = pair_parts comment k close.0 r close.2 in
    let inner = after_chars_takes 45 (codes "-") s found.0 (omega arith) u found.1 in
    let text = codes "<!--" ++ inner.0 ++ codes "-->" in
    let spelled = spelled_as k comment text (sym same.0) ((inner.0, inner.1, no_dashes inner.0 found.0 inner.2, refl), tt) in
    (text, found_behind (codes "<!--") s inner.0 (codes "-->") close.0 (close_joined s inner.0 found.0 close.0 inner.3 (after_takes 62 found.0 close.0 close.1)) ∙ ap (λ r. text ++ r) same.1, spelled.0, spelled.1)

section_by : (s r : List ℕ) (k : TokenKind) (o : Option (List ℕ)) → IsUtf8 s → after_all (codes "[CDATA[") s ≡ o → maybe (after_all (codes "DOCTYPE") s >>= doctype_step) cdata_step o ≡ Some (k, r) → (t : List ℕ) × (codes "<!" ++ s ≡ t ++ r) × Spells k t × IsSpecial k
section_by s r k (Some s1) u e h =
    let is = after_all_takes (codes "[CDATA[") s s1 e in
    let found = cdata_takes s1 r k (utf8_rest s (codes "[CDATA[") s1 u (ascii (codes "[CDATA[") refl) is) h in
    (found.0, ap (λ t. codes "<!" ++ t) is ∙ found.1, found.2, found.3)
section_by s r k None u e h =
    let front = bind_some (after_all (codes "DOCTYPE") s) _ _ h in
    let is = after_all_takes (codes "DOCTYPE") s front.0 front.1 in
    let found = doctype_takes front.0 r k (utf8_rest s (codes "DOCTYPE") front.0 u (ascii (codes "DOCTYPE") refl) is) front.2 in
    let spelled = spelled_as k doctype found.0 (sym found.3) (found.1, tt) in
    (found.0, ap (λ t. codes "<!" ++ t) is ∙ found.2, spelled.0, spelled.1)

declared_section_takes : (s r : List ℕ) (k : TokenKind) → IsUtf8 s → declared_section s ≡ Some (k, r) → (t : List ℕ) × (codes "<!" ++ s ≡ t ++ r) × Spells k t × IsSpecial k
unfolding declared_section
declared_section_takes s r k u h = section_by s r k (after_all (codes "[CDATA[") s) u refl h

declared_by : (s r : List ℕ) (k : TokenKind) (o : Option (List ℕ)) → IsUtf8 s → after_all (codes "--") s ≡ o → maybe (declared_section s) comment_step o ≡ Some (k, r) → (t : List ℕ) × (codes "<!" ++ s ≡ t ++ r) × Spells k t × IsSpecial k
declared_by s r k None u e h = declared_section_takes s r k u h
declared_by s r k (Some s1) u e h =
    let is = after_all_takes (codes "--") s s1 e in
    let found = comment_takes s1 r k (utf8_rest s (codes "--") s1 u (ascii (codes "--") refl) is) h in
    (found.0, ap (λ t. codes "<!" ++ t) is ∙ found.1, found.2, found.3)

declared_takes : (s r : List ℕ) (k : TokenKind) → IsUtf8 s → declared s ≡ Some (k, r) → (t : List ℕ) × (codes "<!" ++ s ≡ t ++ r) × Spells k t × IsSpecial k
unfolding declared
declared_takes s r k u h = declared_by s r k (after_all (codes "--") s) u refl h

-- a token that begins with `<`
abbrev pub IsAngleMarkup : TokenKind → Type 0
IsAngleMarkup k = IsTagKind k ⊎ IsSpecial k

instruction_joined : (s1 s2 target inner r : List ℕ) → s1 ≡ target ++ s2 → s2 ≡ inner ++ (codes "?>" ++ r) → codes "<?" ++ s1 ≡ (codes "<?" ++ target ++ inner ++ codes "?>") ++ r
instruction_joined s1 s2 target inner r e f = rw (e, f) (simp append_assoc)

instruction_takes : (s r : List ℕ) (k : TokenKind) → IsUtf8 s → instruction s ≡ Some (k, r) → (t : List ℕ) × (codes "<?" ++ s ≡ t ++ r) × Spells k t × IsSpecial k
instruction_takes s r k u h =
    let target = bind_some (after_target s) _ _ h in
    let end = bind_some (after_data target.0) _ _ target.2 in
    let same = pair_parts pi k end.0 r end.2 in
    let name = target_takes s target.0 u target.1 in
    let front = take_while is_name_byte s in
    let found = data_takes target.0 end.0 (utf8_rest s front target.0 u (ncname_utf8 front name.0.0) name.1) end.1 in
    let text = codes "<?" ++ front ++ found.0 ++ codes "?>" in
    let spelled = spelled_as k pi text (sym same.0) (pi_spelled front found.0 name.0 found.1, tt) in
    (text, instruction_joined s target.0 front found.0 end.0 name.1 found.2 ∙ ap (λ r. text ++ r) same.1, spelled.0, spelled.1)

xml_joined : (s run_ rest : List ℕ) → s ≡ run_ ++ rest → run_ ≡ codes "xml" → codes "<?" ++ s ≡ codes "<?xml" ++ rest
xml_joined s run_ rest e f = rw (e, f) refl

pi_or_declaration_takes : (s r : List ℕ) (k : TokenKind) → IsUtf8 s → pi_or_declaration s ≡ Some (k, r) → (t : List ℕ) × (codes "<?" ++ s ≡ t ++ r) × Spells k t × IsSpecial k
unfolding pi_or_declaration
pi_or_declaration_takes s r k u h =
    let front = take_while is_name_byte s in
    elim (cases_Bool (bytes_eq front (codes "xml"))) [
      | inl e ↦
          let step : (declared_values.read (drop_while is_name_byte s) >>= λ x. Some (declaration, x.1)) ≡ Some (k, r) = rw e at h in
          let found = bind_some (declared_values.read (drop_while is_name_byte s)) _ _ step in
          let same = pair_parts declaration k found.0.1 r found.2 in
          let rest : IsUtf8 (drop_while is_name_byte s) = utf8_rest s front (drop_while is_name_byte s) u (name_run_utf8 s u) (take_while_split is_name_byte s) in
          let is = declaration_takes (drop_while is_name_byte s) found.0 rest found.1 in
          let xml : front ≡ codes "xml" = (bytes_eq-Decides front (codes "xml")).0 e in
          let spelled = spelled_as k declaration is.0 (sym same.0) ((found.0.0, is.1), tt) in
          (is.0, xml_joined s front (drop_while is_name_byte s) (take_while_split is_name_byte s) xml ∙ is.2 ∙ ap (λ r. is.0 ++ r) same.1, spelled.0, spelled.1)
      | inr e ↦ instruction_takes s r k u (rw e at h)
    ]

tag_or_pi_by : (s r : List ℕ) (k : TokenKind) (o : Option (List ℕ)) → IsUtf8 s → after_all (codes "<?") s ≡ o → maybe (tag.read s) pi_or_declaration o ≡ Some (k, r) → (t : List ℕ) × (s ≡ t ++ r) × Spells k t × IsAngleMarkup k
tag_or_pi_by s r k None u e h =
    let found = tag_takes s r k u h in
    (found.0, found.1, found.2, inl found.3)
tag_or_pi_by s r k (Some s1) u e h =
    let is = after_all_takes (codes "<?") s s1 e in
    let found = pi_or_declaration_takes s1 r k (utf8_rest s (codes "<?") s1 u (ascii (codes "<?") refl) is) h in
    (found.0, is ∙ found.1, found.2, inr found.3)

tag_or_pi_takes : (s r : List ℕ) (k : TokenKind) → IsUtf8 s → tag_or_pi s ≡ Some (k, r) → (t : List ℕ) × (s ≡ t ++ r) × Spells k t × IsAngleMarkup k
unfolding tag_or_pi
tag_or_pi_takes s r k u h = tag_or_pi_by s r k (after_all (codes "<?") s) u refl h

angle_markup_by : (s r : List ℕ) (k : TokenKind) (o : Option (List ℕ)) → IsUtf8 s → after_all (codes "<!") s ≡ o → maybe (tag_or_pi s) declared o ≡ Some (k, r) → (t : List ℕ) × (s ≡ t ++ r) × Spells k t × IsAngleMarkup k
angle_markup_by s r k None u e h = tag_or_pi_takes s r k u h
angle_markup_by s r k (Some s1) u e h =
    let is = after_all_takes (codes "<!") s s1 e in
    let found = declared_takes s1 r k (utf8_rest s (codes "<!") s1 u (ascii (codes "<!") refl) is) h in
    (found.0, is ∙ found.1, found.2, inr found.3)

pub angle_markup_takes : (s r : List ℕ) (k : TokenKind) → IsUtf8 s → angle_markup s ≡ Some (k, r) → (t : List ℕ) × (s ≡ t ++ r) × Spells k t × IsAngleMarkup k
unfolding angle_markup
angle_markup_takes s r k u h = angle_markup_by s r k (after_all (codes "<!") s) u refl h

-- no tag begins so
no_tag_declared : (x : List ℕ) → tag.read (codes "<!" ++ x) ≡ None
unfolding tag closing_tag open_tag q_name
no_tag_declared x = rw chars-nil refl

no_tag_at_pi : (x : List ℕ) → tag.read (codes "<?" ++ x) ≡ None
unfolding tag closing_tag open_tag q_name
no_tag_at_pi x = rw chars-nil refl

-- where no token of the other step begins so, this one's is found
found_first : {A : Type 0} (front s : List ℕ) (here : Option A) (other : List ℕ → Option A) (x : A) (o : Option (List ℕ)) → ((y : List ℕ) → s ≡ front ++ y → here ≡ None) → here ≡ Some x → after_all front s ≡ o → maybe here other o ≡ Some x
found_first front s here other x None none h e = h
found_first front s here other x (Some y) none h e = let bad : here ≡ None = none y (after_all_takes front s y e) in absurd (cc)

begins_by : (s : List ℕ) (o : Option (List ℕ)) → after_all (codes "<!") s ≡ o → (after_all (codes "<!") s ≡ None) ⊎ ((y : List ℕ) × (s ≡ codes "<!" ++ y))
begins_by s None e = inl e
begins_by s (Some y) e = inr (y, after_all_takes (codes "<!") s y e)

begins_cases : (s : List ℕ) → (after_all (codes "<!") s ≡ None) ⊎ ((y : List ℕ) × (s ≡ codes "<!" ++ y))
begins_cases s = begins_by s (after_all (codes "<!") s) refl

angle_markup_tag : (s r : List ℕ) (k : TokenKind) → tag.read s ≡ Some (k, r) → angle_markup s ≡ Some (k, r)
unfolding angle_markup tag_or_pi
angle_markup_tag s r k h =
    let inner : maybe (tag.read s) pi_or_declaration (after_all (codes "<?") s) ≡ Some (k, r) = found_first (codes "<?") s (tag.read s) pi_or_declaration (k, r) (after_all (codes "<?") s) (λ y e. ap tag.read e ∙ no_tag_at_pi y) h refl in
    elim (begins_cases s) [
      | inl none ↦ rw none inner
      | inr (y, e) ↦ let bad : tag.read s ≡ None = ap tag.read e ∙ no_tag_declared y in absurd (cc)
    ]

again_behind : (t front inner ending r : List ℕ) → t ≡ front ++ inner ++ ending → t ++ r ≡ front ++ (inner ++ (ending ++ r))
again_behind t front inner ending r e = rw e (simp append_assoc)

instruction_split : (t target space inner r : List ℕ) → t ≡ codes "<?" ++ target ++ space ++ inner ++ codes "?>" → t ++ r ≡ codes "<?" ++ (target ++ ((space ++ inner) ++ (codes "?>" ++ r)))
instruction_split t target space inner r e = rw e (simp append_assoc)

xml_again : (s rest r : List ℕ) (d : Declaration) → take_while is_name_byte s ≡ codes "xml" → drop_while is_name_byte s ≡ rest → declared_values.read rest ≡ Some (d, r) → pi_or_declaration s ≡ Some (declaration, r)
unfolding pi_or_declaration
xml_again s rest r d front back found = rw front (rw back (rw found refl))

not_xml : (target : List ℕ) → is_reserved target ≡ false → bytes_eq target (codes "xml") ≡ false
not_xml target reserved =
    elim (cases_Bool (bytes_eq target (codes "xml"))) [
      | inl e ↦
          let is : target ≡ codes "xml" = (bytes_eq-Decides target (codes "xml")).0 e in
          absurd (both_ways (is_reserved target) reserved (ap is_reserved is))
      | inr e ↦ e
    ]

special_again : (t r : List ℕ) (k : TokenKind) → Spells k t → IsSpecial k → angle_markup (t ++ r) ≡ Some (k, r)
unfolding angle_markup declared declared_section tag_or_pi pi_or_declaration
special_again t r cdata_section (inner, (chars_, lacks_, e)) s =
    let split = again_behind t (codes "<![CDATA[") inner (codes "]]>") r e in
    let found = after_chars_again (codes "]]>") inner r (omega arith) chars_ (fresh_from_lacks (codes "]]>") inner r stays_close lacks_) in
    rw split (rw found refl)
special_again t r comment (inner, chars_, lacks_, e) s =
    let split = again_behind t (codes "<!--") inner (codes "-->") r e in
    let found = after_chars_again (codes "--") inner (62 ∷ r) (omega arith) chars_ (fresh_dashes inner (62 ∷ r) lacks_) in
    rw split (rw found refl)
special_again t r pi (target, inner, chars_, lacks_, is) s =
    let text = is.space ++ inner in
    let behind = behind_target t target inner chars_ lacks_ is in
    let split = instruction_split t target is.space inner r is.spelled in
    let no_name = data_no_name text r behind in
    let one = target_again target (text ++ (codes "?>" ++ r)) is.is_target no_name.0 no_name.1 in
    let two = data_again text r behind in
    let front : take_while is_name_byte (target ++ (text ++ (codes "?>" ++ r))) ≡ target = take_while_append is_name_byte target _ (ncname_passes target is.is_target.0) ∙ ap (λ t. target ++ t) no_name.0 ∙ append-nil target in
    let other : bytes_eq (take_while is_name_byte (target ++ (text ++ (codes "?>" ++ r)))) (codes "xml") ≡ false = ap (λ t. bytes_eq t (codes "xml")) front ∙ not_xml target is.is_target.1 in
    rw split (rw other (rw one (rw two refl)))
special_again t r declaration (d, is) s =
    let values = is_values d t is in
    let rest = values.0 ++ r in
    let split : t ++ r ≡ codes "<?xml" ++ rest = ap (λ t. t ++ r) values.2 in
    let target = values_target d values.0 r values.1 in
    rw split (xml_again (codes "xml" ++ rest) rest r d target.0 target.1 (values_again d values.0 r values.1))
special_again t r doctype is s =
    let (x, behind, found) = doctype_again t r is in
    ap (λ t. angle_markup (t ++ r)) behind ∙ found
special_again t r start_tag h s = absurd s
special_again t r empty_tag h s = absurd s
special_again t r end_tag h s = absurd s
special_again t r char_data h s = absurd s
special_again t r char_ref h s = absurd s
special_again t r entity_ref h s = absurd s

pub angle_markup_again : (t r : List ℕ) (k : TokenKind) → Spells k t → IsAngleMarkup k → angle_markup (t ++ r) ≡ Some (k, r)
angle_markup_again t r k h (inl m) = angle_markup_tag (t ++ r) r k (tag_again t r k h m)
angle_markup_again t r k h (inr s) = special_again t r k h s

-- it begins with `<`
pub special_begins : (k : TokenKind) (t : List ℕ) → Spells k t → IsSpecial k → (x : List ℕ) × (t ≡ 60 ∷ x)
special_begins cdata_section t (inner, (chars_, lacks_, e)) s = (_, e)
special_begins comment t (inner, chars_, lacks_, e) s = (_, e)
special_begins declaration t (d, is) s = (_, is.spelled)
special_begins doctype t is s = (_, is.spelled)
special_begins pi t (target, inner, chars_, lacks_, is) s = (_, is.spelled)
special_begins start_tag t h s = absurd s
special_begins empty_tag t h s = absurd s
special_begins end_tag t h s = absurd s
special_begins char_data t h s = absurd s
special_begins char_ref t h s = absurd s
special_begins entity_ref t h s = absurd s
