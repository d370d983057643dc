-- What stands in front of a body: a byte order mark and a declaration.
use Rattle.std.proofs.Common.{◌≡◌, ◌∙◌, List, ℕ, ◌+◌, ◌-◌, ◌<◌, [], ◌∷◌, ◌++◌, length, take, drop, refl, sym, ap, subst, Bool, true, false, inl, inr, nat_eq, arith}
use Rattle.std.proofs.lemmas.Bool.{cases_Bool}
use Rattle.std.proofs.lemmas.List.{take_at, drop_at, drop-drop, take-append-drop}
use Rattle.std.proofs.lemmas.Slice.Eq.{bytes_eq-Decides}
use Rattle.std.specs.List.{starts_with}
use Rattle.xt_spec.specs.Declaration.{Declaration, IsDeclarationOf, IsDeclaration, is_utf8_or_absent, is_xml_declaration, is_text_declaration}
use Rattle.xt_spec.specs.Token.{declaration, IsLongestFront}
use Rattle.xt_spec.specs.Tree.{Items, nil, leaf, gap, append, source_text}
use Rattle.xt_spec.specs.Reading.{mark, DeclaresUtf8, IsMarked, IsDeclared, document, entity, IsOrdered, IsReading}
use Rattle.xt_lex.proofs.Theorems.{token_longest, declaration_unique, front_some}
use Rattle.xt_read.specs.Run.{Body, document_body, content_body, IsBody, begin, piece_tok, declaration_piece, IsToken}
use Rattle.xt_spec.specs.Front.{StandsDeclared, NoDeclared, IsForeign, after_mark, mark_len, TakesDeclared, BeginsBody}
use Rattle.xt_spec.specs.FirstFault.{HasBodyAt}
use Rattle.xt_read.specs.Front.{markup_role_of, form_of, body_for, gap_of, behind_mark, gaps_to}
use Rattle.xt_read.specs.declared.front.MarkupRole.{MarkupRole}
use Rattle.xt_read.specs.declared.front.MarkupRole.TheVariants as role
use Rattle.xt_read.proofs.Runs.{one_list, no_step}
use Rattle.xt_read.proofs.Complete.{body_is_read}

-- ---- one declaration

pub longest : (spelled rest : List ℕ) → IsDeclaration spelled → IsLongestFront (spelled ++ rest) declaration (length spelled)
longest spelled rest is = token_longest declaration spelled rest is (λ k. cc)

-- a text begins with one declaration at most
pub one_declaration : (spelled other rest more : List ℕ) → spelled ++ rest ≡ other ++ more → IsDeclaration spelled → IsDeclaration other → (spelled ≡ other) × (rest ≡ more)
one_declaration spelled other rest more same x y =
    let a = longest spelled rest x in
    let b = subst (λ t. IsLongestFront t declaration (length other)) (sym same) (longest other more y) in
    let up = (a.longest declaration (length other) b.front).1 in
    let down = (b.longest declaration (length spelled) a.front).1 in
    let size : length spelled ≡ length other = omega (arith, up, down) in (
      sym (take_at spelled rest (length spelled) refl) ∙ ap (take (length spelled)) same ∙ ap (λ n. take n (other ++ more)) size ∙ take_at other more (length other) refl,
      sym (drop_at spelled rest (length spelled) refl) ∙ ap (drop (length spelled)) same ∙ ap (λ n. drop n (other ++ more)) size ∙ drop_at other more (length other) refl,
    )

-- no body begins with one
no_body_declared : (body : Body) (list : Items) (spelled rest : List ℕ) → IsDeclaration spelled → source_text list ≡ spelled ++ rest → IsBody body list → ⊥
no_body_declared body list spelled rest is joined holds =
    let read = body_is_read body (spelled ++ rest) list holds joined in
    let token : IsToken (piece_tok declaration_piece spelled) (spelled ++ rest) = record { kind = declaration; longest = longest spelled rest is; front = take_at spelled rest (length spelled) refl; of_kind = refl } in
    no_step (begin body) read.last (spelled ++ rest) (piece_tok declaration_piece spelled) token refl read.reads

-- ---- behind the byte order mark

-- these items stand in front of the text, and take so many bytes of it
pub record IsAfter (form : Declaration → Bool) (body : Body) (text : List ℕ) (front : Items) (len : ℕ) : Type 0 where
  pub opens : (list : Items) → IsBody body list → source_text list ≡ drop len text → IsDeclared form (IsBody body) (append front list) × (source_text (append front list) ≡ text)
  pub only : (items : Items) → IsDeclared form (IsBody body) items → source_text items ≡ text → (list : Items) × (items ≡ append front list) × IsBody body list × (source_text list ≡ drop len text)
  pub known : ¬ IsForeign form text

after_none : (form : Declaration → Bool) (body : Body) (text : List ℕ) → NoDeclared form text → IsAfter form body text nil 0
after_none form body text none = record {
  opens = λ list is joined. (inr is, joined);
  only = only;
  known = λ foreign. none foreign.0;
}
  where
    only : (items : Items) → IsDeclared form (IsBody body) items → source_text items ≡ text → (list : Items) × (items ≡ append nil list) × IsBody body list × (source_text list ≡ drop 0 text)
    only items (inl (spelled, rest, is, (d, declares, has, utf8), main)) joined =
        absurd (none (record { spelled = spelled; rest = source_text rest; declares = d; is = declares; has_form = has; stands = sym joined ∙ ap source_text is }))
    only items (inr main) joined = (items, refl, main, joined)

pub after_declared : (form : Declaration → Bool) (body : Body) (text spelled rest : List ℕ) (len : ℕ) → DeclaresUtf8 form spelled → text ≡ spelled ++ rest → len ≡ length spelled → IsAfter form body text (leaf gap spelled nil) len
after_declared form body text spelled rest len (d, declares, has, utf8) stands size = record {
  opens = λ list is joined. (inl (spelled, list, refl, (d, declares, has, utf8), is), ap (λ t. spelled ++ t) (joined ∙ rest_is) ∙ sym stands);
  only = only;
  known = known;
}
  where
    rest_is : drop len text ≡ rest
    rest_is = ap (λ n. drop n text) size ∙ ap (drop (length spelled)) stands ∙ drop_at spelled rest (length spelled) refl

    only : (items : Items) → IsDeclared form (IsBody body) items → source_text items ≡ text → (list : Items) × (items ≡ append (leaf gap spelled nil) list) × IsBody body list × (source_text list ≡ drop len text)
    only items (inl (other, list, is, (e, also, has_too, utf8_too), main)) joined =
        let same = one_declaration other spelled (source_text list) rest (sym (ap source_text is) ∙ joined ∙ stands) (e, also) (d, declares) in
        (list, is ∙ ap (λ t. leaf gap t list) same.0, main, same.1 ∙ sym rest_is)
    only items (inr main) joined = absurd (no_body_declared body items spelled rest (d, declares) (joined ∙ stands) main)

    known : IsForeign form text → ⊥
    known (other, foreign) =
        let same = one_declaration other.spelled spelled other.rest rest (sym other.stands ∙ stands) (other.declares, other.is) (d, declares) in
        let one : other.declares ≡ d = declaration_unique spelled other.declares d (subst (IsDeclarationOf other.declares) same.0 other.is) declares in
        let h : false ≡ true = sym foreign ∙ ap (λ (d : Declaration). is_utf8_or_absent d.encoding) one ∙ utf8 in cc

-- ---- the byte order mark

starts_mark : (rest : List ℕ) → starts_with nat_eq (mark ++ rest) mark ≡ true
starts_mark rest = refl

-- a text that begins with a mark
pub begins_mark : (text : List ℕ) → starts_with nat_eq text mark ≡ true → text ≡ mark ++ drop 3 text
begins_mark text is = sym (take-append-drop 3 text) ∙ ap (λ t. t ++ drop 3 text) (sym ((bytes_eq-Decides mark (take 3 text)).0 is))

pub marks_gap : (text : List ℕ) (front : Items) → starts_with nat_eq text mark ≡ true → behind_mark text front ≡ leaf gap mark front
marks_gap text front starts = rw starts refl

pub no_mark_gap : (text : List ℕ) (front : Items) → starts_with nat_eq text mark ≡ false → behind_mark text front ≡ front
no_mark_gap text front none = rw none refl

-- what stands in front of a file, in a form
record IsFrontBy (form : Declaration → Bool) (body : Body) (text : List ℕ) (front : Items) (to : ℕ) : Type 0 where
  pub opens : (list : Items) → IsBody body list → source_text list ≡ drop to text → IsMarked (IsDeclared form (IsBody body)) (append front list) × (source_text (append front list) ≡ text)
  pub only : (items : Items) → IsMarked (IsDeclared form (IsBody body)) items → source_text items ≡ text → (list : Items) × (items ≡ append front list) × IsBody body list × (source_text list ≡ drop to text)

unmarked : (form : Declaration → Bool) (body : Body) (text : List ℕ) (front : Items) (to : ℕ) → starts_with nat_eq text mark ≡ false → IsAfter form body text front to → IsFrontBy form body text front to
unmarked form body text front to none after = record {
  opens = λ list is joined. let both = after.opens list is joined in (inr (ap (λ t. starts_with nat_eq t mark) both.1 ∙ none, both.0), both.1);
  only = only;
}
  where
    only : (items : Items) → IsMarked (IsDeclared form (IsBody body)) items → source_text items ≡ text → (list : Items) × (items ≡ append front list) × IsBody body list × (source_text list ≡ drop to text)
    only items (inl (rest, is, main)) joined =
        let h : true ≡ false = sym (starts_mark (source_text rest)) ∙ ap (λ t. starts_with nat_eq t mark) (sym (ap source_text is) ∙ joined) ∙ none in absurd (cc)
    only items (inr (starts, main)) joined = after.only items main joined

marked : (form : Declaration → Bool) (body : Body) (text : List ℕ) (front : Items) (len to : ℕ) → starts_with nat_eq text mark ≡ true → to ≡ 3 + len → IsAfter form body (drop 3 text) front len → IsFrontBy form body text (leaf gap mark front) to
marked form body text front len to some size after = record {
  opens = λ list is joined. let both = after.opens list is (joined ∙ behind) in (inl (append front list, refl, both.0), ap (λ t. mark ++ t) both.1 ∙ sym (begins_mark text some));
  only = only;
}
  where
    behind : drop to text ≡ drop len (drop 3 text)
    behind = ap (λ n. drop n text) size ∙ sym (drop-drop len 3 text)

    only : (items : Items) → IsMarked (IsDeclared form (IsBody body)) items → source_text items ≡ text → (list : Items) × (items ≡ append (leaf gap mark front) list) × IsBody body list × (source_text list ≡ drop to text)
    only items (inl (rest, is, main)) joined =
        let (list, same, holds, whole) = after.only rest main (ap (drop 3) (sym (ap source_text is) ∙ joined)) in
        (list, is ∙ ap (leaf gap mark) same, holds, whole ∙ sym behind)
    only items (inr (starts, main)) joined =
        let h : false ≡ true = sym starts ∙ ap (λ t. starts_with nat_eq t mark) joined ∙ some in absurd (cc)

declares_utf8 : (form : Declaration → Bool) (text : List ℕ) (d : StandsDeclared form text) → ¬ IsForeign form text → is_utf8_or_absent d.declares.encoding ≡ true
declares_utf8 form text d known = elim (cases_Bool (is_utf8_or_absent d.declares.encoding)) [
  | inl is ↦ is
  | inr foreign ↦ absurd (known (d, foreign))
]

pub gap_some : (text : List ℕ) → 0 < length text → gap_of text ≡ leaf gap text nil
gap_some [] some = absurd (omega (arith, some))
gap_some (b ∷ text) some = refl

-- the gap of a declaration stands in front of what is behind it
after_of : (form : Declaration → Bool) (body : Body) (text : List ℕ) (len : ℕ) → TakesDeclared form text len → ¬ IsForeign form text → IsAfter form body text (gap_of (take len text)) len
after_of form body text len (inl (d, size)) known =
    let there : take len text ≡ d.spelled = ap (λ n. take n text) size ∙ ap (take (length d.spelled)) d.stands ∙ take_at d.spelled d.rest (length d.spelled) refl in
    let some : 0 < length d.spelled = front_some (d.spelled ++ d.rest) declaration (length d.spelled) (longest d.spelled d.rest (d.declares, d.is)).front in
    subst (λ (front : Items). IsAfter form body text front len) (sym (ap gap_of there ∙ gap_some d.spelled some))
    (after_declared form body text d.spelled d.rest len (d.declares, d.is, d.has_form, declares_utf8 form text d known) d.stands size)
after_of form body text len (inr (none, no_bytes)) known =
    subst (λ (n : ℕ). IsAfter form body text (gap_of (take n text)) n) (sym no_bytes) (after_none form body text none)

gaps_by : (form : Declaration → Bool) (body : Body) (text : List ℕ) (to : ℕ) → HasBodyAt form text to → IsFrontBy form body text (gaps_to text to) to
gaps_by form body text to has = by (starts_with nat_eq text mark) refl
  where
    len : ℕ
    len = has.begins.len

    taken : to - mark_len text ≡ len
    taken = omega (arith, has.begins.to_is)

    gaps : gap_of (take len (after_mark text)) ≡ gap_of (take (to - mark_len text) (after_mark text))
    gaps = ap (λ n. gap_of (take n (after_mark text))) (sym taken)

    after : IsAfter form body (after_mark text) (gap_of (take (to - mark_len text) (after_mark text))) len
    after = subst (λ (front : Items). IsAfter form body (after_mark text) front len) gaps (after_of form body (after_mark text) len has.begins.takes has.known)

    by : (b : Bool) → starts_with nat_eq text mark ≡ b → IsFrontBy form body text (gaps_to text to) to
    by true starts =
        let front = gap_of (take (to - mark_len text) (after_mark text)) in
        let three : mark_len text ≡ 3 = rw starts refl in
        let plain : after_mark text ≡ drop 3 text = rw starts refl in
        let is : behind_mark text front ≡ leaf gap mark front = marks_gap text front starts in
        let size : to ≡ 3 + len = omega (arith, has.begins.to_is, three) in
        subst (λ (i : Items). IsFrontBy form body text i to) (sym is)
        (marked form body text front len to starts size (subst (λ (t : List ℕ). IsAfter form body t front len) plain after))
    by false none =
        let front = gap_of (take (to - mark_len text) (after_mark text)) in
        let zero_long : mark_len text ≡ 0 = rw none refl in
        let plain : after_mark text ≡ text = rw none refl in
        let is : behind_mark text front ≡ front = no_mark_gap text front none in
        let size : len ≡ to = omega (arith, has.begins.to_is, zero_long) in
        subst (λ (i : Items). IsFrontBy form body text i to) (sym is)
        (unmarked form body text front to none (subst (IsAfter form body text front) size (subst (λ (t : List ℕ). IsAfter form body t front len) plain after)))

-- behind the gaps in front a text is read as its body is, and in no other way
pub record JoinsBody (role : MarkupRole) (text : List ℕ) (front : Items) (to : ℕ) : Type 0 where
  pub opens : (list : Items) → IsBody (body_for role) list → source_text list ≡ drop to text → IsOrdered (markup_role_of role) (append front list) × (source_text (append front list) ≡ text)
  pub only : (items : Items) → IsOrdered (markup_role_of role) items → source_text items ≡ text → (list : Items) × (items ≡ append front list) × IsBody (body_for role) list × (source_text list ≡ drop to text)

pub joins_body : (role : MarkupRole) (text : List ℕ) (to : ℕ) → HasBodyAt (form_of role) text to → JoinsBody role text (gaps_to text to) to
joins_body role.Document text to has = let is = gaps_by is_xml_declaration document_body text to has in record { opens = is.opens; only = is.only }
joins_body role.Entity text to has = let is = gaps_by is_text_declaration content_body text to has in record { opens = is.opens; only = is.only }

-- a text with items declares no other encoding
no_foreign_declared : (form : Declaration → Bool) (body : Body) (items : Items) → IsDeclared form (IsBody body) items → IsForeign form (source_text items) → ⊥
no_foreign_declared form body items (inl (spelled, rest, is, declares, main)) foreign =
    (after_declared form body (source_text items) spelled (source_text rest) (length spelled) declares (ap source_text is) refl).known foreign
no_foreign_declared form body items (inr main) (other, foreign) =
    no_body_declared body items other.spelled other.rest (other.declares, other.is) other.stands main

no_foreign_marked : (form : Declaration → Bool) (body : Body) (text : List ℕ) (items : Items) → IsMarked (IsDeclared form (IsBody body)) items → source_text items ≡ text → IsForeign form (after_mark text) → ⊥
no_foreign_marked form body text items (inl (rest, is, main)) joined foreign =
    no_foreign_declared form body rest main (subst (λ (t : List ℕ). IsForeign form (after_mark t)) (sym joined ∙ ap source_text is) foreign)
no_foreign_marked form body text items (inr (none, main)) joined foreign =
    let plain : after_mark (source_text items) ≡ source_text items = rw none refl in
    no_foreign_declared form body items main (subst (IsForeign form) plain (subst (λ (t : List ℕ). IsForeign form (after_mark t)) (sym joined) foreign))

pub no_foreign : (role : MarkupRole) (text : List ℕ) (items : Items) → IsOrdered (markup_role_of role) items → source_text items ≡ text → IsForeign (form_of role) (after_mark text) → ⊥
no_foreign role.Document text items ordered joined foreign = no_foreign_marked is_xml_declaration document_body text items ordered joined foreign
no_foreign role.Entity text items ordered joined foreign = no_foreign_marked is_text_declaration content_body text items ordered joined foreign

-- a body begins at one place
one_len : (form : Declaration → Bool) (text : List ℕ) (m n : ℕ) → TakesDeclared form text m → TakesDeclared form text n → m ≡ n
one_len form text m n (inl (d, is)) (inl (e, also)) =
    is ∙ ap length (one_declaration d.spelled e.spelled d.rest e.rest (sym d.stands ∙ e.stands) (d.declares, d.is) (e.declares, e.is)).0 ∙ sym also
one_len form text m n (inl (d, is)) (inr (none, zero)) = absurd (none d)
one_len form text m n (inr (none, zero)) (inl (e, also)) = absurd (none e)
one_len form text m n (inr (none, zero)) (inr (never, also)) = zero ∙ sym also

pub one_begin : (role : MarkupRole) (text : List ℕ) (m n : ℕ) → BeginsBody (form_of role) text m → BeginsBody (form_of role) text n → m ≡ n
one_begin role text m n a b = a.to_is ∙ ap (λ k. mark_len text + k) (one_len (form_of role) (after_mark text) a.len b.len a.takes b.takes) ∙ sym b.to_is

-- ---- one reading

one_body : (body : Body) (list others : Items) → IsBody body list → IsBody body others → source_text list ≡ source_text others → list ≡ others
one_body body list others first second same =
    one_list body (source_text others) list others (body_is_read body (source_text others) list first same) (body_is_read body (source_text others) others second refl)

one_declared : (form : Declaration → Bool) (body : Body) (list others : Items) → IsDeclared form (IsBody body) list → IsDeclared form (IsBody body) others → source_text list ≡ source_text others → list ≡ others
one_declared form body list others (inr main) (inr more) same = one_body body list others main more same
one_declared form body list others (inl (text, rest, is, (d, declares, has, utf8), main)) (inl (other, behind, also, (e, declares_too, has_too, utf8_too), more)) same =
    let texts = one_declaration text other (source_text rest) (source_text behind) (sym (ap source_text is) ∙ same ∙ ap source_text also) (d, declares) (e, declares_too) in
    is ∙ ap (λ t. leaf gap t rest) texts.0 ∙ ap (leaf gap other) (one_body body rest behind main more texts.1) ∙ sym also
one_declared form body list others (inl (text, rest, is, (d, declares, has, utf8), main)) (inr more) same =
    absurd (no_body_declared body others text (source_text rest) (d, declares) (sym same ∙ ap source_text is) more)
one_declared form body list others (inr main) (inl (other, behind, also, (e, declares, has, utf8), more)) same =
    absurd (no_body_declared body list other (source_text behind) (e, declares) (same ∙ ap source_text also) main)

one_marked : (form : Declaration → Bool) (body : Body) (list others : Items) → IsMarked (IsDeclared form (IsBody body)) list → IsMarked (IsDeclared form (IsBody body)) others → source_text list ≡ source_text others → list ≡ others
one_marked form body list others (inl (rest, is, main)) (inl (behind, also, more)) same =
    is ∙ ap (leaf gap mark) (one_declared form body rest behind main more (ap (drop 3) (sym (ap source_text is) ∙ same ∙ ap source_text also))) ∙ sym also
one_marked form body list others (inr (none, main)) (inr (never, more)) same = one_declared form body list others main more same
one_marked form body list others (inl (rest, is, main)) (inr (never, more)) same =
    let h : true ≡ false = sym (starts_mark (source_text rest)) ∙ ap (λ t. starts_with nat_eq t mark) (sym (ap source_text is) ∙ same) ∙ never in absurd (cc)
one_marked form body list others (inr (none, main)) (inl (behind, also, more)) same =
    let h : true ≡ false = sym (starts_mark (source_text behind)) ∙ ap (λ t. starts_with nat_eq t mark) (sym (ap source_text also) ∙ sym same) ∙ none in absurd (cc)

-- a text has at most one reading as a document
pub one_tree : (text : List ℕ) (a b : Items) → IsReading document text a → IsReading document text b → a ≡ b
one_tree text a b x y = one_marked is_xml_declaration document_body a b x.ordered y.ordered (x.joined ∙ sym y.joined)

-- .. as an external parsed entity
pub one_entity : (text : List ℕ) (a b : Items) → IsReading entity text a → IsReading entity text b → a ≡ b
one_entity text a b x y = one_marked is_text_declaration content_body a b x.ordered y.ordered (x.joined ∙ sym y.joined)
