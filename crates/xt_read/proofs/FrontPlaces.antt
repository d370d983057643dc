-- A byte order mark and a declaration in their places.
use Rattle.std.proofs.Common.{◌≡◌, ◌∙◌, List, ℕ, ◌+◌, ◌-◌, ◌<◌, ◌≤◌, ◌^◌, [], ◌∷◌, ◌++◌, length, take, drop, refl, sym, ap, subst, Bool, true, false, IsUtf8, inl, inr, nat_eq, arith, Option, Some, None, if◌then◌else◌, map, append_assoc}
use Rattle.std.specs.Prelude.{MatchOption}
use Rattle.std.proofs.lemmas.List.{drop-drop, length-take, length-drop, map-append}
use Rattle.std.proofs.lemmas.Slice.Eq.{bytes_eq-Decides}
use Rattle.std.proofs.Math.Utf8.{encode}
use Rattle.std.proofs.lemmas.Str.{IsCharBoundary-from_take}
use Rattle.std.specs.List.{starts_with}
use Rattle.std.specs.Str.{IsCharBoundary}
use Rattle.xt_spec.specs.Declaration.{Declaration, IsDeclarationOf, is_utf8_or_absent}
use Rattle.xt_spec.specs.Token.{declaration, Spells, NoFront, TokenKind, IsLongestFront}
use Rattle.xt_spec.specs.Tree.{Items, leaf, gap, append, items_of, source_text}
use Rattle.xt_spec.specs.Reading.{mark, IsOrdered}
use Rattle.xt_lex.specs.Kinds.{kind_of}
use Rattle.xt_lex.specs.declared.token.Kind.{Kind}
use Rattle.xt_lex.specs.declared.token.Kind.TheVariants as kind
use Rattle.xt_lex.specs.declared.token.Token.{Token}
use Rattle.xt_lex.specs.declared.token.Span.{Span}
use Rattle.xt_tree.specs.Meaning.{at_span, item_of, items_in}
use Rattle.xt_read.specs.Steps.{IsTokenAt}
use Rattle.xt_spec.specs.Front.{NoDeclared, IsForeign, after_mark, mark_len, BeginsBody}
use Rattle.xt_spec.specs.FirstFault.{ReadingFault, not_utf8, encoding, not_well_formed, too_deep, HasBodyAt}
use Rattle.xt_read.specs.Front.{markup_role_of, form_of, body_for, gap_of, behind_mark, gaps_to}
use Rattle.xt_read.specs.FrontSteps.{IsDeclarationAt, NoDeclarationAt, IsDeclaredAt, mark_gap, declared_gap, front_items, front_len}
use Rattle.xt_read.specs.declared.front.FileRole.{FileRole}
use Rattle.xt_read.specs.declared.front.FileRole.TheVariants as file
use Rattle.xt_read.specs.declared.front.MarkupRole.{MarkupRole}
use Rattle.xt_read.specs.Faults.{IsBodyFault, IsMarkupFault, IsTextFault, IsFaultOf}
use Rattle.xt_read.specs.Run.{Body, IsRead}
use Rattle.xt_read.proofs.ItemLemmas.{items_of-append}
use Rattle.xt_read.proofs.Sound.{read_is_body}
use Rattle.xt_tree.specs.declared.source.Src.{Src}
use Rattle.xt_tree.specs.Places.{marks_in, marks_of, AreInPlace}
use Rattle.xt_tree.proofs.Theorems.{in_place-append}
use Rattle.xt_read.proofs.TokenSteps.{spelled_at, stands_at}
use Rattle.xt_read.proofs.Fronts.{longest, one_declaration, after_declared, marks_gap, no_mark_gap, gap_some, joins_body}

-- ---- a declaration at a place

pub token_at : (text : List ℕ) (at : ℕ) (token : Token) → IsCharBoundary text at → length text < 2 ^ 32 → token.span.from ≡ at → (n : ℕ) × (token.span.to ≡ at + n) × IsLongestFront (drop at text) (kind_of token.kind) n → (at < token.span.to) × (token.span.to ≤ length text) → IsCharBoundary text token.span.to → IsTokenAt text token
token_at text at token boundary fits from (n, to, longest) on cut = record {
  size = n;
  to = to ∙ ap (λ a. a + n) (sym from);
  longest = subst (λ a. IsLongestFront (drop a text) (kind_of token.kind) n) (sym from) longest;
  some = subst (λ a. a < token.span.to) (sym from) on.0;
  within = on.1;
  from_cut = subst (IsCharBoundary text) (sym from) boundary;
  to_cut = cut;
  fits = fits;
}

pub declaration_stands : (text : List ℕ) (at : ℕ) (token : Token) → IsTokenAt text token → token.span.from ≡ at → kind_of token.kind ≡ declaration → IsDeclarationAt text at token.span
declaration_stands text at token is from kind = record {
  from_is = from;
  some = subst (λ a. a < token.span.to) from is.some;
  within = is.within;
  cut = is.to_cut;
  is = subst (λ k. Spells k (at_span text token.span)) kind (spelled_at text token is);
  stands = ap (λ a. drop a text) (sym from) ∙ stands_at text token is ∙ ap (λ t. at_span text token.span ++ t) (drop-drop is.size token.span.from text ∙ ap (λ n. drop n text) (sym is.to));
}

pub none_in_front : (text : List ℕ) (at : ℕ) → NoFront (drop at text) → NoDeclarationAt text at
none_in_front text at none spelled rest stands is =
    none declaration (length spelled) (subst (λ t. IsLongestFront t declaration (length spelled)) (sym stands) (longest spelled rest is)).front

pub other_in_front : (text : List ℕ) (at n : ℕ) (kind : TokenKind) → IsLongestFront (drop at text) kind n → (kind ≡ declaration → ⊥) → NoDeclarationAt text at
other_in_front text at n kind first other spelled rest stands is =
    other (sym (first.longest declaration (length spelled) (subst (λ t. IsLongestFront t declaration (length spelled)) (sym stands) (longest spelled rest is)).front).0)

pub not_decl : (k : Kind) → (k ≡ kind.Decl → ⊥) → kind_of k ≡ declaration → ⊥
not_decl kind.Start never is = cc
not_decl kind.Empty never is = cc
not_decl kind.End never is = cc
not_decl kind.Chars never is = cc
not_decl kind.CharRef never is = cc
not_decl kind.EntRef never is = cc
not_decl kind.CData never is = cc
not_decl kind.Comment never is = cc
not_decl kind.Pi never is = cc
not_decl kind.Decl never is = never refl
not_decl kind.Doctype never is = cc

-- the declaration there has not this form
pub not_declared : (form : Declaration → Bool) (text : List ℕ) (at : ℕ) (span : Span) (d : Declaration) → IsDeclarationAt text at span → ((e : Declaration) → IsDeclarationOf e (at_span text span) → e ≡ d) → form d ≡ false → NoDeclared form (drop at text)
not_declared form text at span d place one fails other =
    let same = one_declaration other.spelled (at_span text span) other.rest (drop span.to text) (sym other.stands ∙ place.stands) (other.declares, other.is) place.is in
    let e : other.declares ≡ d = one other.declares (subst (IsDeclarationOf other.declares) same.0 other.is) in
    let h : true ≡ false = sym other.has_form ∙ ap form e ∙ fails in cc

pub none_declared : (form : Declaration → Bool) (text : List ℕ) (at : ℕ) → NoDeclarationAt text at → NoDeclared form (drop at text)
none_declared form text at none other = none other.spelled other.rest other.stands (other.declares, other.is)

pub foreign_there : (form : Declaration → Bool) (text : List ℕ) (at : ℕ) (span : Span) (d : Declaration) → IsDeclarationAt text at span → IsDeclarationOf d (at_span text span) → form d ≡ true → is_utf8_or_absent d.encoding ≡ false → IsForeign form (drop at text)
foreign_there form text at span d place is has foreign =
    (record { spelled = at_span text span; rest = drop span.to text; declares = d; is = is; has_form = has; stands = place.stands }, foreign)

-- ---- the front

mark_utf8 : IsUtf8 mark
unfolding encode
mark_utf8 = (0xFEFF ∷ [], (refl, refl))

pub mark_boundary : (text : List ℕ) → IsUtf8 text → starts_with nat_eq text mark ≡ true → IsCharBoundary text 3
mark_boundary text utf8 starts =
    let marks : take 3 text ≡ mark = sym ((bytes_eq-Decides mark (take 3 text)).0 starts) in
    let within : 3 ≤ length text = omega (arith, ap length marks, length-take 3 text) in
    IsCharBoundary-from_take text 3 utf8 within (subst IsUtf8 (sym marks) mark_utf8)

pub mark_dropped : (text : List ℕ) (len : ℕ) → len ≡ (if starts_with nat_eq text mark then 3 else 0) → drop len text ≡ after_mark text
mark_dropped text len is = ap (λ n. drop n text) is ∙ by (starts_with nat_eq text mark)
  where
    by : (b : Bool) → drop (if b then 3 else 0) text ≡ (if b then drop 3 text else text)
    by true = refl
    by false = refl

span_len : (text : List ℕ) (at : ℕ) (span : Span) → IsDeclarationAt text at span → span.to ≡ at + length (at_span text span)
span_len text at span place = omega (arith, place.from_is, place.some, place.within, length-take (span.to - span.from) (drop span.from text), length-drop span.from text)

-- the body begins behind the mark and the declaration
begins_body : (role : MarkupRole) (text : List ℕ) (len : ℕ) (declared : Option Span) → len ≡ (if starts_with nat_eq text mark then 3 else 0) → MatchOption declared (NoDeclared (form_of role) (drop len text)) (IsDeclaredAt (form_of role) text len) → BeginsBody (form_of role) text (front_len len declared)
begins_body role text len None size none = record {
  len = 0;
  takes = inr (subst (NoDeclared (form_of role)) (mark_dropped text len size) none, refl);
  to_is = omega (arith, size);
}
begins_body role text len (Some span) size is =
    let (d, declares, has, utf8) = is.declares in
    record {
      len = length (at_span text span);
      takes = inl (record { spelled = at_span text span; rest = drop span.to text; declares = d; is = declares; has_form = has; stands = sym (mark_dropped text len size) ∙ is.place.stands }, refl);
      to_is = span_len text len span is.place ∙ ap (λ k. k + length (at_span text span)) size;
    }

known_there : (role : MarkupRole) (text : List ℕ) (len : ℕ) (declared : Option Span) → MatchOption declared (NoDeclared (form_of role) (drop len text)) (IsDeclaredAt (form_of role) text len) → ¬ IsForeign (form_of role) (drop len text)
known_there role text len None none foreign = none foreign.0
known_there role text len (Some span) is foreign =
    (after_declared (form_of role) (body_for role) (drop len text) (at_span text span) (drop span.to text) (length (at_span text span)) is.declares is.place.stands refl).known foreign

pub has_body : (role : MarkupRole) (text : List ℕ) (len : ℕ) (declared : Option Span) → len ≡ mark_len text → MatchOption declared (NoDeclared (form_of role) (drop len text)) (IsDeclaredAt (form_of role) text len) → HasBodyAt (form_of role) text (front_len len declared)
has_body role text len declared size found = record {
  known = subst (λ (t : List ℕ). ¬ IsForeign (form_of role) t) (mark_dropped text len size) (known_there role text len declared found);
  begins = begins_body role text len declared size found;
}

declared_gap_is : (form : Declaration → Bool) (text : List ℕ) (len : ℕ) (declared : Option Span) → MatchOption declared (NoDeclared form (drop len text)) (IsDeclaredAt form text len) → declared_gap text declared ≡ gap_of (take (front_len len declared - len) (drop len text))
declared_gap_is form text len None none =
    let nothing : len - len ≡ 0 = omega arith in
    ap (λ n. gap_of (take n (drop len text))) (sym nothing)
declared_gap_is form text len (Some span) is =
    let some : 0 < length (at_span text span) = omega (arith, is.place.some, span_len text len span is.place) in
    sym (gap_some (at_span text span) some) ∙ ap (λ a. gap_of (take (span.to - a) (drop a text))) is.place.from_is

mark_gap_is : (text : List ℕ) (len : ℕ) (rest : Items) → len ≡ mark_len text → mark_gap text len rest ≡ behind_mark text rest
mark_gap_is text len rest size = ap (λ n. mark_gap text n rest) size ∙ by (starts_with nat_eq text mark) refl
  where
    by : (b : Bool) → starts_with nat_eq text mark ≡ b → mark_gap text (mark_len text) rest ≡ behind_mark text rest
    by true starts =
        let three : mark_len text ≡ 3 = rw starts refl in
        let marks : take 3 text ≡ mark = sym ((bytes_eq-Decides mark (take 3 text)).0 starts) in
        ap (λ n. mark_gap text n rest) three ∙ ap (λ t. leaf gap t rest) marks ∙ sym (marks_gap text rest starts)
    by false none =
        let no_bytes : mark_len text ≡ 0 = rw none refl in
        ap (λ n. mark_gap text n rest) no_bytes ∙ sym (no_mark_gap text rest none)

pub gaps_are : (role : MarkupRole) (text : List ℕ) (len : ℕ) (declared : Option Span) → len ≡ mark_len text → MatchOption declared (NoDeclared (form_of role) (drop len text)) (IsDeclaredAt (form_of role) text len) → front_items text len declared ≡ gaps_to text (front_len len declared)
gaps_are role text len declared size found =
    mark_gap_is text len (declared_gap text declared) size ∙ ap (behind_mark text)
    (declared_gap_is (form_of role) text len declared found
    ∙ ap (λ n. gap_of (take (front_len len declared - n) (drop len text))) size
    ∙ ap (λ t. gap_of (take (front_len len declared - mark_len text) t)) (mark_dropped text len size))

-- the first fault of a text, behind its front
pub text_fault : (role : MarkupRole) (text : List ℕ) (to : ℕ) (fault : ReadingFault) → HasBodyAt (form_of role) text to → IsBodyFault (body_for role) text to fault → IsMarkupFault role text fault
text_fault role text to (not_well_formed at) is fault = record { to = to; body = is; fault = fault }
text_fault role text to too_deep is fault = record { to = to; body = is; fault = fault }
text_fault role text to (not_utf8 at) is fault = absurd fault.halts
text_fault role text to encoding is fault = absurd fault.halts

-- a text in a role has no fault of its bytes
no_utf8_fault : (role : FileRole) (text : List ℕ) (at : ℕ) → IsTextFault role text (not_utf8 at) → ⊥
no_utf8_fault file.Document text at is = is
no_utf8_fault file.Entity text at is = is
no_utf8_fault file.Text text at is = is

pub file_fault : (role : FileRole) (bytes text : List ℕ) (fault : ReadingFault) → text ≡ bytes → IsUtf8 bytes → IsTextFault role text fault → IsFaultOf role bytes fault
file_fault role bytes text (not_well_formed at) same utf8 is = (utf8, subst (λ t. IsTextFault role t (not_well_formed at)) same is)
file_fault role bytes text too_deep same utf8 is = (utf8, subst (λ t. IsTextFault role t too_deep) same is)
file_fault role bytes text (not_utf8 at) same utf8 is = absurd (no_utf8_fault role text at is)
file_fault role bytes text encoding same utf8 is = (utf8, subst (λ t. IsTextFault role t encoding) same is)

-- ---- the whole

map_append : (text : List ℕ) (gaps items : List Src) → items_in text (gaps ++ items) ≡ append (items_in text gaps) (items_in text items)
map_append text gaps items = ap items_of (map-append (item_of text) gaps items) ∙ items_of-append (map (item_of text) gaps) (map (item_of text) items)

marks_append : (gaps items : List Src) → marks_of (gaps ++ items) ≡ marks_of gaps ++ marks_of items
marks_append [] items = refl
marks_append (x ∷ gaps) items = ap (λ m. marks_in x ++ m) (marks_append gaps items) ∙ sym (append_assoc (marks_in x) (marks_of gaps) (marks_of items))

pub joined_items : (role : MarkupRole) (body : Body) (text : List ℕ) (gaps items all : List Src) (to : ℕ) → body ≡ body_for role → HasBodyAt (form_of role) text to → items_in text gaps ≡ gaps_to text to → IsRead body (drop to text) (items_in text items) → all ≡ gaps ++ items → IsOrdered (markup_role_of role) (items_in text all) × (source_text (items_in text all) ≡ text)
joined_items role body text gaps items all to same is gaps_are read joined =
    let main = read_is_body (body_for role) (drop to text) (items_in text items) (subst (λ b. IsRead b (drop to text) (items_in text items)) same read) in
    let whole = (joins_body role text to is).opens (items_in text items) main.0 main.1 in
    let e : items_in text all ≡ append (gaps_to text to) (items_in text items) = ap (items_in text) joined ∙ map_append text gaps items ∙ ap (λ i. append i (items_in text items)) gaps_are in
    (subst (IsOrdered (markup_role_of role)) (sym e) whole.0, ap source_text e ∙ whole.1)

pub joined_places : (text : List ℕ) (gaps items all : List Src) (to : ℕ) → AreInPlace text 0 (marks_of gaps) to → AreInPlace text to (marks_of items) (length text) → all ≡ gaps ++ items → AreInPlace text 0 (marks_of all) (length text)
joined_places text gaps items all to first second joined =
    subst (λ m. AreInPlace text 0 m (length text)) (sym (ap marks_of joined ∙ marks_append gaps items)) (in_place-append text 0 to (length text) (marks_of gaps) (marks_of items) first second)
