-- What is read token by token is a reading: each state stands for items in their order, and their texts are what was read.
use Rattle.std.proofs.Common.{◌≡◌, ◌≢◌, ◌∙◌, ℕ, suc, ◌+◌, ◌-◌, ◌<◌, ◌≤◌, List, [], ◌∷◌, ◌++◌, length, take, drop, refl, sym, ap, subst, Some, None, Option, arith, Bool, true, false, append_assoc, append-nil, codes, bytes_eq, IsTrue, nat_lt, ◌&&◌, ◌||◌, not, if◌then◌else◌, ⊎_elim, ◌⊎◌, inl, inr, encode_utf8_all}
use Rattle.std.proofs.lemmas.List.{take-append-drop, drop-drop, length-take, length-drop}
use Rattle.std.proofs.Math.ListN.{drop_of_length-le}
use Rattle.std.proofs.Math.Seq.{take-add}
use Rattle.std.proofs.lemmas.Bool.{cases_lt}
use Rattle.xt_lex.proofs.Theorems.{front_some, encode_joined, drop_longer}
use Rattle.std.proofs.lemmas.Bool.Decides.{nat_tests}
use Rattle.std.proofs.lemmas.Slice.Eq.{bytes_eq-Decides}
use Rattle.std.specs.List.{list_all, AllByRecursion}
use Rattle.xt_spec.specs.Char.{is_space}
use Rattle.xt_spec.specs.Reference.{IsEntityRef}
use Rattle.xt_spec.specs.Name.{IsQName}
use Rattle.xt_spec.specs.Tag.{Tag, IsTag, tag_text, IsEndTag, IsSpace}
use Rattle.xt_spec.specs.Token.{TokenKind, char_data, Spells, IsFront, IsLongestFront, IsPlain, BeginsClose, HoldsNoClose, NoCloseBelow}
use Rattle.xt_spec.specs.Tree.{Items, nil, text_item, reference_item, comment_item, pi_item, gap, is_kind, Item, element_item, leaf_item, items_of, source_text, begins_with}
use Rattle.xt_spec.specs.Markup.{IsComment, IsPi}
use Rattle.xt_spec.specs.Doctype.{IsDoctype}
use Rattle.xt_spec.specs.Text.{TextPart, data_part, reference_part, section_part, part_text, parts_text, begins_with_data, AreTextParts}
use Rattle.xt_spec.specs.Reading.{are_distinct, attribute_names, IsElement, IsElementAt, IsContent, Stage, before_doctype, before_root, behind_root, is_before_root, begins_with_space, Leads}
use Rattle.xt_read.specs.Run as run
use Rattle.xt_read.specs.Run.{Body, document_body, content_body, first_stage, IsBody, Piece, data_piece, part_piece, reference_piece, comment_piece, pi_piece, declaration_piece, doctype_piece, Tok, start_tok, empty_tok, end_tok, piece_tok, tok_text, IsPiece, AreTagNames, IsToken, OpenElement, State, begin, with_text, longer, is_top, is_content, is_inside, begins_root, begins_document, behind_element, has_room, with_item, with_more, with_doctype, closed, step, Reads, has_ended, IsRead, Passes}
use Rattle.xt_read.proofs.Tokens.{token_some}
use Rattle.xt_read.proofs.Complete.{doctype_no_blank}
use Rattle.xt_read.proofs.ItemLemmas as items

-- ---- lists of items, from their ends

-- the last item passes the test
abbrev ends_by : (Item → Bool) → List Item → Bool
ends_by test [] = false
ends_by test (x ∷ []) = test x
ends_by test (x ∷ y ∷ ys) = ends_by test (y ∷ ys)

ends_by-push : (test : Item → Bool) (xs : List Item) (x : Item) → ends_by test (xs ++ x ∷ []) ≡ test x
ends_by-push test [] x = refl
ends_by-push test (y ∷ []) x = refl
ends_by-push test (y ∷ z ∷ zs) x = ends_by-push test (z ∷ zs) x

-- .. the first one
abbrev begins_by : (Item → Bool) → List Item → Bool
begins_by test [] = false
begins_by test (x ∷ xs) = test x

abbrev one : Item → Items
one item = items_of (item ∷ [])

abbrev is_text : Item → Bool
is_text (element_item o k c) = false
is_text (leaf_item kind t) = is_kind text_item kind

abbrev is_blank : Item → Bool
is_blank (element_item o k c) = false
is_blank (leaf_item text_item t) = false
is_blank (leaf_item reference_item t) = false
is_blank (leaf_item comment_item t) = false
is_blank (leaf_item pi_item t) = false
is_blank (leaf_item gap t) = list_all is_space t

begins_text : (xs : List Item) → begins_with text_item (items_of xs) ≡ begins_by is_text xs
begins_text [] = refl
begins_text (element_item o k c ∷ xs) = refl
begins_text (leaf_item kind t ∷ xs) = refl

begins_blank : (xs : List Item) → begins_with_space (items_of xs) ≡ begins_by is_blank xs
begins_blank [] = refl
begins_blank (element_item o k c ∷ xs) = refl
begins_blank (leaf_item text_item t ∷ xs) = refl
begins_blank (leaf_item reference_item t ∷ xs) = refl
begins_blank (leaf_item comment_item t ∷ xs) = refl
begins_blank (leaf_item pi_item t ∷ xs) = refl
begins_blank (leaf_item gap t ∷ xs) = refl

-- the item may stand behind the others: not both pass the test
abbrev Seam : (Item → Bool) → List Item → Item → Type 0
Seam test xs x = test x ≡ true → ends_by test xs ≡ false

seam_tail : (test : Item → Bool) (y : Item) (ys : List Item) (x : Item) → Seam test (y ∷ ys) x → Seam test ys x
seam_tail test y [] x seam = λ b. refl
seam_tail test y (z ∷ zs) x seam = seam

not_true : (b : Bool) → (b ≡ true → ⊥) → b ≡ false
not_true true never = absurd (never refl)
not_true false never = refl

seam_holds : (test : Item → Bool) (y : Item) (ys : List Item) (x : Item) → test y ≡ true → begins_by test ys ≡ false → Seam test (y ∷ ys) x → begins_by test (ys ++ x ∷ []) ≡ false
seam_holds test y [] x passes none seam = not_true (test x) (λ b. let h : test y ≡ false = seam b in cc)
seam_holds test y (z ∷ zs) x passes none seam = none

text_seam : (t : List ℕ) (xs : List Item) (x : Item) → begins_with text_item (items_of xs) ≡ false → Seam is_text (leaf_item text_item t ∷ xs) x → begins_with text_item (items_of (xs ++ x ∷ [])) ≡ false
text_seam t xs x none seam = begins_text (xs ++ x ∷ []) ∙ seam_holds is_text (leaf_item text_item t) xs x refl (sym (begins_text xs) ∙ none) seam

blank_seam : (t : List ℕ) (xs : List Item) (x : Item) → IsSpace t → begins_with_space (items_of xs) ≡ false → Seam is_blank (leaf_item gap t ∷ xs) x → begins_with_space (items_of (xs ++ x ∷ [])) ≡ false
blank_seam t xs x blank none seam = begins_blank (xs ++ x ∷ []) ∙ seam_holds is_blank (leaf_item gap t) xs x blank.0 (sym (begins_blank xs) ∙ none) seam

content_push : (level : ℕ) (xs : List Item) (x : Item) → IsContent level (items_of xs) → IsContent level (one x) → Seam is_text xs x → IsContent level (items_of (xs ++ x ∷ []))
content_push level [] x are is seam = is
content_push level (element_item o k c ∷ xs) x are is seam = (are.0, are.1, content_push level xs x are.2 is (seam_tail is_text (element_item o k c) xs x seam))
content_push level (leaf_item text_item t ∷ xs) x are is seam = (are.0, text_seam t xs x are.1 seam, content_push level xs x are.2 is (seam_tail is_text (leaf_item text_item t) xs x seam))
content_push level (leaf_item reference_item t ∷ xs) x are is seam = (are.0, are.1, content_push level xs x are.2 is (seam_tail is_text (leaf_item reference_item t) xs x seam))
content_push level (leaf_item comment_item t ∷ xs) x are is seam = (are.0, content_push level xs x are.1 is (seam_tail is_text (leaf_item comment_item t) xs x seam))
content_push level (leaf_item pi_item t ∷ xs) x are is seam = (are.0, content_push level xs x are.1 is (seam_tail is_text (leaf_item pi_item t) xs x seam))
content_push level (leaf_item gap t ∷ xs) x are is seam = absurd are

-- the top of a document goes on with an item
leads_push : (from : Stage) (xs : List Item) (x : Item) (mid last : Stage) → Leads from (items_of xs) mid → Leads mid (one x) last → Seam is_blank xs x → Leads from (items_of (xs ++ x ∷ [])) last
leads_push from [] x mid last to is seam = subst (λ s. Leads s (one x) last) (sym to) is
leads_push from (element_item o k c ∷ xs) x mid last to is seam = (to.0, to.1, to.2, leads_push behind_root xs x mid last to.3 is (seam_tail is_blank (element_item o k c) xs x seam))
leads_push from (leaf_item comment_item t ∷ xs) x mid last to is seam = (to.0, leads_push from xs x mid last to.1 is (seam_tail is_blank (leaf_item comment_item t) xs x seam))
leads_push from (leaf_item pi_item t ∷ xs) x mid last to is seam = (to.0, leads_push from xs x mid last to.1 is (seam_tail is_blank (leaf_item pi_item t) xs x seam))
leads_push from (leaf_item gap t ∷ xs) x mid last (inl (first, type, to)) is seam =
    inl (first, type, leads_push before_root xs x mid last to is (seam_tail is_blank (leaf_item gap t) xs x seam))
leads_push from (leaf_item gap t ∷ xs) x mid last (inr (blank, none, to)) is seam =
    inr (blank, blank_seam t xs x blank none seam, leads_push from xs x mid last to is (seam_tail is_blank (leaf_item gap t) xs x seam))
leads_push from (leaf_item text_item t ∷ xs) x mid last to is seam = absurd to
leads_push from (leaf_item reference_item t ∷ xs) x mid last to is seam = absurd to

-- ---- text items that may go on

abbrev ends_with_data : List TextPart → Bool
ends_with_data [] = false
ends_with_data (data_part t ∷ []) = true
ends_with_data (reference_part t c ∷ []) = false
ends_with_data (section_part t content ∷ []) = false
ends_with_data (p ∷ q ∷ ps) = ends_with_data (q ∷ ps)

ends_with_data-push : (ps : List TextPart) (p : TextPart) → ends_with_data (ps ++ p ∷ []) ≡ ends_with_data (p ∷ [])
ends_with_data-push [] p = refl
ends_with_data-push (q ∷ []) p = refl
ends_with_data-push (q ∷ r ∷ rs) p = ends_with_data-push (r ∷ rs) p

parts_text-push : (ps : List TextPart) (p : TextPart) → parts_text (ps ++ p ∷ []) ≡ parts_text ps ++ part_text p
parts_text-push [] p = append-nil (part_text p)
parts_text-push (q ∷ ps) p = ap (λ t. part_text q ++ t) (parts_text-push ps p) ∙ sym (append_assoc (part_text q) (parts_text ps) (part_text p))

still_no_data : (q : TextPart) (ps : List TextPart) (p : TextPart) → begins_with_data (q ∷ ps) ≡ false → begins_with_data ((q ∷ ps) ++ p ∷ []) ≡ false
still_no_data (data_part t) ps p none = none
still_no_data (reference_part t c) ps p none = none
still_no_data (section_part t content) ps p none = none

parts_push_data : (ps : List TextPart) (t : List ℕ) → AreTextParts ps → ends_with_data ps ≡ false → Spells char_data t → AreTextParts (ps ++ data_part t ∷ [])
parts_push_data [] t are none spelled = (spelled, refl, tt)
parts_push_data (data_part a ∷ []) t are none spelled = absurd (let h : true ≡ false = none in cc)
parts_push_data (data_part a ∷ q ∷ ps) t are none spelled = (are.0, still_no_data q ps (data_part t) are.1, parts_push_data (q ∷ ps) t are.2 none spelled)
parts_push_data (reference_part a c ∷ []) t are none spelled = (are.0, parts_push_data [] t tt refl spelled)
parts_push_data (reference_part a c ∷ q ∷ ps) t are none spelled = (are.0, parts_push_data (q ∷ ps) t are.1 none spelled)
parts_push_data (section_part a content ∷ []) t are none spelled = (are.0, parts_push_data [] t tt refl spelled)
parts_push_data (section_part a content ∷ q ∷ ps) t are none spelled = (are.0, parts_push_data (q ∷ ps) t are.1 none spelled)

-- a part that is no character data, behind the others
parts_push : (ps : List TextPart) (p : TextPart) → AreTextParts ps → AreTextParts (p ∷ []) → begins_with_data (p ∷ []) ≡ false → AreTextParts (ps ++ p ∷ [])
parts_push [] p are is plain = is
parts_push (data_part a ∷ []) p are is plain = (are.0, plain, is)
parts_push (data_part a ∷ q ∷ ps) p are is plain = (are.0, still_no_data q ps p are.1, parts_push (q ∷ ps) p are.2 is plain)
parts_push (reference_part a d ∷ ps) p are is plain = (are.0, parts_push ps p are.1 is plain)
parts_push (section_part a content ∷ ps) p are is plain = (are.0, parts_push ps p are.1 is plain)

push_some : {A : Type 0} (xs : List A) (x : A) → xs ++ x ∷ [] ≢ []
push_some [] x e = cc
push_some (y ∷ ys) x e = cc

-- no character data stands at the front
abbrev pub NoData : List ℕ → Type 0
NoData rest = (n : ℕ) → ¬ IsFront char_data n rest

-- a text item that may go on: its parts so far; behind character data no more of it stands
abbrev Pending : Option (List ℕ) → List ℕ → Type 0
Pending None rest = Unit {0}
Pending (Some t) rest = (parts : List TextPart) × AreTextParts parts × (parts ≢ []) × (parts_text parts ≡ t) × (ends_with_data parts ≡ true → NoData rest)

all_plain-append : (cs ds : List ℕ) → AllByRecursion IsPlain cs → AllByRecursion IsPlain ds → AllByRecursion IsPlain (cs ++ ds)
all_plain-append [] ds x y = y
all_plain-append (c ∷ cs) ds x y = (x.0, all_plain-append cs ds x.1 y)

-- a `]]>` of the front is one of the text
close_ahead : (text : List ℕ) (n k : ℕ) → BeginsClose (drop k (take n text)) → BeginsClose (drop k text)
close_ahead text n k (rest, e) =
    ⊎_elim (λ (past : length (take n text) < k).
    let size : length (take n text) ≤ k = omega (arith, past) in
    let h : [] ≡ codes "]]>" ++ rest = sym (drop_of_length-le (take n text) size) ∙ e in absurd (cc))
    (λ (within : k ≤ length (take n text)). (rest ++ drop n text, drop_longer text n k within ∙ ap (λ t. t ++ drop n text) e ∙ append_assoc (codes "]]>") rest (drop n text)))
    (cases_lt (length (take n text)) k)

-- no `]]>` begins in the two
no_close_joined : (text : List ℕ) (n m : ℕ) → NoCloseBelow n text → NoCloseBelow m (drop n text) → NoCloseBelow (n + m) text
no_close_joined text n m first second k below close =
    ⊎_elim (λ (early : k < n). first k early close)
    (λ (late : n ≤ k).
    let inner : k - n < m = omega (arith, below, late) in
    let place : n + (k - n) ≡ k = omega (arith, late) in
    second (k - n) inner (subst BeginsClose (sym (drop-drop (k - n) n text ∙ ap (λ i. drop i text) place)) close))
    (cases_lt k n)

holds_none : (text : List ℕ) (n : ℕ) → n ≤ length text → NoCloseBelow n text → HoldsNoClose (take n text)
holds_none text n within none k close =
    ⊎_elim (λ (early : k < n). none k early (close_ahead text n k close))
    (λ (late : n ≤ k). let size : length (take n text) ≤ k = omega (arith, length-take n text, late) in
    let empty : drop k (take n text) ≡ [] = drop_of_length-le (take n text) size in
    let h : [] ≡ codes "]]>" ++ close.0 = sym empty ∙ close.1 in absurd (cc))
    (cases_lt k n)

-- character data behind which more of it stands is not the longest
pub no_data_after : (text : List ℕ) (n : ℕ) → 0 < n → IsLongestFront text char_data n → NoData (drop n text)
no_data_after text n some longest m front =
    let first = longest.front.spelled in
    let second = front.spelled in
    let within : n + m ≤ length text = omega (arith, longest.front.within, front.within, length-drop n text) in
    let none : NoCloseBelow (n + m) text = no_close_joined text n m longest.front.stands front.stands in
    let joined : take (n + m) text ≡ encode_utf8_all (first.0 ++ second.0) = take-add n m text ∙ ap (λ t. t ++ take m (drop n text)) first.3 ∙ ap (λ t. encode_utf8_all first.0 ++ t) second.3 ∙ sym (encode_joined first.0 second.0) in
    let both : IsFront char_data (n + m) text = record {
      within = within;
      spelled = (first.0 ++ second.0, (λ e. first.1 (front_nil first.0 second.0 e)), all_plain-append first.0 second.0 first.2 second.2, joined, holds_none text (n + m) within none);
      stands = none;
    } in
    let longer_is = (longest.longest char_data (n + m) both).1 in
    omega (arith, longer_is, front_some (drop n text) char_data m front)
  where
    front_nil : (xs ys : List ℕ) → xs ++ ys ≡ [] → xs ≡ []
    front_nil [] ys e = refl
    front_nil (x ∷ xs) ys e = absurd (cc)

-- ---- states

-- the tag of an open element, and where it stands
record IsOpenTag (level : ℕ) (e : OpenElement) : Type 0 where
  within : level < 128
  tag : Tag
  parts : IsTag tag
  spelled : e.open_tag ≡ tag_text tag (codes ">")
  unique : IsTrue (are_distinct (attribute_names tag))
  named : e.name ≡ tag.name

-- what stands before the outermost open element
abbrev Based : Option Stage → Items → Type 0
Based None list = IsContent 0 list
Based (Some stage) list = (stage ≡ behind_root) × (before : Stage) × (is_before_root before ≡ true) × Leads before_doctype list before

-- each open element, and the items before it
abbrev AreOpened : Option Stage → List OpenElement → Type 0
AreOpened stage [] = Unit {0}
AreOpened stage (e ∷ []) = IsOpenTag 0 e × Based stage (items_of e.before)
AreOpened stage (e ∷ f ∷ es) = IsOpenTag (length (f ∷ es)) e × IsContent (length (f ∷ es)) (items_of e.before) × AreOpened stage (f ∷ es)

-- content, and a text item that may go on
record IsGrowing (level : ℕ) (items : List Item) (text : Option (List ℕ)) (rest : List ℕ) : Type 0 where
  content : IsContent level (items_of items)
  ends : ends_by is_text items ≡ false
  pending : Pending text rest

-- the top of a document, up to a stage
record IsTop (stage : Stage) (items : List Item) (text : Option (List ℕ)) (rest : List ℕ) : Type 0 where
  leads : Leads before_doctype (items_of items) stage
  none : text ≡ None
  blank : ends_by is_blank items ≡ true → NoData rest

abbrev GoodAt : List OpenElement → List Item → Option (List ℕ) → Option Stage → List ℕ → Type 0
GoodAt [] items text None rest = IsGrowing 0 items text rest
GoodAt [] items text (Some stage) rest = IsTop stage items text rest
GoodAt (e ∷ es) items text stage rest = AreOpened stage (e ∷ es) × IsGrowing (length (e ∷ es)) items text rest

-- the state stands for items in their order, where this text follows
abbrev Good : State → List ℕ → Type 0
Good s rest = GoodAt s.opened s.items s.text s.stage rest

-- the items before the open elements, and their tags, the outermost first
abbrev opened_text : List OpenElement → List ℕ
opened_text [] = []
opened_text (e ∷ es) = opened_text es ++ source_text (items_of e.before) ++ e.open_tag

abbrev text_at : List OpenElement → List Item → Option (List ℕ) → List ℕ
text_at opened items text = opened_text opened ++ source_text (items_of (with_text items text))

-- what was read to come to the state
abbrev state_text : State → List ℕ
state_text s = text_at s.opened s.items s.text

source_text-push : (xs : List Item) (x : Item) → source_text (items_of (xs ++ x ∷ [])) ≡ source_text (items_of xs) ++ source_text (one x)
source_text-push xs x = ap source_text (items.items_of-append xs (x ∷ [])) ∙ items.source_text-append (items_of xs) (one x)

-- the content with the text item that goes on no more
content_with_text : (level : ℕ) (xs : List Item) (text : Option (List ℕ)) (rest : List ℕ) → IsGrowing level xs text rest → IsContent level (items_of (with_text xs text))
content_with_text level xs None rest is = is.content
content_with_text level xs (Some t) rest is =
    let (parts, are, some, joined, after) = is.pending in
    content_push level xs (leaf_item text_item t) is.content ((parts, are, some, joined), refl, tt) (λ b. is.ends)

-- .. and an item behind it, which is no text
grown_by : (level : ℕ) (xs : List Item) (text : Option (List ℕ)) (x : Item) (here rest : List ℕ) → IsGrowing level xs text here → IsContent level (one x) → is_text x ≡ false → IsGrowing level (with_text xs text ++ x ∷ []) None rest
grown_by level xs text x here rest is inner apart = record {
  content = content_push level (with_text xs text) x (content_with_text level xs text here is) inner (λ b. absurd (let h : false ≡ true = sym apart ∙ b in cc));
  ends = ends_by-push is_text (with_text xs text) x ∙ apart;
  pending = tt;
}

-- .. of the top of a document
top_with : (stage last : Stage) (xs : List Item) (text : Option (List ℕ)) (x : Item) (here rest : List ℕ) → IsTop stage xs text here → Leads stage (one x) last → is_blank x ≡ false → IsTop last (with_text xs text ++ x ∷ []) None rest
top_with stage last xs text x here rest is inner apart = record {
  leads = subst (λ o. Leads before_doctype (items_of (with_text xs o ++ x ∷ [])) last) (sym is.none) (leads_push before_doctype xs x stage last is.leads inner (λ b. absurd (let h : false ≡ true = sym apart ∙ b in cc)));
  none = refl;
  blank = λ b. absurd (let h : false ≡ true = sym apart ∙ sym (ends_by-push is_blank (with_text xs text) x) ∙ b in cc);
}

pub spelled_text : (tok : Tok) (text : List ℕ) → (is : IsToken tok text) → Spells is.kind (tok_text tok)
spelled_text tok text is = subst (λ t. Spells is.kind t) is.front is.longest.front.spelled

pub guarded : {A : Type 0} (b : Bool) (x t : A) → (if b then Some x else None) ≡ Some t → (b ≡ true) × (x ≡ t)
guarded true x t e = (refl, cc)
guarded false x t e = absurd (let h : ◌≡◌ {A = Option _} None (Some t) = e in cc)

both_parts : (a b : Bool) → a && b ≡ true → (a ≡ true) × (b ≡ true)
both_parts true b e = (refl, e)
both_parts false b e = absurd (let h : false ≡ true = e in cc)

below_limit : (n : ℕ) → nat_lt n 128 ≡ true → n < 128
below_limit n is = grind (arith, nat_tests)

-- what stands behind a state, and what was read to it
abbrev Goes : State → State → List ℕ → List ℕ → Type 0
Goes s t tok rest = Good t rest × (state_text t ≡ state_text s ++ tok)

-- ---- an element begins

-- the top has come as far as it comes where an element is open
opened_behind : (stage : Option Stage) (e : OpenElement) (es : List OpenElement) → AreOpened stage (e ∷ es) → behind_element stage ≡ stage
opened_behind None e es are = refl
opened_behind (Some stage) e [] are = ap Some (sym are.1.0)
opened_behind (Some stage) e (f ∷ es) are = opened_behind (Some stage) f es are.2

still_opened : (stage : Option Stage) (e : OpenElement) (es : List OpenElement) → AreOpened stage (e ∷ es) → AreOpened (behind_element stage) (e ∷ es)
still_opened stage e es are = subst (λ s. AreOpened s (e ∷ es)) (sym (opened_behind stage e es are)) are

open_text : (before : List ℕ) (source tag : List ℕ) → (before ++ source ++ tag) ++ [] ≡ (before ++ source) ++ tag
open_text before source tag = append-nil (before ++ source ++ tag)

nothing_yet : (level : ℕ) (rest : List ℕ) → IsGrowing level [] None rest
nothing_yet level rest = record { content = tt; ends = refl; pending = tt }

-- an element may begin: at no more than level 128, and at the top where the stage lets it
record HasRoom (opened : List OpenElement) (stage : Option Stage) : Type 0 where
  within : length opened < 128
  root : opened ≡ [] → begins_root stage ≡ true

room_is : (opened : List OpenElement) (items : List Item) (text : Option (List ℕ)) (stage : Option Stage) → has_room (record { opened = opened; items = items; text = text; stage = stage }) ≡ true → HasRoom opened stage
room_is opened items text stage room =
    let parts = both_parts (not (not (nat_lt (length opened) 128))) (not (is_top opened) || begins_root stage) room in
    record { within = below_limit (length opened) (not_not (nat_lt (length opened) 128) parts.0); root = first opened stage parts.1 }
  where
    not_not : (b : Bool) → not (not b) ≡ true → b ≡ true
    not_not true e = refl
    not_not false e = absurd (let h : false ≡ true = e in cc)

    first : (opened : List OpenElement) (stage : Option Stage) → (not (is_top opened) || begins_root stage) ≡ true → opened ≡ [] → begins_root stage ≡ true
    first [] stage e none = e
    first (f ∷ es) stage e none = absurd (cc)

based : (items : List Item) (text : Option (List ℕ)) (stage : Option Stage) (here : List ℕ) → GoodAt [] items text stage here → begins_root stage ≡ true → Based (behind_element stage) (items_of (with_text items text))
based items text None here good root = content_with_text 0 items text here good
based items text (Some stage) here good root = (refl, stage, root, subst (λ o. Leads before_doctype (items_of (with_text items o)) stage) (sym good.none) good.leads)

starts : (opened : List OpenElement) (items : List Item) (text : Option (List ℕ)) (stage : Option Stage) (tok name : List ℕ) (names : List (List ℕ)) (here rest : List ℕ)
    → GoodAt opened items text stage here → AreTagNames tok (codes ">") name names → HasRoom opened stage → are_distinct names ≡ true
    → Goes (record { opened = opened; items = items; text = text; stage = stage }) (record { opened = record { open_tag = tok; name = name; before = with_text items text } ∷ opened; items = []; text = None; stage = behind_element stage }) tok rest
starts opened items text stage tok name names here rest good is room distinct =
    let open_tag : IsOpenTag (length opened) (record { open_tag = tok; name = name; before = with_text items text }) = record {
      within = room.within;
      tag = is.tag;
      parts = is.parts;
      spelled = is.spelled;
      unique = subst (λ n. are_distinct n ≡ true) is.are_names distinct;
      named = is.is_name;
    } in
    ((are_opened opened good room.root open_tag, nothing_yet (suc (length opened)) rest), open_text (opened_text opened) (source_text (items_of (with_text items text))) tok)
  where
    element : OpenElement
    element = record { open_tag = tok; name = name; before = with_text items text }

    are_opened : (opened : List OpenElement) → GoodAt opened items text stage here → (opened ≡ [] → begins_root stage ≡ true) → IsOpenTag (length opened) element → AreOpened (behind_element stage) (element ∷ opened)
    are_opened [] good root open_tag = (open_tag, based items text stage here good (root refl))
    are_opened (f ∷ es) good root open_tag = (open_tag, content_with_text (length (f ∷ es)) items text here good.1, still_opened stage f es good.0)

-- ---- an item stands behind the others

push_text : (before : List ℕ) (xs : List Item) (x : Item) (text : List ℕ) → source_text (one x) ≡ text → before ++ source_text (items_of (xs ++ x ∷ [])) ≡ (before ++ source_text (items_of xs)) ++ text
push_text before xs x text is =
    ap (λ t. before ++ t) (source_text-push xs x ∙ ap (λ t. source_text (items_of xs) ++ t) is) ∙ sym (append_assoc before (source_text (items_of xs)) text)

-- an element in its place, and no text item that goes on
element_stands : (opened : List OpenElement) (items : List Item) (text : Option (List ℕ)) (stage : Option Stage) (o : List ℕ) (k : Items) (c : Option (List ℕ)) (here rest : List ℕ)
    → GoodAt opened items text stage here → IsElementAt (length opened) o k c → IsContent (suc (length opened)) k → (opened ≡ [] → begins_root stage ≡ true)
    → GoodAt opened (with_text items text ++ element_item o k c ∷ []) None (behind_element stage) rest
element_stands [] items text None o k c here rest good is inner root = grown_by 0 items text (element_item o k c) here rest good (is, inner, tt) refl
element_stands [] items text (Some stage) o k c here rest good is inner root = top_with stage behind_root items text (element_item o k c) here rest good (root refl, is, inner, refl) refl
element_stands (f ∷ es) items text stage o k c here rest good is inner root =
    (still_opened stage f es good.0, grown_by (length (f ∷ es)) items text (element_item o k c) here rest good.1 (is, inner, tt) refl)

empties : (opened : List OpenElement) (items : List Item) (text : Option (List ℕ)) (stage : Option Stage) (tok name : List ℕ) (names : List (List ℕ)) (here rest : List ℕ)
    → GoodAt opened items text stage here → AreTagNames tok (codes "/>") name names → HasRoom opened stage → are_distinct names ≡ true
    → Goes (record { opened = opened; items = items; text = text; stage = stage }) (record { opened = opened; items = with_text items text ++ element_item tok nil None ∷ []; text = None; stage = behind_element stage }) tok rest
empties opened items text stage tok name names here rest good is room distinct =
    let el : IsElement tok nil None = record { tag = is.tag; parts = is.parts; spelled = is.spelled; unique = subst (λ n. are_distinct n ≡ true) is.are_names distinct; closes = refl } in (
      element_stands opened items text stage tok nil None here rest good (record { within = room.within; element = el }) tt room.root,
      push_text (opened_text opened) (with_text items text) (element_item tok nil None) tok (append-nil (tok ++ [] ++ []) ∙ append-nil (tok ++ []) ∙ append-nil tok),
    )

-- ---- an element ends

close_text_is : (outer before tag kids c : List ℕ) → (outer ++ before ++ tag) ++ kids ++ c ≡ outer ++ (before ++ (((tag ++ kids) ++ c) ++ []))
close_text_is outer before tag kids c = simp (append_assoc, append-nil)

ends : (e : OpenElement) (es : List OpenElement) (items : List Item) (text : Option (List ℕ)) (stage : Option Stage) (tok name here rest : List ℕ)
    → GoodAt (e ∷ es) items text stage here → IsEndTag name tok → e.name ≡ name
    → Goes (record { opened = e ∷ es; items = items; text = text; stage = stage }) (record { opened = es; items = e.before ++ element_item e.open_tag (items_of (with_text items text)) (Some tok) ∷ []; text = None; stage = stage }) tok rest
ends e es items text stage tok name here rest good is named = (
  stands es stage good,
  (ap (λ t. opened_text es ++ t) (source_text-push e.before (element_item e.open_tag (items_of (with_text items text)) (Some tok)))
      ∙ sym (close_text_is (opened_text es) (source_text (items_of e.before)) e.open_tag (source_text (items_of (with_text items text))) tok)),
)
  where
    kids : Items
    kids = items_of (with_text items text)

    element : Item
    element = element_item e.open_tag kids (Some tok)

    element_is : (level : ℕ) → IsOpenTag level e → IsElementAt level e.open_tag kids (Some tok)
    element_is level o = record { within = o.within; element = record { tag = o.tag; parts = o.parts; spelled = o.spelled; unique = o.unique; closes = subst (λ n. IsEndTag n tok) (sym named ∙ o.named) is } }

    stands : (es : List OpenElement) (stage : Option Stage) → GoodAt (e ∷ es) items text stage here → GoodAt es (e.before ++ element ∷ []) None stage rest
    stands [] None good = record {
      content = content_push 0 e.before element good.0.1 (element_is 0 good.0.0, content_with_text 1 items text here good.1, tt) (λ b. absurd (let h : false ≡ true = b in cc));
      ends = ends_by-push is_text e.before element;
      pending = tt;
    }
    stands [] (Some stage) good =
        let (last, before, root, leads) = good.0.1 in
        record {
          leads = leads_push before_doctype e.before element before stage leads (root, element_is 0 good.0.0, content_with_text 1 items text here good.1, sym last) (λ b. absurd (let h : false ≡ true = b in cc));
          none = refl;
          blank = λ b. absurd (let h : false ≡ true = sym (ends_by-push is_blank e.before element) ∙ b in cc);
        }
    stands (f ∷ es) stage good = (
      good.0.2,
      record {
        content = content_push (length (f ∷ es)) e.before element good.0.1 (element_is (length (f ∷ es)) good.0.0, content_with_text (length (e ∷ f ∷ es)) items text here good.1, tt) (λ b. absurd (let h : false ≡ true = b in cc));
        ends = ends_by-push is_text e.before element;
        pending = tt;
      },
    )

-- ---- a token of content

-- the text of a state whose text item goes on
grown_text : (before : List ℕ) (xs : List Item) (text : Option (List ℕ)) (tail : List ℕ) → before ++ source_text (items_of (with_text xs (Some (longer text tail)))) ≡ (before ++ source_text (items_of (with_text xs text))) ++ tail
grown_text before xs None tail = push_text before xs (leaf_item text_item tail) tail (append-nil tail)
grown_text before xs (Some t) tail =
    push_text before xs (leaf_item text_item (t ++ tail)) (t ++ tail) (append-nil (t ++ tail))
    ∙ sym (append_assoc (before ++ source_text (items_of xs)) t tail)
    ∙ ap (λ a. a ++ tail) (sym (push_text before xs (leaf_item text_item t) t (append-nil t)))

pending_data : (text : Option (List ℕ)) (t here rest : List ℕ) → Pending text here → ((n : ℕ) → NoData here → ⊥) → Spells char_data t → NoData rest → Pending (Some (longer text t)) rest
pending_data None t here rest pending front spelled after =
    (data_part t ∷ [], (spelled, refl, tt), (λ e. let h : ◌≡◌ {A = List TextPart} (data_part t ∷ []) [] = e in cc), append-nil t, λ e. after)
pending_data (Some a) t here rest (parts, are, some, joined, before) front spelled after =
    let none : ends_with_data parts ≡ false = not_true (ends_with_data parts) (λ e. front 0 (before e)) in
    (parts ++ data_part t ∷ [], parts_push_data parts t are none spelled, push_some parts (data_part t), parts_text-push parts (data_part t) ∙ ap (λ b. b ++ t) joined, λ e. after)

pending_part : (text : Option (List ℕ)) (p : TextPart) (here rest : List ℕ) → Pending text here → AreTextParts (p ∷ []) → begins_with_data (p ∷ []) ≡ false → ends_with_data (p ∷ []) ≡ false → Pending (Some (longer text (part_text p))) rest
pending_part None p here rest pending is plain last =
    (p ∷ [], is, (λ e. let h : ◌≡◌ {A = List TextPart} (p ∷ []) [] = e in cc), append-nil (part_text p), λ e. absurd (let h : false ≡ true = sym last ∙ e in cc))
pending_part (Some a) p here rest (parts, are, some, joined, before) is plain last = (
  parts ++ p ∷ [],
  parts_push parts p are is plain,
  push_some parts p,
  parts_text-push parts p ∙ ap (λ b. b ++ part_text p) joined,
  λ e. absurd (let h : false ≡ true = sym last ∙ sym (ends_with_data-push parts p) ∙ e in cc),
)

pending_piece : (text : Option (List ℕ)) (t here rest : List ℕ) → Pending text here → (kind : TokenKind) → IsPiece kind part_piece t → Spells kind t → Pending (Some (longer text t)) rest
pending_piece text t here rest pending kind (inl section) spelled =
    let (content, is) = subst (λ k. Spells k t) section spelled in
    pending_part text (section_part t content) here rest pending (is, tt) refl refl
pending_piece text t here rest pending kind (inr (kinds, c, stands)) spelled = pending_part text (reference_part t c) here rest pending (stands, tt) refl refl

-- ---- one step

pub longest_of : (kind other : TokenKind) (text : List ℕ) (n : ℕ) → kind ≡ other → IsLongestFront text kind n → IsLongestFront text other n
longest_of kind other text n same is = subst (λ k. IsLongestFront text k n) same is

abbrev state : List OpenElement → List Item → Option (List ℕ) → Option Stage → State
state opened items text stage = record { opened = opened; items = items; text = text; stage = stage }

-- inside, content grows, and nothing else of the state changes
record GrowsAt (opened : List OpenElement) (items : List Item) (text : Option (List ℕ)) (stage : Option Stage) (here : List ℕ) : Type 0 where
  growing : IsGrowing (length opened) items text here
  again : (items : List Item) (text : Option (List ℕ)) (rest : List ℕ) → IsGrowing (length opened) items text rest → GoodAt opened items text stage rest

inside : (opened : List OpenElement) (items : List Item) (text : Option (List ℕ)) (stage : Option Stage) (here : List ℕ) → is_inside (state opened items text stage) ≡ true → GoodAt opened items text stage here → GrowsAt opened items text stage here
inside [] items text None here is good = record { growing = good; again = λ items text rest g. g }
inside [] items text (Some stage) here is good = absurd (let h : false ≡ true = is in cc)
inside (e ∷ es) items text stage here is good = record { growing = good.1; again = λ items text rest g. (good.0, g) }

-- elsewhere a document's top stands
record IsTopAt (opened : List OpenElement) (items : List Item) (text : Option (List ℕ)) (stage : Option Stage) (here : List ℕ) : Type 0 where
  now : Stage
  top : IsTop now items text here
  opened_is : opened ≡ []
  stage_is : stage ≡ Some now

outside : (opened : List OpenElement) (items : List Item) (text : Option (List ℕ)) (stage : Option Stage) (here : List ℕ) → is_inside (state opened items text stage) ≡ false → GoodAt opened items text stage here → IsTopAt opened items text stage here
outside [] items text None here is good = absurd (let h : true ≡ false = is in cc)
outside [] items text (Some stage) here is good = record { now = stage; top = good; opened_is = refl; stage_is = refl }
outside (e ∷ es) items text stage here is good = absurd (let h : true ≡ false = is in cc)

good_top : (opened : List OpenElement) (items : List Item) (text : Option (List ℕ)) (stage : Option Stage) (now : Stage) (rest : List ℕ) → opened ≡ [] → stage ≡ Some now → IsTop now items text rest → GoodAt opened items text stage rest
good_top opened items text stage now rest none is top = subst (λ o. GoodAt o items text stage rest) (sym none) (subst (λ s. GoodAt [] items text s rest) (sym is) top)

-- an item of content
item_step : (opened : List OpenElement) (items : List Item) (text : Option (List ℕ)) (stage : Option Stage) (x : Item) (tok here rest : List ℕ) → GrowsAt opened items text stage here → IsContent (length opened) (one x) → is_text x ≡ false → source_text (one x) ≡ tok
    → Goes (state opened items text stage) (state opened (with_text items text ++ x ∷ []) None stage) tok rest
item_step opened items text stage x tok here rest grows is apart whole =
    (grows.again (with_text items text ++ x ∷ []) None rest (grown_by (length opened) items text x here rest grows.growing is apart), push_text (opened_text opened) (with_text items text) x tok whole)

-- the text item goes on
text_step : (opened : List OpenElement) (items : List Item) (text : Option (List ℕ)) (stage : Option Stage) (tok here rest : List ℕ) → GrowsAt opened items text stage here → Pending (Some (longer text tok)) rest
    → Goes (state opened items text stage) (state opened items (Some (longer text tok)) stage) tok rest
text_step opened items text stage tok here rest grows pending =
    (grows.again items (Some (longer text tok)) rest (record { content = grows.growing.content; ends = grows.growing.ends; pending = pending }), grown_text (opened_text opened) items text tok)

-- an item that may stand anywhere
misc_step : (opened : List OpenElement) (items : List Item) (text : Option (List ℕ)) (stage : Option Stage) (x : Item) (tok here rest : List ℕ) → GoodAt opened items text stage here → ((level : ℕ) → IsContent level (one x)) → ((now : Stage) → Leads now (one x) now) → is_text x ≡ false → is_blank x ≡ false → source_text (one x) ≡ tok
    → Goes (state opened items text stage) (state opened (with_text items text ++ x ∷ []) None stage) tok rest
misc_step opened items text stage x tok here rest good content leads apart plain whole =
    (stands opened stage good, push_text (opened_text opened) (with_text items text) x tok whole)
  where
    stands : (opened : List OpenElement) (stage : Option Stage) → GoodAt opened items text stage here → GoodAt opened (with_text items text ++ x ∷ []) None stage rest
    stands [] None good = grown_by 0 items text x here rest good (content 0) apart
    stands [] (Some now) good = top_with now now items text x here rest good (leads now) plain
    stands (e ∷ es) stage good = (good.0, grown_by (length (e ∷ es)) items text x here rest good.1 (content (length (e ∷ es))) apart)

-- either branch
either : {A : Type 0} (b : Bool) (x y : Option A) (t : A) → (if b then x else y) ≡ Some t → ((b ≡ true) × (x ≡ Some t)) ⊎ ((b ≡ false) × (y ≡ Some t))
either true x y t e = inl (refl, e)
either false x y t e = inr (refl, e)

same_state : (x t : State) → ◌≡◌ {A = Option State} (Some x) (Some t) → x ≡ t
same_state x t e = cc

data_step : (opened : List OpenElement) (items : List Item) (text : Option (List ℕ)) (stage : Option Stage) (t : State) (tok here : List ℕ) → (is : IsToken (piece_tok data_piece tok) here) → step (state opened items text stage) (piece_tok data_piece tok) ≡ Some t
    → GoodAt opened items text stage here → Goes (state opened items text stage) t tok (drop (length tok) here)
data_step opened items text stage t tok here is steps good =
    ⊎_elim within at_top (either (is_inside s) (Some (with_more s tok)) (if list_all is_space tok then Some (with_item s (leaf_item gap tok)) else None) t steps)
  where
    s : State
    s = state opened items text stage

    longest : IsLongestFront here char_data (length tok)
    longest = longest_of is.kind char_data here (length tok) is.of_kind is.longest

    after : NoData (drop (length tok) here)
    after = no_data_after here (length tok) (token_some (piece_tok data_piece tok) here is) longest

    spelled : Spells char_data tok
    spelled = subst (λ k. Spells k tok) is.of_kind (spelled_text (piece_tok data_piece tok) here is)

    within : (is_inside s ≡ true) × (Some (with_more s tok) ≡ Some t) → Goes s t tok (drop (length tok) here)
    within (is_in, same) =
        let grows = inside opened items text stage here is_in good in
        subst (λ t. Goes s t tok (drop (length tok) here)) (same_state (with_more s tok) t same)
        (text_step opened items text stage tok here (drop (length tok) here) grows (pending_data text tok here (drop (length tok) here) grows.growing.pending (λ n none. none (length tok) longest.front) spelled after))

    at_top : (is_inside s ≡ false) × ((if list_all is_space tok then Some (with_item s (leaf_item gap tok)) else None) ≡ Some t) → Goes s t tok (drop (length tok) here)
    at_top (is_out, same) =
        let g = guarded (list_all is_space tok) (with_item s (leaf_item gap tok)) t same in
        let out = outside opened items text stage here is_out good in
        let blank : IsSpace tok = (g.0, λ none. omega (arith, token_some (piece_tok data_piece tok) here is, ap length none)) in
        let seam : ends_by is_blank items ≡ false = not_true (ends_by is_blank items) (λ e. out.top.blank e (length tok) longest.front) in
        let top : IsTop out.now (with_text items text ++ leaf_item gap tok ∷ []) None (drop (length tok) here) = record {
          leads = subst (λ o. Leads before_doctype (items_of (with_text items o ++ leaf_item gap tok ∷ [])) out.now) (sym out.top.none) (leads_push before_doctype items (leaf_item gap tok) out.now out.now out.top.leads (inr (blank, refl, refl)) (λ b. seam));
          none = refl;
          blank = λ e. after;
        } in
        subst (λ t. Goes s t tok (drop (length tok) here)) g.1
        (good_top opened (with_text items text ++ leaf_item gap tok ∷ []) None stage out.now (drop (length tok) here) out.opened_is out.stage_is top, push_text (opened_text opened) (with_text items text) (leaf_item gap tok) tok (append-nil tok))

piece_goes : (opened : List OpenElement) (items : List Item) (text : Option (List ℕ)) (stage : Option Stage) (t : State) (piece : Piece) (tok here : List ℕ) → (is : IsToken (piece_tok piece tok) here) → step (state opened items text stage) (piece_tok piece tok) ≡ Some t
    → GoodAt opened items text stage here → Goes (state opened items text stage) t tok (drop (length tok) here)
piece_goes opened items text stage t data_piece tok here is steps good = data_step opened items text stage t tok here is steps good
piece_goes opened items text stage t part_piece tok here is steps good =
    let s = state opened items text stage in
    let g = guarded (is_inside s) (with_more s tok) t steps in
    let grows = inside opened items text stage here g.0 good in
    subst (λ t. Goes s t tok (drop (length tok) here)) g.1
    (text_step opened items text stage tok here (drop (length tok) here) grows (pending_piece text tok here (drop (length tok) here) grows.growing.pending is.kind is.of_kind (spelled_text (piece_tok part_piece tok) here is)))
piece_goes opened items text stage t reference_piece tok here is steps good =
    let s = state opened items text stage in
    let g = guarded (is_inside s) (with_item s (leaf_item reference_item tok)) t steps in
    let grows = inside opened items text stage here g.0 good in
    let spelled : IsEntityRef tok = subst (λ k. Spells k tok) is.of_kind.0 (spelled_text (piece_tok reference_piece tok) here is) in
    subst (λ t. Goes s t tok (drop (length tok) here)) g.1
    (item_step opened items text stage (leaf_item reference_item tok) tok here (drop (length tok) here) grows (spelled, is.of_kind.1, tt) refl (append-nil tok))
piece_goes opened items text stage t comment_piece tok here is steps good =
    let spelled : IsComment tok = subst (λ k. Spells k tok) is.of_kind (spelled_text (piece_tok comment_piece tok) here is) in
    subst (λ t. Goes (state opened items text stage) t tok (drop (length tok) here)) (same_state (with_item (state opened items text stage) (leaf_item comment_item tok)) t steps)
    (misc_step opened items text stage (leaf_item comment_item tok) tok here (drop (length tok) here) good (λ level. (spelled, tt)) (λ now. (spelled, refl)) refl refl (append-nil tok))
piece_goes opened items text stage t pi_piece tok here is steps good =
    let spelled : IsPi tok = subst (λ k. Spells k tok) is.of_kind (spelled_text (piece_tok pi_piece tok) here is) in
    subst (λ t. Goes (state opened items text stage) t tok (drop (length tok) here)) (same_state (with_item (state opened items text stage) (leaf_item pi_item tok)) t steps)
    (misc_step opened items text stage (leaf_item pi_item tok) tok here (drop (length tok) here) good (λ level. (spelled, tt)) (λ now. (spelled, refl)) refl refl (append-nil tok))
piece_goes opened items text stage t declaration_piece tok here is steps good = absurd (let h : ◌≡◌ {A = Option State} None (Some t) = steps in cc)
piece_goes opened items text stage t doctype_piece tok here is steps good =
    let s = state opened items text stage in
    let g = guarded (is_top opened && begins_document stage) (with_doctype s tok) t steps in
    let both = both_parts (is_top opened) (begins_document stage) g.0 in
    let spelled : IsDoctype tok = subst (λ k. Spells k tok) is.of_kind (spelled_text (piece_tok doctype_piece tok) here is) in
    subst (λ t. Goes s t tok (drop (length tok) here)) g.1
    (stands opened stage both.0 both.1 good spelled, push_text (opened_text opened) (with_text items text) (leaf_item gap tok) tok (append-nil tok))
  where
    stands : (opened : List OpenElement) (stage : Option Stage) → is_top opened ≡ true → begins_document stage ≡ true → GoodAt opened items text stage here → IsDoctype tok → GoodAt opened (with_text items text ++ leaf_item gap tok ∷ []) None (Some before_root) (drop (length tok) here)
    stands (e ∷ es) stage top first good spelled = absurd (let h : false ≡ true = top in cc)
    stands [] None top first good spelled = absurd (let h : false ≡ true = first in cc)
    stands [] (Some before_root) top first good spelled = absurd (let h : false ≡ true = first in cc)
    stands [] (Some behind_root) top first good spelled = absurd (let h : false ≡ true = first in cc)
    stands [] (Some before_doctype) top first good spelled = top_with before_doctype before_root items text (leaf_item gap tok) here (drop (length tok) here) good (inl (refl, spelled, refl)) (doctype_no_blank tok spelled)

sound_at : (opened : List OpenElement) (items : List Item) (text : Option (List ℕ)) (stage : Option Stage) (t : State) (tok : Tok) (here : List ℕ) → IsToken tok here → step (state opened items text stage) tok ≡ Some t
    → GoodAt opened items text stage here → Goes (state opened items text stage) t (tok_text tok) (drop (length (tok_text tok)) here)
sound_at opened items text stage t (start_tok tok name names) here is steps good =
    let s = state opened items text stage in
    let g = guarded (has_room s && are_distinct names) (record { opened = record { open_tag = tok; name = name; before = with_text items text } ∷ opened; items = []; text = None; stage = behind_element stage }) t steps in
    let b = both_parts (has_room s) (are_distinct names) g.0 in
    subst (λ t. Goes s t tok (drop (length tok) here)) g.1 (starts opened items text stage tok name names here (drop (length tok) here) good is.of_kind.1 (room_is opened items text stage b.0) b.1)
sound_at opened items text stage t (empty_tok tok names) here is steps good =
    let s = state opened items text stage in
    let g = guarded (has_room s && are_distinct names) (record { opened = opened; items = with_text items text ++ element_item tok nil None ∷ []; text = None; stage = behind_element stage }) t steps in
    let b = both_parts (has_room s) (are_distinct names) g.0 in
    subst (λ t. Goes s t tok (drop (length tok) here)) g.1 (empties opened items text stage tok is.of_kind.1 names here (drop (length tok) here) good is.of_kind.2 (room_is opened items text stage b.0) b.1)
sound_at [] items text stage t (end_tok tok name) here is steps good = absurd (let h : ◌≡◌ {A = Option State} None (Some t) = steps in cc)
sound_at (e ∷ es) items text stage t (end_tok tok name) here is steps good =
    let s = state (e ∷ es) items text stage in
    let g = guarded (bytes_eq e.name name) (record { opened = es; items = e.before ++ element_item e.open_tag (items_of (with_text items text)) (Some tok) ∷ []; text = None; stage = stage }) t steps in
    subst (λ t. Goes s t tok (drop (length tok) here)) g.1 (ends e es items text stage tok name here (drop (length tok) here) good is.of_kind.2 ((bytes_eq-Decides e.name name).0 g.0))
sound_at opened items text stage t (piece_tok piece tok) here is steps good = piece_goes opened items text stage t piece tok here is steps good

-- ---- the whole

pub split_front : (tok : Tok) (text : List ℕ) → IsToken tok text → tok_text tok ++ drop (length (tok_text tok)) text ≡ text
split_front tok text is = ap (λ t. t ++ drop (length (tok_text tok)) text) (sym is.front) ∙ take-append-drop (length (tok_text tok)) text

sound : (s u : State) (text : List ℕ) → Reads s text u → Good s text → Good u [] × (state_text u ≡ state_text s ++ text)
sound s u text (run.here s' t0') good = (good, sym (append-nil (state_text s)))
sound s u text (run.past s' t u' text' r0' tok is steps rest) good =
    let next = sound_at s.opened s.items s.text s.stage t tok text is steps good in
    let last = sound t u (drop (length (tok_text tok)) text) rest next.0 in
    (last.0, last.1 ∙ ap (λ a. a ++ drop (length (tok_text tok)) text) next.1 ∙ append_assoc (state_text s) (tok_text tok) (drop (length (tok_text tok)) text) ∙ ap (λ a. state_text s ++ a) (split_front tok text is))

good_first : (body : Body) (text : List ℕ) → Good (begin body) text
good_first content_body text = nothing_yet 0 text
good_first document_body text = record { leads = refl; none = refl; blank = λ b. absurd (let h : false ≡ true = b in cc) }

-- what the first stage has become
abbrev IsOf : Body → Option Stage → Type 0
IsOf content_body stage = stage ≡ None
IsOf document_body stage = is_content stage ≡ false

behind_is_of : (body : Body) (stage : Option Stage) → IsOf body stage → IsOf body (behind_element stage)
behind_is_of content_body stage is = ap behind_element is
behind_is_of document_body None is = absurd (let h : true ≡ false = is in cc)
behind_is_of document_body (Some stage) is = refl

ended : (stage : Stage) → has_ended (Some stage) ≡ true → stage ≡ behind_root
ended before_doctype is = absurd (let h : false ≡ true = is in cc)
ended before_root is = absurd (let h : false ≡ true = is in cc)
ended behind_root is = refl

whole_body : (body : Body) (list : Items) (opened : List OpenElement) (items : List Item) (text : Option (List ℕ)) (stage : Option Stage) → IsOf body stage → opened ≡ [] → has_ended stage ≡ true → items_of (with_text items text) ≡ list
    → GoodAt opened items text stage [] → IsBody body list
whole_body content_body list opened items text stage of none end are good =
    subst (λ l. IsContent 0 l) are (content_with_text 0 items text [] (subst (λ s. GoodAt [] items text s []) of (subst (λ o. GoodAt o items text stage []) none good)))
whole_body document_body list opened items text None of none end are good = absurd (let h : true ≡ false = of in cc)
whole_body document_body list opened items text (Some stage) of none end are good =
    let top : IsTop stage items text [] = subst (λ o. GoodAt o items text (Some stage) []) none good in
    subst (λ l. Leads before_doctype l behind_root) are
    (subst (λ o. Leads before_doctype (items_of (with_text items o)) behind_root) (sym top.none) (subst (λ s. Leads before_doctype (items_of items) s) (ended stage end) top.leads))

whole_text : (bytes : List ℕ) (list : Items) (opened : List OpenElement) (items : List Item) (text : Option (List ℕ)) → opened ≡ [] → items_of (with_text items text) ≡ list → text_at opened items text ≡ bytes → source_text list ≡ bytes
whole_text bytes list opened items text none are texts = ap source_text (sym are) ∙ ap (λ o. text_at o items text) (sym none) ∙ texts

stage_step : (body : Body) (s t : State) (tok : Tok) → step s tok ≡ Some t → IsOf body s.stage → IsOf body t.stage
stage_step body s t (start_tok text name names) steps of =
    subst (λ t. IsOf body t.stage) (guarded (has_room s && are_distinct names) (record { opened = record { open_tag = text; name = name; before = with_text s.items s.text } ∷ s.opened; items = []; text = None; stage = behind_element s.stage }) t steps).1 (behind_is_of body s.stage of)
stage_step body s t (empty_tok text names) steps of =
    subst (λ t. IsOf body t.stage) (guarded (has_room s && are_distinct names) (record { opened = s.opened; items = with_text s.items s.text ++ element_item text nil None ∷ []; text = None; stage = behind_element s.stage }) t steps).1 (behind_is_of body s.stage of)
stage_step body s t (end_tok text name) steps of = closes s.opened steps
  where
    closes : (opened : List OpenElement) → closed opened s text name ≡ Some t → IsOf body t.stage
    closes [] e = absurd (let h : ◌≡◌ {A = Option State} None (Some t) = e in cc)
    closes (f ∷ es) e = subst (λ t. IsOf body t.stage) (guarded (bytes_eq f.name name) (record { opened = es; items = f.before ++ element_item f.open_tag (items_of (with_text s.items s.text)) (Some text) ∷ []; text = None; stage = s.stage }) t e).1 of
stage_step body s t (piece_tok data_piece text) steps of =
    ⊎_elim (λ within. subst (λ t. IsOf body t.stage) (same_state (with_more s text) t within.1) of)
    (λ at_top. subst (λ t. IsOf body t.stage) (guarded (list_all is_space text) (with_item s (leaf_item gap text)) t at_top.1).1 of)
    (either (is_inside s) (Some (with_more s text)) (if list_all is_space text then Some (with_item s (leaf_item gap text)) else None) t steps)
stage_step body s t (piece_tok part_piece text) steps of = subst (λ t. IsOf body t.stage) (guarded (is_inside s) (with_more s text) t steps).1 of
stage_step body s t (piece_tok reference_piece text) steps of = subst (λ t. IsOf body t.stage) (guarded (is_inside s) (with_item s (leaf_item reference_item text)) t steps).1 of
stage_step body s t (piece_tok comment_piece text) steps of = subst (λ t. IsOf body t.stage) (same_state (with_item s (leaf_item comment_item text)) t steps) of
stage_step body s t (piece_tok pi_piece text) steps of = subst (λ t. IsOf body t.stage) (same_state (with_item s (leaf_item pi_item text)) t steps) of
stage_step body s t (piece_tok declaration_piece text) steps of = absurd (let h : ◌≡◌ {A = Option State} None (Some t) = steps in cc)
stage_step body s t (piece_tok doctype_piece text) steps of =
    let g = guarded (is_top s.opened && begins_document s.stage) (with_doctype s text) t steps in
    subst (λ t. IsOf body t.stage) g.1 (of_root body s.stage (both_parts (is_top s.opened) (begins_document s.stage) g.0).1 of)
  where
    of_root : (body : Body) (stage : Option Stage) → begins_document stage ≡ true → IsOf body stage → IsOf body (Some before_root)
    of_root document_body stage first of = refl
    of_root content_body stage first of = absurd (let h : false ≡ true = ap begins_document (sym of) ∙ first in cc)

stage_of_run : (body : Body) (s u : State) (text : List ℕ) → Reads s text u → IsOf body s.stage → IsOf body u.stage
stage_of_run body s u text (run.here s' t0') of = of
stage_of_run body s u text (run.past s' t u' text' r0' tok is steps rest) of = stage_of_run body t u (drop (length (tok_text tok)) text) rest (stage_step body s t tok steps of)

first_is_of : (body : Body) → IsOf body (first_stage body)
first_is_of content_body = refl
first_is_of document_body = refl

-- What the longest tokens from left to right give is a body.
pub read_is_body : (body : Body) (bytes : List ℕ) (list : Items) → IsRead body bytes list → IsBody body list × (source_text list ≡ bytes)
read_is_body body bytes list is =
    let s = sound (begin body) is.last bytes is.reads (good_first body bytes) in
    let of = stage_of_run body (begin body) is.last bytes is.reads (first_is_of body) in (
      whole_body body list is.last.opened is.last.items is.last.text is.last.stage of is.whole.closed is.whole.ended is.are s.0,
      whole_text bytes list is.last.opened is.last.items is.last.text is.whole.closed is.are s.1,
    )

-- ---- a front

-- each open element has a name
abbrev pub AreNamed : List OpenElement → Type 0
AreNamed [] = Unit {0}
AreNamed (e ∷ es) = IsQName e.name × AreNamed es

opened_named : (stage : Option Stage) (opened : List OpenElement) → AreOpened stage opened → AreNamed opened
opened_named stage [] are = tt
opened_named stage (e ∷ []) are = (subst IsQName (sym are.0.named) are.0.parts.name, tt)
opened_named stage (e ∷ f ∷ es) are = (subst IsQName (sym are.0.named) are.0.parts.name, opened_named stage (f ∷ es) are.2)

good_named : (opened : List OpenElement) (items : List Item) (text : Option (List ℕ)) (stage : Option Stage) (rest : List ℕ) → GoodAt opened items text stage rest → AreNamed opened
good_named [] items text stage rest good = tt
good_named (e ∷ es) items text stage rest good = opened_named stage (e ∷ es) good.0

good_passes : (s u : State) (text rest : List ℕ) → Passes s text u rest → Good s text → Good u rest
good_passes s u text rest (run.here s' text') good = good
good_passes s u text rest (run.past s' t u' text' rest' tok is steps others) good =
    good_passes t u (drop (length (tok_text tok)) text) rest others (sound_at s.opened s.items s.text s.stage t tok text is steps good).0

pub passes_named : (body : Body) (text rest : List ℕ) (u : State) → Passes (begin body) text u rest → AreNamed u.opened
passes_named body text rest u passes = good_named u.opened u.items u.text u.stage rest (good_passes (begin body) u text rest passes (good_first body text))
