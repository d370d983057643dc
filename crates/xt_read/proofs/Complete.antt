-- What reads as items is read token by token: each token of the items is the longest at its place, and may stand there.
use Rattle.std.proofs.Common.{◌≡◌, ◌≢◌, ◌∙◌, ℕ, suc, ◌<◌, List, [], ◌∷◌, ◌++◌, length, take, drop, refl, sym, ap, subst, lit<, encode_utf8_all, Some, None, Option, arith, Bool, true, false, inl, inr, append_assoc, append-nil, codes, bytes_eq, nat_lt, ◌&&◌, ◌||◌, not, if◌then◌else◌}
use Rattle.std.proofs.lemmas.List.{take_at, drop_at, take-append-drop}
use Rattle.std.proofs.lemmas.Str.{encode_ascii}
use Rattle.std.proofs.lemmas.Bool.Decides.{nat_tests}
use Rattle.std.proofs.lemmas.Slice.Eq.{bytes_eq-Decides}
use Rattle.std.specs.List.{list_all, AllByRecursion}
use Rattle.xt_lex.proofs.Theorems.{space_ascii, token_longest, list_all_behind}
use Rattle.xt_spec.specs.Char.{is_space}
use Rattle.xt_spec.specs.Reference.{IsEntityRef, IsPredefined, StandsFor}
use Rattle.xt_spec.specs.Tag.{Tag, tag_text, IsEndTag, IsSpace}
use Rattle.xt_spec.specs.Markup.{IsComment, IsPi}
use Rattle.xt_spec.specs.Doctype.{IsDoctype}
use Rattle.xt_spec.specs.Token.{TokenKind, start_tag, empty_tag, end_tag, char_data, char_ref, entity_ref, cdata_section, comment, pi, doctype, Spells, IsPlain, HoldsNoClose}
use Rattle.xt_spec.specs.Tree.{Items, nil, element, leaf, text_item, reference_item, comment_item, pi_item, gap, Item, element_item, leaf_item, items_of, append, source_text, close_text, begins_with}
use Rattle.xt_spec.specs.Text.{TextPart, data_part, reference_part, section_part, part_text, parts_text, AreTextParts, IsTextItem, begins_with_data}
use Rattle.xt_spec.specs.Reading.{are_distinct, attribute_names, tag_ending, IsElementAt, IsContent, Stage, before_doctype, before_root, behind_root, begins_with_space, Leads}
use Rattle.xt_lex.specs.Place.{Follows}
use Rattle.xt_read.specs.Run.{Body, document_body, content_body, IsBody, data_piece, part_piece, reference_piece, comment_piece, pi_piece, doctype_piece, Tok, start_tok, empty_tok, end_tok, piece_tok, tok_text, IsOfKind, IsToken, OpenElement, State, begin, with_text, longer, is_top, is_content, begins_root, begins_document, behind_element, has_room, with_item, with_more, with_doctype, closed, step, Reads, has_ended, IsRead, here, past}
use Rattle.xt_read.proofs.ItemLemmas as items

-- the token stands in front of what follows it
pub stands : (tok : Tok) (kind : TokenKind) (rest : List ℕ) → Spells kind (tok_text tok) → (kind ≡ char_data → Follows rest) → IsOfKind kind tok → IsToken tok (tok_text tok ++ rest)
stands tok kind rest spelled follows of_kind = record {
  kind = kind;
  longest = token_longest kind (tok_text tok) rest spelled follows;
  front = take_at (tok_text tok) rest (length (tok_text tok)) refl;
  of_kind = of_kind;
}

-- a step with the token in front
pub reads_step : (s t u : State) (tok : Tok) (kind : TokenKind) (rest : List ℕ) → Spells kind (tok_text tok) → (kind ≡ char_data → Follows rest) → IsOfKind kind tok → step s tok ≡ Some t → Reads t rest u → Reads s (tok_text tok ++ rest) u
reads_step s t u tok kind rest spelled follows of_kind steps run =
    past s t u (tok_text tok ++ rest) [] tok (stands tok kind rest spelled follows of_kind) steps
    (subst (λ (r : List ℕ). Reads t r u) (sym (drop_at (tok_text tok) rest (length (tok_text tok)) refl)) run)

-- a reference begins with `&`
abbrev BeginsReference : List ℕ → Type 0
BeginsReference text = (rest : List ℕ) × (text ≡ 0x26 ∷ rest)

stands_begins : (text : List ℕ) (c : ℕ) → StandsFor text c → BeginsReference text
stands_begins text c (inl (is, inl (digits, spell, e))) = (_, e)
stands_begins text c (inl (is, inr (digits, spell, e))) = (_, e)
stands_begins text c (inr (inl (e, is))) = (_, e)
stands_begins text c (inr (inr (inl (e, is)))) = (_, e)
stands_begins text c (inr (inr (inr (inl (e, is))))) = (_, e)
stands_begins text c (inr (inr (inr (inr (inl (e, is)))))) = (_, e)
stands_begins text c (inr (inr (inr (inr (inr (e, is)))))) = (_, e)

follows_reference : (text rest : List ℕ) → BeginsReference text → Follows (text ++ rest)
follows_reference text rest (tail, e) = subst (λ t. Follows (t ++ rest)) (sym e) (inr refl)

follows_markup : (text tail rest : List ℕ) → text ≡ 0x3C ∷ tail → Follows (text ++ rest)
follows_markup text tail rest e = subst (λ t. Follows (t ++ rest)) (sym e) (inl refl)

longer-longer : (text : Option (List ℕ)) (a b : List ℕ) → longer (Some (longer text a)) b ≡ longer text (a ++ b)
longer-longer None a b = refl
longer-longer (Some t) a b = append_assoc t a b

abbrev pub at : List OpenElement → Option Stage → List Item → Option (List ℕ) → State
at opened stage items text = record { opened = opened; items = items; text = text; stage = stage }

-- text may stand here
abbrev IsIn : List OpenElement → Option Stage → Type 0
IsIn opened stage = (not (is_top opened) || is_content stage) ≡ true

pub when_true : {A : Type 0} (b : Bool) (x y : A) → b ≡ true → (if b then x else y) ≡ x
when_true b x y is = rw is refl

when_false : {A : Type 0} (b : Bool) (x y : A) → b ≡ false → (if b then x else y) ≡ y
when_false b x y is = rw is refl

-- ---- text items

-- the text item with the parts behind it
abbrev grown : Option (List ℕ) → List TextPart → Option (List ℕ)
grown text [] = text
grown text (p ∷ ps) = grown (Some (longer text (part_text p))) ps

grown_is : (text : Option (List ℕ)) (parts : List TextPart) → parts ≢ [] → grown text parts ≡ Some (longer text (parts_text parts))
grown_is text [] some = absurd (some refl)
grown_is text (p ∷ []) some = ap (λ t. Some (longer text t)) (sym (append-nil (part_text p)))
grown_is text (p ∷ q ∷ ps) some =
    grown_is (Some (longer text (part_text p))) (q ∷ ps) (λ e. let h : ◌≡◌ {A = List TextPart} (q ∷ ps) [] = e in cc)
    ∙ ap Some (longer-longer text (part_text p) (parts_text (q ∷ ps)))

section_begins : (content : List ℕ) → codes "<![CDATA[" ++ content ++ codes "]]>" ≡ 0x3C ∷ (codes "![CDATA[" ++ content ++ codes "]]>")
section_begins content = simp append_assoc

follows_parts : (parts : List TextPart) (rest : List ℕ) → AreTextParts parts → begins_with_data parts ≡ false → Follows rest → Follows (parts_text parts ++ rest)
follows_parts [] rest are none follows = follows
follows_parts (data_part t ∷ ps) rest are none follows = absurd (let h : true ≡ false = none in cc)
follows_parts (reference_part t c ∷ ps) rest are none follows =
    let (tail, e) = stands_begins t c are.0 in
    subst Follows (sym (append_assoc t (parts_text ps) rest)) (follows_reference t (parts_text ps ++ rest) (tail, e))
follows_parts (section_part t content ∷ ps) rest are none follows =
    subst Follows (sym (append_assoc t (parts_text ps) rest)) (follows_markup t _ (parts_text ps ++ rest) (are.0.2 ∙ section_begins content))

spelled_lt : encode_utf8_all (codes "lt") ≡ codes "lt"
spelled_lt = rw (encode_ascii 108 (lit< tt), encode_ascii 116 (lit< tt)) refl

spelled_gt : encode_utf8_all (codes "gt") ≡ codes "gt"
spelled_gt = rw (encode_ascii 103 (lit< tt), encode_ascii 116 (lit< tt)) refl

spelled_amp : encode_utf8_all (codes "amp") ≡ codes "amp"
spelled_amp = rw (encode_ascii 97 (lit< tt), encode_ascii 109 (lit< tt), encode_ascii 112 (lit< tt)) refl

spelled_apos : encode_utf8_all (codes "apos") ≡ codes "apos"
spelled_apos = rw (encode_ascii 97 (lit< tt), encode_ascii 112 (lit< tt), encode_ascii 111 (lit< tt), encode_ascii 115 (lit< tt)) refl

spelled_quot : encode_utf8_all (codes "quot") ≡ codes "quot"
spelled_quot = rw (encode_ascii 113 (lit< tt), encode_ascii 117 (lit< tt), encode_ascii 111 (lit< tt), encode_ascii 116 (lit< tt)) refl

predefined_is_reference : (t : List ℕ) (c : ℕ) → IsPredefined t c → IsEntityRef t
predefined_is_reference t c (inl (e, is)) = (codes "lt", (codes "lt", spelled_lt, refl), e)
predefined_is_reference t c (inr (inl (e, is))) = (codes "gt", (codes "gt", spelled_gt, refl), e)
predefined_is_reference t c (inr (inr (inl (e, is)))) = (codes "amp", (codes "amp", spelled_amp, refl), e)
predefined_is_reference t c (inr (inr (inr (inl (e, is))))) = (codes "apos", (codes "apos", spelled_apos, refl), e)
predefined_is_reference t c (inr (inr (inr (inr (e, is))))) = (codes "quot", (codes "quot", spelled_quot, refl), e)

reference_reads : (opened : List OpenElement) (stage : Option Stage) (items : List Item) (text : Option (List ℕ)) (t : List ℕ) (c : ℕ) (rest : List ℕ) (u : State) → IsIn opened stage → StandsFor t c
    → Reads (at opened stage items (Some (longer text t))) rest u → Reads (at opened stage items text) (t ++ rest) u
reference_reads opened stage items text t c rest u is_in (inl names) run =
    reads_step (at opened stage items text) (at opened stage items (Some (longer text t))) u (piece_tok part_piece t) char_ref rest (c, names) (λ k. cc) (inr (inl refl, c, inl names)) (when_true _ _ _ is_in) run
reference_reads opened stage items text t c rest u is_in (inr predefined) run =
    reads_step (at opened stage items text) (at opened stage items (Some (longer text t))) u (piece_tok part_piece t) entity_ref rest (predefined_is_reference t c predefined) (λ k. cc) (inr (inr refl, c, inr predefined)) (when_true _ _ _ is_in) run

parts_read : (opened : List OpenElement) (stage : Option Stage) (items : List Item) (text : Option (List ℕ)) (parts : List TextPart) (rest : List ℕ) (u : State) → IsIn opened stage → AreTextParts parts → Follows rest
    → Reads (at opened stage items (grown text parts)) rest u → Reads (at opened stage items text) (parts_text parts ++ rest) u
parts_read opened stage items text [] rest u is_in are follows run = run
parts_read opened stage items text (data_part t ∷ ps) rest u is_in are follows run =
    subst (λ (r : List ℕ). Reads (at opened stage items text) r u) (sym (append_assoc t (parts_text ps) rest))
    (reads_step (at opened stage items text) (at opened stage items (Some (longer text t))) u (piece_tok data_piece t) char_data (parts_text ps ++ rest) are.0 (λ k. follows_parts ps rest are.2 are.1 follows) refl (when_true _ _ _ is_in)
    (parts_read opened stage items (Some (longer text t)) ps rest u is_in are.2 follows run))
parts_read opened stage items text (reference_part t c ∷ ps) rest u is_in are follows run =
    subst (λ (r : List ℕ). Reads (at opened stage items text) r u) (sym (append_assoc t (parts_text ps) rest))
    (reference_reads opened stage items text t c (parts_text ps ++ rest) u is_in are.0
    (parts_read opened stage items (Some (longer text t)) ps rest u is_in are.1 follows run))
parts_read opened stage items text (section_part t content ∷ ps) rest u is_in are follows run =
    subst (λ (r : List ℕ). Reads (at opened stage items text) r u) (sym (append_assoc t (parts_text ps) rest))
    (reads_step (at opened stage items text) (at opened stage items (Some (longer text t))) u (piece_tok part_piece t) cdata_section (parts_text ps ++ rest) (content, are.0) (λ k. cc) (inl refl) (when_true _ _ _ is_in)
    (parts_read opened stage items (Some (longer text t)) ps rest u is_in are.1 follows run))

text_reads : (opened : List OpenElement) (stage : Option Stage) (items : List Item) (text : Option (List ℕ)) (t rest : List ℕ) (u : State) → IsIn opened stage → IsTextItem t → Follows rest
    → Reads (at opened stage items (Some (longer text t))) rest u → Reads (at opened stage items text) (t ++ rest) u
text_reads opened stage items text t rest u is_in (parts, are, some, joined) follows run =
    subst (λ (t : List ℕ). Reads (at opened stage items text) (t ++ rest) u) joined
    (parts_read opened stage items text parts rest u is_in are follows
    (subst (λ (o : Option (List ℕ)). Reads (at opened stage items o) rest u) (ap (λ t. Some (longer text t)) (sym joined) ∙ sym (grown_is text parts some)) run))

-- ---- what the reader has behind the items

-- how far the top has come behind a gap: white space leaves it there
abbrev behind_gap : Option Stage → List ℕ → Option Stage
behind_gap stage t = if list_all is_space t then stage else Some before_root

abbrev with_gap : State → List ℕ → State
with_gap s t = record { opened = s.opened; items = with_text s.items s.text ++ leaf_item gap t ∷ []; text = None; stage = behind_gap s.stage t }

abbrev with_element : State → List ℕ → Items → Option (List ℕ) → State
with_element s o k c = record { opened = s.opened; items = with_text s.items s.text ++ element_item o k c ∷ []; text = None; stage = behind_element s.stage }

-- the state behind the items
abbrev fed : State → Items → State
fed s nil = s
fed s (element o k c rest) = fed (with_element s o k c) rest
fed s (leaf text_item t rest) = fed (with_more s t) rest
fed s (leaf reference_item t rest) = fed (with_item s (leaf_item reference_item t)) rest
fed s (leaf comment_item t rest) = fed (with_item s (leaf_item comment_item t)) rest
fed s (leaf pi_item t rest) = fed (with_item s (leaf_item pi_item t)) rest
fed s (leaf gap t rest) = fed (with_gap s t) rest

-- no two text items stand side by side at this level
abbrev Apart : Items → Type 0
Apart nil = Unit {0}
Apart (element o k c rest) = Apart rest
Apart (leaf text_item t rest) = (begins_with text_item rest ≡ false) × Apart rest
Apart (leaf reference_item t rest) = Apart rest
Apart (leaf comment_item t rest) = Apart rest
Apart (leaf pi_item t rest) = Apart rest
Apart (leaf gap t rest) = Apart rest

-- no text item goes on with the first of the items
abbrev Clear : Option (List ℕ) → Items → Type 0
Clear None items = Unit {0}
Clear (Some text) items = begins_with text_item items ≡ false

content_apart : (level : ℕ) (items : Items) → IsContent level items → Apart items
content_apart level nil is = tt
content_apart level (element o k c rest) is = content_apart level rest is.2
content_apart level (leaf text_item t rest) is = (is.1, content_apart level rest is.2)
content_apart level (leaf reference_item t rest) is = content_apart level rest is.2
content_apart level (leaf comment_item t rest) is = content_apart level rest is.1
content_apart level (leaf pi_item t rest) is = content_apart level rest is.1
content_apart level (leaf gap t rest) is = absurd is

top_apart : (stage last : Stage) (items : Items) → Leads stage items last → Apart items
top_apart stage last nil is = tt
top_apart stage last (element o k c rest) is = top_apart behind_root last rest is.3
top_apart stage last (leaf comment_item t rest) is = top_apart stage last rest is.1
top_apart stage last (leaf pi_item t rest) is = top_apart stage last rest is.1
top_apart stage last (leaf gap t rest) (inl is) = top_apart before_root last rest is.2
top_apart stage last (leaf gap t rest) (inr is) = top_apart stage last rest is.2
top_apart stage last (leaf text_item t rest) is = absurd is
top_apart stage last (leaf reference_item t rest) is = absurd is

body_apart : (body : Body) (items : Items) → IsBody body items → Apart items
body_apart document_body items is = top_apart before_doctype behind_root items is
body_apart content_body items is = content_apart 0 items is

fed_opened : (s : State) (items : Items) → (fed s items).opened ≡ s.opened
fed_opened s nil = refl
fed_opened s (element o k c rest) = fed_opened (with_element s o k c) rest
fed_opened s (leaf text_item t rest) = fed_opened (with_more s t) rest
fed_opened s (leaf reference_item t rest) = fed_opened (with_item s (leaf_item reference_item t)) rest
fed_opened s (leaf comment_item t rest) = fed_opened (with_item s (leaf_item comment_item t)) rest
fed_opened s (leaf pi_item t rest) = fed_opened (with_item s (leaf_item pi_item t)) rest
fed_opened s (leaf gap t rest) = fed_opened (with_gap s t) rest

drop_while_twice : (stage : Option Stage) → behind_element (behind_element stage) ≡ behind_element stage
drop_while_twice None = refl
drop_while_twice (Some stage) = refl

-- content leaves the stage, where an element does
content_stage : (level : ℕ) (s : State) (items : Items) → IsContent level items → behind_element s.stage ≡ s.stage → (fed s items).stage ≡ s.stage
content_stage level s nil is stays = refl
content_stage level s (element o k c rest) is stays = content_stage level (with_element s o k c) rest is.2 (drop_while_twice s.stage) ∙ stays
content_stage level s (leaf text_item t rest) is stays = content_stage level (with_more s t) rest is.2 stays
content_stage level s (leaf reference_item t rest) is stays = content_stage level (with_item s (leaf_item reference_item t)) rest is.2 stays
content_stage level s (leaf comment_item t rest) is stays = content_stage level (with_item s (leaf_item comment_item t)) rest is.1 stays
content_stage level s (leaf pi_item t rest) is stays = content_stage level (with_item s (leaf_item pi_item t)) rest is.1 stays
content_stage level s (leaf gap t rest) is stays = absurd is

abbrev all_items : State → Items
all_items s = items_of (with_text s.items s.text)

-- one item behind those of a list, and others behind it
item_behind : (before : List Item) (item : Item) (rest : Items) → append (items_of (before ++ item ∷ [])) rest ≡ append (items_of before) (append (items_of (item ∷ [])) rest)
item_behind before item rest = ap (λ a. append a rest) (items.items_of-append before (item ∷ [])) ∙ items.append-assoc (items_of before) (items_of (item ∷ [])) rest

fed_items : (s : State) (list : Items) → Apart list → Clear s.text list → all_items (fed s list) ≡ append (all_items s) list
fed_items s nil apart clear = sym (items.append-nil (all_items s))
fed_items s (element o k c rest) apart clear = fed_items (with_element s o k c) rest apart tt ∙ item_behind (with_text s.items s.text) (element_item o k c) rest
fed_items s (leaf text_item t rest) apart clear =
    fed_items (with_more s t) rest apart.1 apart.0 ∙ text_behind s.items s.text t rest clear
  where
    text_behind : (before : List Item) (text : Option (List ℕ)) (t : List ℕ) (rest : Items) → Clear text (leaf text_item t rest) → append (items_of (with_text before (Some (longer text t)))) rest ≡ append (items_of (with_text before text)) (leaf text_item t rest)
    text_behind before None t rest clear = item_behind before (leaf_item text_item t) rest
    text_behind before (Some a) t rest clear = absurd (let h : true ≡ false = clear in cc)
fed_items s (leaf reference_item t rest) apart clear =
    fed_items (with_item s (leaf_item reference_item t)) rest apart tt ∙ item_behind (with_text s.items s.text) (leaf_item reference_item t) rest
fed_items s (leaf comment_item t rest) apart clear =
    fed_items (with_item s (leaf_item comment_item t)) rest apart tt ∙ item_behind (with_text s.items s.text) (leaf_item comment_item t) rest
fed_items s (leaf pi_item t rest) apart clear =
    fed_items (with_item s (leaf_item pi_item t)) rest apart tt ∙ item_behind (with_text s.items s.text) (leaf_item pi_item t) rest
fed_items s (leaf gap t rest) apart clear =
    fed_items (with_gap s t) rest apart tt ∙ item_behind (with_text s.items s.text) (leaf_item gap t) rest

-- ---- elements

nat_lt_true : (m n : ℕ) → m < n → nat_lt m n ≡ true
nat_lt_true m n below = grind (arith, nat_tests)

pub both_true : (a b : Bool) → a ≡ true → b ≡ true → a && b ≡ true
both_true a b x y = rw (x, y) refl

-- an element may begin
pub room : (opened : List OpenElement) (stage : Option Stage) (items : List Item) (text : Option (List ℕ)) → length opened < 128 → (is_top opened ≡ true → begins_root stage ≡ true) → has_room (at opened stage items text) ≡ true
room opened stage items text below first =
    both_true (not (not (nat_lt (length opened) 128))) (not (is_top opened) || begins_root stage) (ap (λ b. not (not b)) (nat_lt_true (length opened) 128 below)) (root opened first)
  where
    root : (opened : List OpenElement) → (is_top opened ≡ true → begins_root stage ≡ true) → (not (is_top opened) || begins_root stage) ≡ true
    root [] first = first refl
    root (e ∷ es) first = refl

pub same_bytes : (xs : List ℕ) → bytes_eq xs xs ≡ true
same_bytes xs = (bytes_eq-Decides xs xs).1 refl

-- what an end-tag leaves of a state
closes_to : (f : State) (e : OpenElement) (es : List OpenElement) (stage : Option Stage) (k : Items) (c name : List ℕ) → f.opened ≡ e ∷ es → f.stage ≡ stage → all_items f ≡ k → e.name ≡ name
    → step f (end_tok c name) ≡ Some (at es stage (e.before ++ element_item e.open_tag k (Some c) ∷ []) None)
closes_to f e es stage k c name opened stays inner named =
    ap (λ o. closed o f c name) opened
    ∙ when_true (bytes_eq e.name name) _ _ (subst (λ n. bytes_eq e.name n ≡ true) named (same_bytes e.name))
    ∙ ap (λ k. Some (at es f.stage (e.before ++ element_item e.open_tag k (Some c) ∷ []) None)) inner
    ∙ ap (λ b. Some (at es b (e.before ++ element_item e.open_tag k (Some c) ∷ []) None)) stays

pub follows_end_tag : (name c rest : List ℕ) → IsEndTag name c → Follows (c ++ rest)
follows_end_tag name c rest (blank, is_blank, e) = follows_markup c (0x2F ∷ (name ++ blank ++ codes ">")) rest (e ∙ simp append_assoc)

element_text : (o k c after : List ℕ) → ((o ++ k) ++ c) ++ after ≡ o ++ (k ++ (c ++ after))
element_text o k c after = simp append_assoc

-- an element is read, where its content is
element_reads : (opened : List OpenElement) (stage : Option Stage) (items : List Item) (text : Option (List ℕ)) (o : List ℕ) (k : Items) (c : Option (List ℕ)) (after : List ℕ) (u : State)
    → IsElementAt (length opened) o k c → IsContent (suc (length opened)) k → (is_top opened ≡ true → begins_root stage ≡ true)
    → ((e : OpenElement) (rest : List ℕ) → Follows rest → Reads (fed (at (e ∷ opened) (behind_element stage) [] None) k) rest u → Reads (at (e ∷ opened) (behind_element stage) [] None) (source_text k ++ rest) u)
    → Reads (with_element (at opened stage items text) o k c) after u
    → Reads (at opened stage items text) (o ++ source_text k ++ close_text c ++ after) u
element_reads opened stage items text o k None after u is content first inner run =
    let el = is.element in
    let s : State = at opened stage items text in
    let names = attribute_names el.tag in
    let k_is : k ≡ nil = el.closes in
    let steps : step s (empty_tok o names) ≡ Some (with_element s o nil None) =
    when_true (has_room s && are_distinct names) _ _ (both_true (has_room s) (are_distinct names) (room opened stage items text is.within first) el.unique) in
    let run_nil = subst (λ (k : Items). Reads (with_element s o k None) after u) k_is run in
    let read = reads_step s (with_element s o nil None) u (empty_tok o names) empty_tag after (el.tag, el.parts, el.spelled) (λ k. cc)
    (refl, el.tag.name, record { tag = el.tag; parts = el.parts; spelled = el.spelled; is_name = refl; are_names = refl }) steps run_nil in
    subst (λ (t : List ℕ). Reads s t u) (ap (λ k. ((o ++ source_text k) ++ []) ++ after) (sym k_is) ∙ refl) (subst (λ (t : List ℕ). Reads s t u) (nothing o after) read)
  where
    nothing : (o after : List ℕ) → o ++ after ≡ ((o ++ []) ++ []) ++ after
    nothing o after = ap (λ t. t ++ after) (sym (append-nil (o ++ []) ∙ append-nil o))
element_reads opened stage items text o k (Some c) after u is content first inner run =
    let el = is.element in
    let s : State = at opened stage items text in
    let names = attribute_names el.tag in
    let e : OpenElement = record { open_tag = o; name = el.tag.name; before = with_text items text } in
    let begun : State = at (e ∷ opened) (behind_element stage) [] None in
    let steps : step s (start_tok o el.tag.name names) ≡ Some begun =
    when_true (has_room s && are_distinct names) _ _ (both_true (has_room s) (are_distinct names) (room opened stage items text is.within first) el.unique) in
    let f = fed begun k in
    let stays : f.stage ≡ behind_element stage = content_stage (suc (length opened)) begun k content (drop_while_twice stage) in
    let close_steps = closes_to f e opened (behind_element stage) k c el.tag.name (fed_opened begun k) stays (fed_items begun k (content_apart (suc (length opened)) k content) tt) refl in
    let closing = reads_step f (with_element s o k (Some c)) u (end_tok c el.tag.name) end_tag after (el.tag.name, el.parts.name, el.closes) (λ k. cc) (refl, el.parts.name, el.closes) close_steps run in
    let content = inner e (c ++ after) (follows_end_tag el.tag.name c after el.closes) closing in
    let opening = reads_step s begun u (start_tok o el.tag.name names) start_tag (source_text k ++ (c ++ after)) (el.tag, el.parts, el.spelled) (λ k. cc)
    (refl, record { tag = el.tag; parts = el.parts; spelled = el.spelled; is_name = refl; are_names = refl }) steps content in
    subst (λ (t : List ℕ). Reads s t u) (sym (element_text o (source_text k) c after)) opening

-- ---- content

both_parts : (a b : Bool) → a && b ≡ true → (a ≡ true) × (b ≡ true)
both_parts true b e = (refl, e)
both_parts false b e = absurd (let h : false ≡ true = e in cc)

space_plain : (b : ℕ) → is_space b ≡ true → IsPlain b
space_plain b is = (grind (arith, nat_tests), (λ e. let h : is_space 0x3C ≡ true = subst (λ b. is_space b ≡ true) e is in cc), λ e. let h : is_space 0x26 ≡ true = subst (λ b. is_space b ≡ true) e is in cc)

pub comment_begins : (t : List ℕ) → IsComment t → (tail : List ℕ) × (t ≡ 0x3C ∷ tail)
comment_begins t (inner, chars, lacks, e) = (codes "!--" ++ inner ++ codes "-->", e ∙ simp append_assoc)

pub pi_begins : (t : List ℕ) → IsPi t → (tail : List ℕ) × (t ≡ 0x3C ∷ tail)
pi_begins t (target, inner, chars, lacks, is) = (codes "?" ++ target ++ is.space ++ inner ++ codes "?>", is.spelled ∙ simp append_assoc)

pub doctype_begins : (t : List ℕ) → IsDoctype t → (tail : List ℕ) × (t ≡ 0x3C ∷ tail)
doctype_begins t is = (codes "!DOCTYPE" ++ is.space ++ is.name ++ is.external ++ is.blank ++ is.brackets ++ codes ">", is.spelled ∙ simp append_assoc)

-- a DOCTYPE is no white space
pub doctype_no_blank : (t : List ℕ) → IsDoctype t → list_all is_space t ≡ false
doctype_no_blank t is = let (tail, e) = doctype_begins t is in ap (list_all is_space) e

-- what follows character data: what comes behind the items, where they don't begin with a text item
follows_content : (level : ℕ) (list : Items) (rest : List ℕ) → IsContent level list → begins_with text_item list ≡ false → Follows rest → Follows (source_text list ++ rest)
follows_content level nil rest is none follows = follows
follows_content level (element o k c list) rest is none follows =
    let el = is.0.element in
    let (tail, e) = open_begins el.tag (tag_ending c) in
    subst Follows (sym (append_assoc o (source_text k ++ (close_text c ++ source_text list)) rest) ∙ ap (λ t. t ++ rest) (regroup o (source_text k) (close_text c) (source_text list)))
    (follows_markup o tail ((source_text k ++ (close_text c ++ source_text list)) ++ rest) (el.spelled ∙ e))
  where
    open_begins : (tag : Tag) (end : List ℕ) → (tail : List ℕ) × (tag_text tag end ≡ 0x3C ∷ tail)
    open_begins tag end = (_, refl)

    regroup : (o k c l : List ℕ) → o ++ (k ++ (c ++ l)) ≡ ((o ++ k) ++ c) ++ l
    regroup o k c l = simp append_assoc
follows_content level (leaf reference_item t list) rest is none follows =
    let (name, ncname, e) = is.0 in
    subst Follows (sym (append_assoc t (source_text list) rest)) (follows_reference t (source_text list ++ rest) (_, e))
follows_content level (leaf text_item t list) rest is none follows = absurd (let h : true ≡ false = none in cc)
follows_content level (leaf gap t list) rest is none follows = absurd is
follows_content level (leaf comment_item t list) rest is none follows =
    let (tail, e) = comment_begins t is.0 in subst Follows (sym (append_assoc t (source_text list) rest)) (follows_markup t tail (source_text list ++ rest) e)
follows_content level (leaf pi_item t list) rest is none follows =
    let (tail, e) = pi_begins t is.0 in subst Follows (sym (append_assoc t (source_text list) rest)) (follows_markup t tail (source_text list ++ rest) e)

-- content is read
content_reads : (opened : List OpenElement) (stage : Option Stage) (items : List Item) (text : Option (List ℕ)) (list : Items) (rest : List ℕ) (u : State)
    → IsIn opened stage → IsContent (length opened) list → Follows rest → Reads (fed (at opened stage items text) list) rest u → Reads (at opened stage items text) (source_text list ++ rest) u
content_reads opened stage items text nil rest u is_in is follows run = run
content_reads opened stage items text (element o k c list) rest u is_in is follows run =
    subst (λ (t : List ℕ). Reads (at opened stage items text) t u) (sym (append_assoc (o ++ source_text k ++ close_text c) (source_text list) rest))
    (element_reads opened stage items text o k c (source_text list ++ rest) u is.0 is.1 (first opened stage is_in)
    (λ inner rest follows run. content_reads (inner ∷ opened) (behind_element stage) [] None k rest u refl is.1 follows run)
    (content_reads opened (behind_element stage) (with_text items text ++ element_item o k c ∷ []) None list rest u (still_in opened stage is_in) is.2 follows run))
  where
    first : (opened : List OpenElement) (stage : Option Stage) → IsIn opened stage → is_top opened ≡ true → begins_root stage ≡ true
    first [] None is_in top = refl
    first [] (Some stage) is_in top = absurd (let h : false ≡ true = is_in in cc)
    first (e ∷ es) stage is_in top = absurd (let h : false ≡ true = top in cc)

    still_in : (opened : List OpenElement) (stage : Option Stage) → IsIn opened stage → IsIn opened (behind_element stage)
    still_in [] None is_in = is_in
    still_in [] (Some stage) is_in = is_in
    still_in (e ∷ es) stage is_in = refl
content_reads opened stage items text (leaf text_item t list) rest u is_in is follows run =
    subst (λ (t : List ℕ). Reads (at opened stage items text) t u) (sym (append_assoc t (source_text list) rest))
    (text_reads opened stage items text t (source_text list ++ rest) u is_in is.0 (follows_content (length opened) list rest is.2 is.1 follows)
    (content_reads opened stage items (Some (longer text t)) list rest u is_in is.2 follows run))
content_reads opened stage items text (leaf reference_item t list) rest u is_in is follows run =
    subst (λ (t : List ℕ). Reads (at opened stage items text) t u) (sym (append_assoc t (source_text list) rest))
    (reads_step (at opened stage items text) (with_item (at opened stage items text) (leaf_item reference_item t)) u (piece_tok reference_piece t) entity_ref (source_text list ++ rest) is.0 (λ k. cc) (refl, is.1) (when_true _ _ _ is_in)
    (content_reads opened stage (with_text items text ++ leaf_item reference_item t ∷ []) None list rest u is_in is.2 follows run))
content_reads opened stage items text (leaf gap t list) rest u is_in is follows run = absurd is
content_reads opened stage items text (leaf comment_item t list) rest u is_in is follows run =
    subst (λ (t : List ℕ). Reads (at opened stage items text) t u) (sym (append_assoc t (source_text list) rest))
    (reads_step (at opened stage items text) (with_item (at opened stage items text) (leaf_item comment_item t)) u (piece_tok comment_piece t) comment (source_text list ++ rest) is.0 (λ k. cc) refl refl
    (content_reads opened stage (with_text items text ++ leaf_item comment_item t ∷ []) None list rest u is_in is.1 follows run))
content_reads opened stage items text (leaf pi_item t list) rest u is_in is follows run =
    subst (λ (t : List ℕ). Reads (at opened stage items text) t u) (sym (append_assoc t (source_text list) rest))
    (reads_step (at opened stage items text) (with_item (at opened stage items text) (leaf_item pi_item t)) u (piece_tok pi_piece t) pi (source_text list ++ rest) is.0 (λ k. cc) refl refl
    (content_reads opened stage (with_text items text ++ leaf_item pi_item t ∷ []) None list rest u is_in is.1 follows run))

-- ---- the top

follows_top : (stage last : Stage) (list : Items) → Leads stage list last → begins_with_space list ≡ false → Follows (source_text list)
follows_top stage last nil is none = tt
follows_top stage last (element o k c list) is none =
    let el = is.1.element in
    let (tail, e) = open_begins el.tag (tag_ending c) in
    subst Follows (regroup o (source_text k) (close_text c) (source_text list)) (follows_markup o tail (source_text k ++ (close_text c ++ source_text list)) (el.spelled ∙ e))
  where
    open_begins : (tag : Tag) (end : List ℕ) → (tail : List ℕ) × (tag_text tag end ≡ 0x3C ∷ tail)
    open_begins tag end = (_, refl)

    regroup : (o k c l : List ℕ) → o ++ (k ++ (c ++ l)) ≡ ((o ++ k) ++ c) ++ l
    regroup o k c l = simp append_assoc
follows_top stage last (leaf gap t list) (inl is) none = let (tail, e) = doctype_begins t is.1 in follows_markup t tail (source_text list) e
follows_top stage last (leaf gap t list) (inr is) none = absurd (let h : true ≡ false = sym is.0.0 ∙ none in cc)
follows_top stage last (leaf text_item t list) is none = absurd is
follows_top stage last (leaf reference_item t list) is none = absurd is
follows_top stage last (leaf comment_item t list) is none = let (tail, e) = comment_begins t is.0 in follows_markup t tail (source_text list) e
follows_top stage last (leaf pi_item t list) is none = let (tail, e) = pi_begins t is.0 in follows_markup t tail (source_text list) e

blank_chars : (t : List ℕ) → list_all is_space t ≡ true → AllByRecursion IsPlain t × (encode_utf8_all t ≡ t)
blank_chars [] is = (tt, refl)
blank_chars (b ∷ bs) is =
    let parts = both_parts (is_space b) (list_all is_space bs) is in
    let others = blank_chars bs parts.1 in
    let ascii = space_ascii b parts.0 in
    ((space_plain b parts.0, others.0), ap (λ t. t ++ encode_utf8_all bs) (encode_ascii b ascii) ∙ ap (λ t. b ∷ t) others.1)

no_close_in_blank : (t : List ℕ) → list_all is_space t ≡ true → HoldsNoClose t
no_close_in_blank t is k (rest, e) =
    let behind : list_all is_space (drop k t) ≡ true = list_all_behind is_space (take k t) (drop k t) (subst (λ t. list_all is_space t ≡ true) (sym (take-append-drop k t)) is) in
    let close : list_all is_space (codes "]]>" ++ rest) ≡ true = subst (λ t. list_all is_space t ≡ true) e behind in
    let h : false ≡ true = close in absurd (cc)

spells_blank : (t : List ℕ) → list_all is_space t ≡ true → t ≢ [] → Spells char_data t
spells_blank t is some = let chars = blank_chars t is in (t, some, chars.0, sym chars.1, no_close_in_blank t is)

-- white space is character data
spells_space : (t : List ℕ) → IsSpace t → Spells char_data t
spells_space t is = spells_blank t is.0 is.1

top_reads : (stage last : Stage) (items : List Item) (text : Option (List ℕ)) (list : Items) (u : State) → Leads stage list last → Reads (fed (at [] (Some stage) items text) list) [] u → Reads (at [] (Some stage) items text) (source_text list) u
top_reads stage last items text nil u is run = run
top_reads stage last items text (element o k c list) u is run =
    element_reads [] (Some stage) items text o k c (source_text list) u is.1 is.2 (λ top. is.0)
    (λ inner rest follows run. content_reads (inner ∷ []) (Some behind_root) [] None k rest u refl is.2 follows run)
    (top_reads behind_root last (with_text items text ++ element_item o k c ∷ []) None list u is.3 run)
top_reads stage last items text (leaf gap t list) u (inl is) run =
    let s : State = at [] (Some stage) items text in
    let stays : with_gap s t ≡ with_doctype s t = ap (λ b. at [] b (with_text items text ++ leaf_item gap t ∷ []) None) (when_false (list_all is_space t) _ _ (doctype_no_blank t is.1)) in
    reads_step s (with_doctype s t) u (piece_tok doctype_piece t) doctype (source_text list) is.1 (λ k. cc) refl
    (when_true (begins_document (Some stage)) _ _ (ap (λ s. begins_document (Some s)) is.0))
    (top_reads before_root last (with_text items text ++ leaf_item gap t ∷ []) None list u is.2 (subst (λ s. Reads (fed s list) [] u) stays run))
top_reads stage last items text (leaf gap t list) u (inr is) run =
    let s : State = at [] (Some stage) items text in
    let stays : with_gap s t ≡ with_item s (leaf_item gap t) = ap (λ b. at [] b (with_text items text ++ leaf_item gap t ∷ []) None) (when_true (list_all is_space t) _ _ is.0.0) in
    reads_step s (with_item s (leaf_item gap t)) u (piece_tok data_piece t) char_data (source_text list) (spells_space t is.0) (λ k. follows_top stage last list is.2 is.1) refl
    (when_true (list_all is_space t) _ _ is.0.0)
    (top_reads stage last (with_text items text ++ leaf_item gap t ∷ []) None list u is.2 (subst (λ s. Reads (fed s list) [] u) stays run))
top_reads stage last items text (leaf text_item t list) u is run = absurd is
top_reads stage last items text (leaf reference_item t list) u is run = absurd is
top_reads stage last items text (leaf comment_item t list) u is run =
    reads_step (at [] (Some stage) items text) (with_item (at [] (Some stage) items text) (leaf_item comment_item t)) u (piece_tok comment_piece t) comment (source_text list) is.0 (λ k. cc) refl refl
    (top_reads stage last (with_text items text ++ leaf_item comment_item t ∷ []) None list u is.1 run)
top_reads stage last items text (leaf pi_item t list) u is run =
    reads_step (at [] (Some stage) items text) (with_item (at [] (Some stage) items text) (leaf_item pi_item t)) u (piece_tok pi_piece t) pi (source_text list) is.0 (λ k. cc) refl refl
    (top_reads stage last (with_text items text ++ leaf_item pi_item t ∷ []) None list u is.1 run)

-- how far the top comes
top_stage : (stage last : Stage) (items : List Item) (text : Option (List ℕ)) (list : Items) → Leads stage list last → (fed (at [] (Some stage) items text) list).stage ≡ Some last
top_stage stage last items text nil is = ap Some is
top_stage stage last items text (element o k c list) is = top_stage behind_root last (with_text items text ++ element_item o k c ∷ []) None list is.3
top_stage stage last items text (leaf gap t list) (inl is) =
    ap (λ b. (fed (at [] b (with_text items text ++ leaf_item gap t ∷ []) None) list).stage) (when_false (list_all is_space t) _ _ (doctype_no_blank t is.1))
    ∙ top_stage before_root last (with_text items text ++ leaf_item gap t ∷ []) None list is.2
top_stage stage last items text (leaf gap t list) (inr is) =
    ap (λ b. (fed (at [] b (with_text items text ++ leaf_item gap t ∷ []) None) list).stage) (when_true (list_all is_space t) _ _ is.0.0)
    ∙ top_stage stage last (with_text items text ++ leaf_item gap t ∷ []) None list is.2
top_stage stage last items text (leaf text_item t list) is = absurd is
top_stage stage last items text (leaf reference_item t list) is = absurd is
top_stage stage last items text (leaf comment_item t list) is = top_stage stage last (with_text items text ++ leaf_item comment_item t ∷ []) None list is.1
top_stage stage last items text (leaf pi_item t list) is = top_stage stage last (with_text items text ++ leaf_item pi_item t ∷ []) None list is.1

body_reads : (body : Body) (list : Items) → IsBody body list → Reads (begin body) (source_text list) (fed (begin body) list)
body_reads document_body list is = top_reads before_doctype behind_root [] None list (fed (begin document_body) list) is (here (fed (begin document_body) list) [])
body_reads content_body list is =
    subst (λ (t : List ℕ). Reads (begin content_body) t (fed (begin content_body) list)) (append-nil (source_text list))
    (content_reads [] None [] None list [] (fed (begin content_body) list) refl is tt (here (fed (begin content_body) list) []))

body_ended : (body : Body) (list : Items) → IsBody body list → has_ended (fed (begin body) list).stage ≡ true
body_ended document_body list is = ap has_ended (top_stage before_doctype behind_root [] None list is)
body_ended content_body list is = ap has_ended (content_stage 0 (begin content_body) list is refl)

no_text : (body : Body) (list : Items) → Clear (begin body).text list
no_text document_body list = tt
no_text content_body list = tt

fed_body : (body : Body) (list : Items) → Apart list → all_items (fed (begin body) list) ≡ list
fed_body document_body list apart = fed_items (begin document_body) list apart tt
fed_body content_body list apart = fed_items (begin content_body) list apart tt

-- A body is what the longest tokens from left to right give.
pub body_is_read : (body : Body) (bytes : List ℕ) (list : Items) → IsBody body list → source_text list ≡ bytes → IsRead body bytes list
body_is_read body bytes list is joined = record {
  last = fed (begin body) list;
  reads = subst (λ (t : List ℕ). Reads (begin body) t (fed (begin body) list)) joined (body_reads body list is);
  whole = record { closed = opened body list; ended = body_ended body list is };
  are = fed_body body list (body_apart body list is);
}
  where
    opened : (body : Body) (list : Items) → (fed (begin body) list).opened ≡ []
    opened document_body list = fed_opened (begin document_body) list
    opened content_body list = fed_opened (begin content_body) list
