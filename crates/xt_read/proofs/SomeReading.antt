-- Each file is read in a role, or has a fault of the reader.
use Rattle.std.proofs.Common.{zero, suc, ◌≡◌, ◌≢◌, ◌∙◌, ℕ, ◌+◌, ◌-◌, ◌<◌, ◌≤◌, List, [], ◌∷◌, ◌++◌, length, take, drop, refl, sym, ap, subst, arith, ◌⊎◌, inl, inr, false, Option, Some, None, nat_eq, if◌then◌else◌}
use Rattle.std.proofs.lemmas.Bool.{cases_Bool, cases_lt, cases_eq, both_ways}
use Rattle.std.proofs.lemmas.List.{drop-drop, length-drop, length-take-le, take-append-drop, take_all}
use Rattle.std.proofs.lemmas.Str.{IsUtf8-drop, IsCharBoundary-from_drop, IsUtf8-from_is_utf8, is_utf8-from_IsUtf8}
use Rattle.std.specs.List.{starts_with}
use Rattle.std.specs.Str.{IsUtf8, is_utf8, IsValidUpTo}
use Rattle.xt_spec.specs.Declaration.{IsDeclaration, IsDeclarationOf, is_utf8_or_absent}
use Rattle.xt_spec.specs.Reading.{attribute_names, mark, plain_text, IsOrdered, IsReading}
use Rattle.xt_spec.specs.Token.{TokenKind, start_tag, empty_tag, end_tag, char_data, char_ref, entity_ref, cdata_section, comment, pi, declaration, doctype, Spells, IsLongestFront, NoFront}
use Rattle.xt_spec.specs.Tree.{Items, items_of, append, source_text}
use Rattle.xt_lex.specs.declared.token.Span.{Span}
use Rattle.xt_tree.specs.Meaning.{at_span}
use Rattle.xt_lex.proofs.Theorems.{some_front, some_chars, front_boundary, front_some, declaration_unique}
use Rattle.xt_read.specs.FrontSteps.{IsDeclarationAt, NoDeclarationAt, one_text_items}
use Rattle.xt_spec.specs.Front.{IsForeign, after_mark}
use Rattle.xt_spec.specs.FirstFault.{ReadingFault, not_utf8, encoding, not_well_formed, too_deep, HasBodyAt}
use Rattle.xt_read.specs.Front.{role_of, form_of, body_for, markup_role_of, gaps_to}
use Rattle.xt_read.specs.Run.{Body, data_piece, part_piece, reference_piece, comment_piece, pi_piece, declaration_piece, doctype_piece, Tok, start_tok, empty_tok, end_tok, piece_tok, tok_text, IsToken, IsOfKind, State, begin, with_text, has_ended, is_too_deep, step, IsWhole, IsRead, Passes, here, past}
use Rattle.xt_read.specs.Faults.{IsMisplaced, IsTooDeep, IsHalt, IsHaltAt, IsBodyFault, IsMarkupFault, IsPlainFault, IsTextFault, IsFaultOf}
use Rattle.xt_read.specs.declared.front.FileRole.{FileRole}
use Rattle.xt_read.specs.declared.front.FileRole.TheVariants as file
use Rattle.xt_read.specs.declared.front.MarkupRole.TheVariants as markup
use Rattle.xt_read.proofs.FrontPlaces.{none_in_front, other_in_front, not_declared, none_declared, foreign_there, mark_boundary, mark_dropped, has_body, text_fault, file_fault}
use Rattle.xt_read.proofs.Fronts.{joins_body}
use Rattle.xt_read.proofs.PlainTexts.{no_char_behind, one_text_reads}
use Rattle.xt_read.proofs.Sound.{read_is_body}
use Rattle.xt_read.specs.declared.front.MarkupRole.{MarkupRole}
use Rattle.xt_read.proofs.Predefined.{is_predefined}
use Rattle.xt_read.proofs.Tokens.{token_some, token_within}
use Rattle.xt_read.proofs.Whole.{ends_early}

-- ---- the token at a place

-- a token of this kind with this text, and its parts
parts_of : (kind : TokenKind) (t : List ℕ) → Spells kind t → (tok : Tok) × (tok_text tok ≡ t) × IsOfKind kind tok
parts_of start_tag t (tag, is, e) = (start_tok t tag.name (attribute_names tag), refl, (refl, record { tag = tag; parts = is; spelled = e; is_name = refl; are_names = refl }))
parts_of empty_tag t (tag, is, e) = (empty_tok t (attribute_names tag), refl, (refl, tag.name, record { tag = tag; parts = is; spelled = e; is_name = refl; are_names = refl }))
parts_of end_tag t (name, is, ends) = (end_tok t name, refl, (refl, is, ends))
parts_of char_data t is = (piece_tok data_piece t, refl, refl)
parts_of char_ref t (c, names) = (piece_tok part_piece t, refl, inr (inl refl, c, inl names))
parts_of entity_ref t is = elim (is_predefined t) [
  | inl known ↦ (piece_tok part_piece t, refl, inr (inr refl, known.0, inr known.1))
  | inr none ↦ (piece_tok reference_piece t, refl, (refl, none))
]
parts_of cdata_section t is = (piece_tok part_piece t, refl, inl refl)
parts_of comment t is = (piece_tok comment_piece t, refl, refl)
parts_of pi t is = (piece_tok pi_piece t, refl, refl)
parts_of declaration t is = (piece_tok declaration_piece t, refl, refl)
parts_of doctype t is = (piece_tok doctype_piece t, refl, refl)

-- the longest token at the front of a text is one with its parts
pub some_token : (text : List ℕ) (kind : TokenKind) (n : ℕ) → IsLongestFront text kind n → (tok : Tok) × IsToken tok text × (length (tok_text tok) ≡ n)
some_token text kind n is =
    let found = parts_of kind (take n text) is.front.spelled in
    let size : length (tok_text found.0) ≡ n = ap length found.1 ∙ length-take-le n text is.front.within in (
      found.0,
      record {
        kind = kind;
        longest = subst (IsLongestFront text kind) (sym size) is;
        front = ap (λ m. take m text) size ∙ sym found.1;
        of_kind = found.2;
      },
      size,
    )

-- ---- a run from the left, as far as it goes

-- the text is read to one place, and no further
pub record Stops (s : State) (text : List ℕ) : Type 0 where
  pub at : ℕ
  pub within : at ≤ length text
  pub state : State
  pub passes : Passes s text state (drop at text)
  pub stops : (drop at text ≡ []) ⊎ (((drop at text ≢ []) × NoFront (drop at text)) ⊎ (IsMisplaced state (drop at text) ⊎ IsTooDeep state (drop at text)))

at_once : (s : State) (text : List ℕ) → ((text ≡ []) ⊎ (((text ≢ []) × NoFront text) ⊎ (IsMisplaced s text ⊎ IsTooDeep s text))) → Stops s text
at_once s text stops = record { at = 0; within = omega arith; state = s; passes = here s text; stops = stops }

later : (s t : State) (text : List ℕ) (tok : Tok) → IsToken tok text → step s tok ≡ Some t → Stops t (drop (length (tok_text tok)) text) → Stops s text
later s t text tok is steps rest =
    let joined : drop rest.at (drop (length (tok_text tok)) text) ≡ drop (length (tok_text tok) + rest.at) text = drop-drop rest.at (length (tok_text tok)) text in
    record {
      at = length (tok_text tok) + rest.at;
      within = omega (arith, rest.within, length-drop (length (tok_text tok)) text, token_within tok text is);
      state = rest.state;
      passes = past s t rest.state text (drop (length (tok_text tok) + rest.at) text) tok is steps (subst (Passes t (drop (length (tok_text tok)) text) rest.state) joined rest.passes);
      stops = subst (λ r. (r ≡ []) ⊎ (((r ≢ []) × NoFront r) ⊎ (IsMisplaced rest.state r ⊎ IsTooDeep rest.state r))) joined rest.stops;
    }

refused : (s : State) (text : List ℕ) (tok : Tok) → IsToken tok text → step s tok ≡ None → Stops s text
refused s text tok is none = elim (cases_Bool (is_too_deep s tok)) [
  | inl deep ↦ at_once s text (inr (inr (inr (record { tok = tok; is = is; level = deep }))))
  | inr level ↦ at_once s text (inr (inr (inl (record { tok = tok; is = is; none = none; level = level }))))
]

next : (s : State) (text : List ℕ) (tok : Tok) → IsUtf8 text → IsToken tok text → ((t : State) → IsUtf8 (drop (length (tok_text tok)) text) → length (drop (length (tok_text tok)) text) < length text → Stops t (drop (length (tok_text tok)) text)) → (o : Option State) → step s tok ≡ o → Stops s text
next s text tok utf8 is rest None none = refused s text tok is none
next s text tok utf8 is rest (Some t) steps =
    later s t text tok is steps
    (rest t (IsUtf8-drop text (length (tok_text tok)) utf8 (front_boundary text is.kind (length (tok_text tok)) utf8 is.longest.front))
    (omega (arith, token_some tok text is, token_within tok text is, length-drop (length (tok_text tok)) text)))

goes : (fuel : ℕ) (s : State) (text : List ℕ) → IsUtf8 text → length text ≤ fuel → Stops s text
goes zero s [] utf8 size = at_once s [] (inl refl)
goes zero s (b ∷ text) utf8 size = absurd (omega (arith, size))
goes (suc fuel) s [] utf8 size = at_once s [] (inl refl)
goes (suc fuel) s (b ∷ text) utf8 size = elim (some_front (b ∷ text) utf8) [
  | inr none ↦ at_once s (b ∷ text) (inr (inl ((λ e. cc), none)))
  | inl found ↦
      let token = some_token (b ∷ text) found.0 found.1 found.2 in
      next s (b ∷ text) token.0 utf8 token.1 (λ t behind less. goes fuel t (drop (length (tok_text token.0)) (b ∷ text)) behind (omega (arith, size, less))) (step s token.0) refl
]

-- ---- a body

is_whole : (s : State) → IsWhole s ⊎ ¬ IsWhole s
is_whole s = by s.opened refl
  where
    by : (o : List _) → s.opened ≡ o → IsWhole s ⊎ ¬ IsWhole s
    by [] none = elim (cases_Bool (has_ended s.stage)) [
      | inl ended ↦ inl (record { closed = none; ended = ended })
      | inr open_ ↦ inr (λ whole. both_ways (has_ended s.stage) open_ whole.ended)
    ]
    by (e ∷ others) some = inr (λ whole. let wrong = sym some ∙ whole.closed in cc)

abbrev pub HasFault : (ReadingFault → Type 0) → Type 0
HasFault Is = (fault : ReadingFault) × Is fault

pub some_body : (body : Body) (text : List ℕ) (from : ℕ) → from ≤ length text → IsUtf8 (drop from text) → ((items : Items) × IsRead body (drop from text) items) ⊎ HasFault (IsBodyFault body text from)
some_body body text from within utf8 = by (goes (length (drop from text)) (begin body) (drop from text) utf8 (omega arith))
  where
    by : Stops (begin body) (drop from text) → ((items : Items) × IsRead body (drop from text) items) ⊎ HasFault (IsBodyFault body text from)
    by run = elim run.stops [
      | inl end ↦
          let passes : Passes (begin body) (drop from text) run.state [] = subst (Passes (begin body) (drop from text) run.state) end run.passes in
          elim (is_whole run.state) [
            | inl whole ↦ inl (items_of (with_text run.state.items run.state.text), record { last = run.state; reads = passes; whole = whole; are = refl })
            | inr never ↦ inr (not_well_formed (length text), ends_early body text from run.state within passes never)
          ]
      | inr halted ↦ inr (halts halted)
    ]
      where
        joined : drop run.at (drop from text) ≡ drop (from + run.at) text
        joined = drop-drop run.at from text

        faulty : (fault : ReadingFault) → IsHaltAt text (from + run.at) run.state fault → IsBodyFault body text from fault
        faulty fault is = record {
          at = from + run.at;
          order = omega arith;
          within = omega (arith, run.within, length-drop from text, within);
          state = run.state;
          passes = subst (Passes (begin body) (drop from text) run.state) joined run.passes;
          halts = is;
        }

        halts : (((drop run.at (drop from text) ≢ []) × NoFront (drop run.at (drop from text))) ⊎ (IsMisplaced run.state (drop run.at (drop from text)) ⊎ IsTooDeep run.state (drop run.at (drop from text)))) → HasFault (IsBodyFault body text from)
        halts (inl none) = (not_well_formed (from + run.at), faulty (not_well_formed (from + run.at)) (refl, subst (IsHalt run.state) joined (inl none)))
        halts (inr (inl misplaced)) = (not_well_formed (from + run.at), faulty (not_well_formed (from + run.at)) (refl, subst (IsHalt run.state) joined (inr (inl misplaced))))
        halts (inr (inr deep)) = (too_deep, faulty too_deep (subst (IsTooDeep run.state) joined deep))

-- ---- what stands in front

pub record FrontOf (role : MarkupRole) (text : List ℕ) : Type 0 where
  pub to : ℕ
  pub body : HasBodyAt (form_of role) text to
  pub within : to ≤ length text
  pub utf8 : IsUtf8 (drop to text)

is_declaration_kind : (k : TokenKind) → (k ≡ declaration) ⊎ (k ≡ declaration → ⊥)
is_declaration_kind start_tag = inr (λ e. cc)
is_declaration_kind empty_tag = inr (λ e. cc)
is_declaration_kind end_tag = inr (λ e. cc)
is_declaration_kind char_data = inr (λ e. cc)
is_declaration_kind char_ref = inr (λ e. cc)
is_declaration_kind entity_ref = inr (λ e. cc)
is_declaration_kind cdata_section = inr (λ e. cc)
is_declaration_kind comment = inr (λ e. cc)
is_declaration_kind pi = inr (λ e. cc)
is_declaration_kind declaration = inl refl
is_declaration_kind doctype = inr (λ e. cc)

no_declaration : (role : MarkupRole) (text : List ℕ) (len : ℕ) → len ≡ (if starts_with nat_eq text mark then 3 else 0) → len ≤ length text → IsUtf8 (drop len text) → NoDeclarationAt text len → FrontOf role text
no_declaration role text len size within utf8 none = record {
  to = len;
  body = has_body role text len None size (none_declared (form_of role) text len none);
  within = within;
  utf8 = utf8;
}

some_declaration : (role : MarkupRole) (text : List ℕ) (len n : ℕ) → len ≡ (if starts_with nat_eq text mark then 3 else 0) → len ≤ length text → IsUtf8 (drop len text) → IsLongestFront (drop len text) declaration n → IsForeign (form_of role) (drop len text) ⊎ FrontOf role text
some_declaration role text len n size within utf8 longest = by longest.front.spelled
  where
    span : Span
    span = record { from = len; to = len + n }

    fits : len + n ≤ length text
    fits = omega (arith, longest.front.within, length-drop len text, within)

    there : at_span text span ≡ take n (drop len text)
    there = let same : (len + n) - len ≡ n = omega arith in ap (λ m. take m (drop len text)) same

    behind : drop n (drop len text) ≡ drop (len + n) text
    behind = drop-drop n len text

    utf8_behind : IsUtf8 (drop (len + n) text)
    utf8_behind = subst IsUtf8 behind (IsUtf8-drop (drop len text) n utf8 (front_boundary (drop len text) declaration n utf8 longest.front))

    place : IsDeclaration (take n (drop len text)) → IsDeclarationAt text len span
    place is = record {
      from_is = refl;
      some = omega (arith, front_some (drop len text) declaration n longest.front);
      within = fits;
      cut = IsCharBoundary-from_drop text (len + n) fits utf8_behind;
      is = subst IsDeclaration (sym there) is;
      stands = sym (take-append-drop n (drop len text)) ∙ ap (λ t. t ++ drop n (drop len text)) (sym there) ∙ ap (λ t. at_span text span ++ t) behind;
    }

    by : IsDeclaration (take n (drop len text)) → IsForeign (form_of role) (drop len text) ⊎ FrontOf role text
    by (d, is) = elim (cases_Bool (form_of role d)) [
      | inr fails ↦ inr (record {
        to = len;
        body = has_body role text len None size
            (not_declared (form_of role) text len span d (place (d, is)) (λ e other. declaration_unique (at_span text span) e d other (subst (IsDeclarationOf d) (sym there) is)) fails);
        within = within;
        utf8 = utf8;
      })
      | inl has ↦ elim (cases_Bool (is_utf8_or_absent d.encoding)) [
        | inr foreign ↦ inl (foreign_there (form_of role) text len span d (place (d, is)) (subst (IsDeclarationOf d) (sym there) is) has foreign)
        | inl known ↦ inr (record {
          to = len + n;
          body = has_body role text len (Some span) size (record { place = place (d, is); declares = (d, subst (IsDeclarationOf d) (sym there) is, has, known) });
          within = fits;
          utf8 = utf8_behind;
        })
      ]
    ]

some_at : (role : MarkupRole) (text : List ℕ) (len : ℕ) → len ≡ (if starts_with nat_eq text mark then 3 else 0) → len ≤ length text → IsUtf8 (drop len text) → IsForeign (form_of role) (after_mark text) ⊎ FrontOf role text
some_at role text len size within utf8 = elim (some_front (drop len text) utf8) [
  | inr none ↦ inr (no_declaration role text len size within utf8 (none_in_front text len none))
  | inl found ↦ elim (is_declaration_kind found.0) [
    | inr other ↦ inr (no_declaration role text len size within utf8 (other_in_front text len found.1 found.0 found.2 other))
    | inl is ↦ moved (some_declaration role text len found.1 size within utf8 (subst (λ k. IsLongestFront (drop len text) k found.1) is found.2))
  ]
]
  where
    moved : IsForeign (form_of role) (drop len text) ⊎ FrontOf role text → IsForeign (form_of role) (after_mark text) ⊎ FrontOf role text
    moved (inl foreign) = inl (subst (IsForeign (form_of role)) (mark_dropped text len size) foreign)
    moved (inr front) = inr front

-- the mark
pub record MarkOf (text : List ℕ) : Type 0 where
  pub len : ℕ
  pub size : len ≡ (if starts_with nat_eq text mark then 3 else 0)
  pub within : len ≤ length text
  pub utf8 : IsUtf8 (drop len text)

mark_of : (text : List ℕ) → IsUtf8 text → MarkOf text
mark_of text utf8 = elim (cases_Bool (starts_with nat_eq text mark)) [
  | inl starts ↦ let cut = mark_boundary text utf8 starts in record { len = 3; size = rw starts refl; within = cut.0; utf8 = IsUtf8-drop text 3 utf8 cut }
  | inr none ↦ record { len = 0; size = rw none refl; within = omega arith; utf8 = utf8 }
]

-- ---- a text in a role

some_markup : (role : MarkupRole) (text : List ℕ) → IsUtf8 text → ((items : Items) × IsOrdered (markup_role_of role) items × (source_text items ≡ text)) ⊎ HasFault (IsMarkupFault role text)
some_markup role text utf8 = let m = mark_of text utf8 in by (some_at role text m.len m.size m.within m.utf8)
  where
    behind : (f : FrontOf role text) → ((items : Items) × IsRead (body_for role) (drop f.to text) items) ⊎ HasFault (IsBodyFault (body_for role) text f.to) → ((items : Items) × IsOrdered (markup_role_of role) items × (source_text items ≡ text)) ⊎ HasFault (IsMarkupFault role text)
    behind f (inl (items, read)) =
        let main = read_is_body (body_for role) (drop f.to text) items read in
        let whole = (joins_body role text f.to f.body).opens items main.0 main.1 in
        inl (append (gaps_to text f.to) items, whole.0, whole.1)
    behind f (inr (fault, is)) = inr (fault, text_fault role text f.to fault f.body is)

    by : IsForeign (form_of role) (after_mark text) ⊎ FrontOf role text → ((items : Items) × IsOrdered (markup_role_of role) items × (source_text items ≡ text)) ⊎ HasFault (IsMarkupFault role text)
    by (inl foreign) = inr (encoding, foreign)
    by (inr f) = behind f (some_body (body_for role) text f.to f.within f.utf8)

some_plain : (text : List ℕ) → IsUtf8 text → ((items : Items) × IsOrdered plain_text items × (source_text items ≡ text)) ⊎ HasFault (IsPlainFault text)
some_plain text utf8 =
    let m = mark_of text utf8 in
    let found = some_chars (drop m.len text) m.utf8 in
    elim (cases_eq (m.len + found.0) (length text)) [
      | inl whole ↦ let reads = one_text_reads text m.len found.0 m.size m.within found.1 whole in inl (one_text_items text m.len (length text), reads.0, reads.1)
      | inr short ↦ inr (not_well_formed (m.len + found.0), no_char_behind text m.len found.0 utf8 m.size m.within found.1 short)
    ]

some_text : (role : FileRole) (text : List ℕ) → IsUtf8 text → ((items : Items) × IsOrdered (role_of role) items × (source_text items ≡ text)) ⊎ HasFault (IsTextFault role text)
some_text file.Document text utf8 = some_markup markup.Document text utf8
some_text file.Entity text utf8 = some_markup markup.Entity text utf8
some_text file.Text text utf8 = some_plain text utf8

-- ---- a file

longest_front : (bs : List ℕ) (m : ℕ) → (n : ℕ) × (n ≤ m) × IsUtf8 (take n bs) × ((k : ℕ) → n < k → k ≤ m → ¬ IsUtf8 (take k bs))
longest_front bs zero = (0, omega arith, ([], (refl, refl)), λ k above within. absurd (omega arith))
longest_front bs (suc m) = elim (cases_Bool (is_utf8 (take (suc m) bs))) [
  | inl yes_ ↦ (suc m, omega arith, IsUtf8-from_is_utf8 (take (suc m) bs) yes_, λ k above within. absurd (omega arith))
  | inr no_ ↦ let rest = longest_front bs m in (rest.0, omega (arith, rest.1), rest.2, above rest.0 no_ rest.3)
]
  where
    above : (n : ℕ) → is_utf8 (take (suc m) bs) ≡ false → ((k : ℕ) → n < k → k ≤ m → ¬ IsUtf8 (take k bs)) → (k : ℕ) → n < k → k ≤ suc m → ¬ IsUtf8 (take k bs)
    above n no_ rest k more within is = elim (cases_eq k (suc m)) [
      | inl top ↦ both_ways (is_utf8 (take (suc m) bs)) no_ (is_utf8-from_IsUtf8 (take (suc m) bs) (subst (λ n. IsUtf8 (take n bs)) top is))
      | inr low ↦ rest k more (omega (arith, low, within)) is
    ]

pub valid_up_to : (bs : List ℕ) → IsUtf8 bs ⊎ ((¬ IsUtf8 bs) × (n : ℕ) × IsValidUpTo bs n)
valid_up_to bs = elim (cases_Bool (is_utf8 bs)) [
  | inl yes_ ↦ inl (IsUtf8-from_is_utf8 bs yes_)
  | inr no_ ↦ let front = longest_front bs (length bs) in inr (never no_, front.0, by no_ front.0 front.1 front.2 front.3)
]
  where
    never : is_utf8 bs ≡ false → ¬ IsUtf8 bs
    never no_ is = both_ways (is_utf8 bs) no_ (is_utf8-from_IsUtf8 bs is)

    by : is_utf8 bs ≡ false → (n : ℕ) → n ≤ length bs → IsUtf8 (take n bs) → ((k : ℕ) → n < k → k ≤ length bs → ¬ IsUtf8 (take k bs)) → IsValidUpTo bs n
    by no_ n within is longest = record {
      short = elim (cases_lt n (length bs)) [
        | inl less ↦ less
        | inr whole ↦ absurd (never no_ (subst IsUtf8 (take_all n bs whole) is))
      ];
      front = is;
      longest = λ k more other. elim (cases_lt (length bs) k) [
        | inl past_ ↦ never no_ (subst IsUtf8 (take_all k bs (omega (arith, past_))) other)
        | inr inside ↦ longest k more inside other
      ];
    }

pub reads_or_faults : (role : FileRole) (bytes : List ℕ) → ((items : Items) × IsReading (role_of role) bytes items) ⊎ ((fault : ReadingFault) × IsFaultOf role bytes fault)
reads_or_faults role bytes = elim (valid_up_to bytes) [
  | inr wrong ↦ inr (not_utf8 wrong.1, (wrong.0, wrong.2))
  | inl utf8 ↦ by utf8 (some_text role bytes utf8)
]
  where
    by : IsUtf8 bytes → ((items : Items) × IsOrdered (role_of role) items × (source_text items ≡ bytes)) ⊎ HasFault (IsTextFault role bytes) → ((items : Items) × IsReading (role_of role) bytes items) ⊎ ((fault : ReadingFault) × IsFaultOf role bytes fault)
    by utf8 (inl (items, ordered, joined)) = inl (items, record { utf8 = utf8; joined = joined; ordered = ordered })
    by utf8 (inr (fault, is)) = inr (fault, file_fault role bytes bytes fault refl utf8 is)
