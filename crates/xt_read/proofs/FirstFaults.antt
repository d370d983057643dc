-- The faults of a reading from left to right are the first faults of `xt_spec`: a text is read up to a place exactly where its
-- longest tokens up to there are the front of something whole.
use Rattle.std.proofs.Common.{◌≡◌, ◌∙◌, ℕ, ◌+◌, ◌-◌, ◌≤◌, List, [], ◌∷◌, ◌++◌, length, take, drop, refl, sym, ap, subst, arith, Option, Some, None, append_assoc, inl, inr, ◌⊎◌, Bool, true, false, not, ◌&&◌, nat_lt, nat_le, nat_eq, bytes_eq, if◌then◌else◌}
use Rattle.std.proofs.lemmas.Bool.{cases_lt}
use Rattle.std.proofs.lemmas.Bool.Decides.{nat_tests}
use Rattle.std.proofs.lemmas.List.{drop-drop, length-drop, length-append, take-append-drop, length-take-le}
use Rattle.std.proofs.lemmas.Str.{utf8_valid_len-IsValidUpTo}
use Rattle.std.proofs.Math.Seq.{take-add}
use Rattle.std.specs.List.{list_all, starts_with}
use Rattle.std.specs.Str.{IsUtf8, IsValidUpTo}
use Rattle.xt_spec.specs.Limit.{most_levels}
use Rattle.xt_spec.specs.Char.{is_space}
use Rattle.xt_spec.specs.Declaration.{Declaration}
use Rattle.xt_spec.specs.Token.{TokenKind, IsLongestFront}
use Rattle.xt_spec.specs.Tree.{Items, items_of, source_text}
use Rattle.xt_spec.specs.Reading.{are_distinct, mark, Role, document, entity, fragment, plain_text, IsReading}
use Rattle.xt_spec.specs.Front as front
use Rattle.xt_spec.specs.Front.{after_mark, mark_len, TakesDeclared, BeginsBody}
use Rattle.xt_spec.specs.FirstFault.{ReadingFault, not_utf8, encoding, not_well_formed, too_deep, open_behind, begins_too_deep, AreTokens, no_tokens, token_before, IsFrontOf, IsReadTo, IsStopped, no_token, misplaced, too_early, IsIllFormed, IsTooDeep, IsIllFormedBehind, IsTooDeepBehind, IsFirstFault}
use Rattle.xt_lex.proofs.Theorems.{front_some}
use Rattle.xt_read.specs.Run.{Body, content_body, IsBody, Tok, start_tok, empty_tok, end_tok, piece_tok, Piece, data_piece, part_piece, reference_piece, comment_piece, pi_piece, declaration_piece, doctype_piece, tok_text, IsPiece, IsOfKind, IsToken, OpenElement, State, begin, is_inside, is_top, begins_document, has_room, is_too_deep, closed, piece_step, step, IsWhole, with_text, Passes, here, past}
use Rattle.xt_read.specs.Front.{role_of, markup_role_of, form_of, body_for}
use Rattle.xt_read.specs.Faults.{IsHalt, IsHaltAt, IsBodyFault, IsBehindFront, IsTextFault, IsFaultOf}
use Rattle.xt_read.specs.declared.front.FileRole.{FileRole}
use Rattle.xt_read.specs.declared.front.FileRole.TheVariants as file
use Rattle.xt_read.specs.declared.front.MarkupRole.{MarkupRole}
use Rattle.xt_read.specs.declared.front.MarkupRole.TheVariants as markup
use Rattle.xt_read.proofs.Complete.{body_is_read}
use Rattle.xt_read.proofs.Sound.{read_is_body}
use Rattle.xt_read.proofs.Tokens.{token_within}
use Rattle.xt_read.proofs.Runs.{some_same, passes_push, one_run, no_items, one_list}
use Rattle.xt_read.proofs.Completed.{front_goes_on}
use Rattle.xt_read.proofs.Refused.{misplaced_ends}
use Rattle.xt_read.proofs.Fronts.{begins_mark, one_tree, one_entity}
use Rattle.xt_read.proofs.PlainTexts.{one_text}
use Rattle.xt_read.proofs.NoFaults.{no_fault, one_fault, one_body_fault}
use Rattle.xt_read.proofs.SomeReading.{some_token, valid_up_to, some_body, reads_or_faults}

-- ---- tokens and their kinds

piece_keeps : (kind : TokenKind) (piece : Piece) (text : List ℕ) (n : ℕ) → IsPiece kind piece text → open_behind kind n ≡ n
piece_keeps kind data_piece text n is = ap (λ k. open_behind k n) is
piece_keeps kind part_piece text n (inl is) = ap (λ k. open_behind k n) is
piece_keeps kind part_piece text n (inr (inl is, c, stands)) = ap (λ k. open_behind k n) is
piece_keeps kind part_piece text n (inr (inr is, c, stands)) = ap (λ k. open_behind k n) is
piece_keeps kind reference_piece text n is = ap (λ k. open_behind k n) is.0
piece_keeps kind comment_piece text n is = ap (λ k. open_behind k n) is
piece_keeps kind pi_piece text n is = ap (λ k. open_behind k n) is
piece_keeps kind declaration_piece text n is = ap (λ k. open_behind k n) is
piece_keeps kind doctype_piece text n is = ap (λ k. open_behind k n) is

piece_shallow : (kind : TokenKind) (piece : Piece) (text : List ℕ) (n : ℕ) → IsPiece kind piece text → begins_too_deep kind n ≡ false
piece_shallow kind data_piece text n is = ap (λ k. begins_too_deep k n) is
piece_shallow kind part_piece text n (inl is) = ap (λ k. begins_too_deep k n) is
piece_shallow kind part_piece text n (inr (inl is, c, stands)) = ap (λ k. begins_too_deep k n) is
piece_shallow kind part_piece text n (inr (inr is, c, stands)) = ap (λ k. begins_too_deep k n) is
piece_shallow kind reference_piece text n is = ap (λ k. begins_too_deep k n) is.0
piece_shallow kind comment_piece text n is = ap (λ k. begins_too_deep k n) is
piece_shallow kind pi_piece text n is = ap (λ k. begins_too_deep k n) is
piece_shallow kind declaration_piece text n is = ap (λ k. begins_too_deep k n) is
piece_shallow kind doctype_piece text n is = ap (λ k. begins_too_deep k n) is

full_same : (n m : ℕ) → not (nat_lt n m) ≡ nat_le m n
full_same n m = elim (cases_lt n m) [
  | inl less ↦ let lt : nat_lt n m ≡ true = grind (arith, nat_tests) in let le : nat_le m n ≡ false = grind (arith, nat_tests) in rw lt (rw le refl)
  | inr more ↦ let lt : nat_lt n m ≡ false = grind (arith, nat_tests) in let le : nat_le m n ≡ true = grind (arith, nat_tests) in rw lt (rw le refl)
]

-- a level too deep is the same in both
deep_same : (s : State) (tok : Tok) (kind : TokenKind) → IsOfKind kind tok → is_too_deep s tok ≡ begins_too_deep kind (length s.opened)
deep_same s (start_tok text name names) kind is = full_same (length s.opened) most_levels ∙ sym (ap (λ k. begins_too_deep k (length s.opened)) is.0)
deep_same s (empty_tok text names) kind is = full_same (length s.opened) most_levels ∙ sym (ap (λ k. begins_too_deep k (length s.opened)) is.0)
deep_same s (end_tok text name) kind is = sym (ap (λ k. begins_too_deep k (length s.opened)) is.0)
deep_same s (piece_tok piece text) kind is = sym (piece_shallow kind piece text (length s.opened) is)

by_if : (b : Bool) (x t : State) → (if b then Some x else None) ≡ Some t → x ≡ t
by_if true x t e = some_same (Some x) x t refl e
by_if false x t e = absurd (cc)

closed_fewer : (opened : List OpenElement) (s t : State) (text name : List ℕ) → closed opened s text name ≡ Some t → length t.opened ≡ length opened - 1
closed_fewer [] s t text name e = absurd (cc)
closed_fewer (element ∷ others) s t text name e =
    let same : length t.opened ≡ length others = ap (λ (x : State). length x.opened) (sym (by_if (bytes_eq element.name name) _ t e)) in
    omega (arith, same)

by_two : (a b : Bool) (n : ℕ) (x y t : State) → length x.opened ≡ n → length y.opened ≡ n → (if a then Some x else (if b then Some y else None)) ≡ Some t → length t.opened ≡ n
by_two true b n x y t first second e = ap (λ (x : State). length x.opened) (sym (some_same (Some x) x t refl e)) ∙ first
by_two false b n x y t first second e = ap (λ (x : State). length x.opened) (sym (by_if b y t e)) ∙ second

piece_same : (s t : State) (piece : Piece) (text : List ℕ) → piece_step s piece text ≡ Some t → length t.opened ≡ length s.opened
piece_same s t data_piece text e = by_two (is_inside s) (list_all is_space text) (length s.opened) _ _ t refl refl e
piece_same s t part_piece text e = ap (λ (x : State). length x.opened) (sym (by_if (is_inside s) _ t e))
piece_same s t reference_piece text e = ap (λ (x : State). length x.opened) (sym (by_if (is_inside s) _ t e))
piece_same s t comment_piece text e = ap (λ (x : State). length x.opened) (sym (some_same _ _ t refl e))
piece_same s t pi_piece text e = ap (λ (x : State). length x.opened) (sym (some_same _ _ t refl e))
piece_same s t declaration_piece text e = absurd (cc)
piece_same s t doctype_piece text e = ap (λ (x : State). length x.opened) (sym (by_if (is_top s.opened && begins_document s.stage) _ t e))

-- so many elements are open behind a step
step_opens : (s t : State) (tok : Tok) (kind : TokenKind) → IsOfKind kind tok → step s tok ≡ Some t → length t.opened ≡ open_behind kind (length s.opened)
step_opens s t (start_tok text name names) kind is e = ap (λ (x : State). length x.opened) (sym (by_if (has_room s && are_distinct names) _ t e)) ∙ sym (ap (λ k. open_behind k (length s.opened)) is.0)
step_opens s t (empty_tok text names) kind is e = ap (λ (x : State). length x.opened) (sym (by_if (has_room s && are_distinct names) _ t e)) ∙ sym (ap (λ k. open_behind k (length s.opened)) is.0)
step_opens s t (end_tok text name) kind is e = closed_fewer s.opened s t text name e ∙ sym (ap (λ k. open_behind k (length s.opened)) is.0)
step_opens s t (piece_tok piece text) kind is e = piece_same s t piece text e ∙ sym (piece_keeps kind piece text (length s.opened) is)

-- ---- what is read is tokens

passes_tokens : (s u : State) (text rest : List ℕ) → Passes s text u rest → (n : ℕ) × AreTokens text (length s.opened) n (length u.opened) × (n ≤ length text) × (rest ≡ drop n text)
passes_tokens s u text rest (here s' text') = (0, no_tokens text (length s.opened), omega arith, refl)
passes_tokens s u text rest (past s' t u' text' rest' tok is steps others) =
    let (n, are, within, same) = passes_tokens t u (drop (length (tok_text tok)) text) rest others in (
      length (tok_text tok) + n,
      token_before text (length s.opened) is.kind (length (tok_text tok)) n (length u.opened) is.longest
          (subst (λ k. AreTokens (drop (length (tok_text tok)) text) k n (length u.opened)) (step_opens s t tok is.kind is.of_kind steps) are),
      omega (arith, within, length-drop (length (tok_text tok)) text, token_within tok text is),
      same ∙ drop-drop n (length (tok_text tok)) text,
    )

-- ---- and tokens that are the front of a body are read

token_split : (tok : Tok) (text : List ℕ) (n : ℕ) → IsToken tok text → length (tok_text tok) ≡ n → text ≡ tok_text tok ++ drop n text
token_split tok text n is size = sym (take-append-drop (length (tok_text tok)) text) ∙ ap (λ t. t ++ drop (length (tok_text tok)) text) is.front ∙ ap (λ k. tok_text tok ++ drop k text) size

token_taken : (tok : Tok) (text : List ℕ) (n : ℕ) → IsToken tok text → length (tok_text tok) ≡ n → take n text ≡ tok_text tok
token_taken tok text n is size = ap (λ k. take k text) (sym size) ∙ is.front

front_longer : (tok : Tok) (text front : List ℕ) (size n : ℕ) → IsToken tok text → length (tok_text tok) ≡ size → front ++ take (size + n) text ≡ (front ++ tok_text tok) ++ take n (drop size text)
front_longer tok text front size n is same =
    ap (λ t. front ++ t) (take-add size n text ∙ ap (λ t. t ++ take n (drop size text)) (token_taken tok text size is same))
    ∙ sym (append_assoc front (tok_text tok) (take n (drop size text)))

tokens_pass : (body : Body) (s : State) (front text : List ℕ) (opened n last : ℕ) → AreTokens text opened n last → Passes (begin body) (front ++ text) s text → IsFrontOf (IsBody body) (front ++ take n text) → (u : State) × Passes (begin body) (front ++ text) u (drop n text)
tokens_pass body s front text opened n last (no_tokens text' opened') passes is = (s, passes)
tokens_pass body s front text opened m last (token_before text' opened' kind size n last' longest are) passes is =
    let found = some_token text kind size longest in
    by found.0 found.1 found.2 (λ t on. tokens_pass body t (front ++ tok_text found.0) (drop size text) (open_behind kind opened) n last are on (longer found.0 found.1 found.2))
  where
    longer : (tok : Tok) → IsToken tok text → length (tok_text tok) ≡ size → IsFrontOf (IsBody body) ((front ++ tok_text tok) ++ take n (drop size text))
    longer tok found same = subst (IsFrontOf (IsBody body)) (front_longer tok text front size n found same) is

    by : (tok : Tok) → IsToken tok text → length (tok_text tok) ≡ size
        → ((t : State) → Passes (begin body) ((front ++ tok_text tok) ++ drop size text) t (drop size text) → (u : State) × Passes (begin body) ((front ++ tok_text tok) ++ drop size text) u (drop n (drop size text)))
        → (u : State) × Passes (begin body) (front ++ text) u (drop (size + n) text)
    by tok found same rest = go (step s tok) refl
      where
        whole : front ++ text ≡ (front ++ tok_text tok) ++ drop size text
        whole = ap (λ t. front ++ t) (token_split tok text size found same) ∙ sym (append_assoc front (tok_text tok) (drop size text))

        on : (t : State) → step s tok ≡ Some t → Passes (begin body) ((front ++ tok_text tok) ++ drop size text) t (drop size text)
        on t steps = subst (λ w. Passes (begin body) w t (drop size text)) whole (subst (λ k. Passes (begin body) (front ++ text) t (drop k text)) same (passes_push (begin body) s t (front ++ text) text tok found steps passes))

        back : (u : State) × Passes (begin body) ((front ++ tok_text tok) ++ drop size text) u (drop n (drop size text)) → (u : State) × Passes (begin body) (front ++ text) u (drop (size + n) text)
        back (u, other) = (u, subst (λ w. Passes (begin body) w u (drop (size + n) text)) (sym whole) (subst (Passes (begin body) ((front ++ tok_text tok) ++ drop size text) u) (drop-drop n size text) other))

        never : step s tok ≡ None → ⊥
        never none =
            let (more, items, holds, joined) = longer tok found same in
            misplaced_ends body front text (take n (drop size text) ++ more) s tok items passes found none holds
            (joined ∙ append_assoc (front ++ tok_text tok) (take n (drop size text)) more)

        go : (o : Option State) → step s tok ≡ o → (u : State) × Passes (begin body) (front ++ text) u (drop (size + n) text)
        go None none = absurd (never none)
        go (Some t) steps = back (rest t (on t steps))

-- ---- both

pub read_is_front : (body : Body) (front rest : List ℕ) (s : State) → Passes (begin body) (front ++ rest) s rest → AreTokens (front ++ rest) 0 (length front) (length s.opened) × IsFrontOf (IsBody body) front
read_is_front body front rest s passes =
    let (n, are, within, same) = passes_tokens (begin body) s (front ++ rest) rest passes in
    let size : n ≡ length front = omega (arith, ap length same, length-drop n (front ++ rest), within, length-append front rest) in
    (subst (λ k. AreTokens (front ++ rest) 0 k (length s.opened)) size are, front_goes_on body front rest s passes)

-- tokens leave so many elements open, and no other number
one_open : (text : List ℕ) (opened m n last other : ℕ) → AreTokens text opened m last → AreTokens text opened n other → m ≡ n → last ≡ other
one_open text opened m n last other (no_tokens t o) (no_tokens t' o') same = refl
one_open text opened m n last other (no_tokens t o) (token_before t' o' kind k behind last' found are) same = absurd (omega (arith, same, front_some text kind k found.front))
one_open text opened m n last other (token_before t o kind k behind last' found are) (no_tokens t' o') same = absurd (omega (arith, same, front_some text kind k found.front))
one_open text opened m n last other (token_before t o kind k behind last' found are) (token_before t' o' kind' k' behind' last'' found' are') same =
    let size : k' ≡ k = omega (arith, (found.longest kind' k' found'.front).1, (found'.longest kind k found.front).1) in
    let moved : AreTokens (drop k text) (open_behind kind opened) behind' other =
    subst (λ x. AreTokens (drop k text) (open_behind x opened) behind' other) (found.longest kind' k' found'.front).0 (subst (λ x. AreTokens (drop x text) (open_behind kind' opened) behind' other) size are') in
    let rest : behind ≡ behind' = omega (arith, same, size) in
    one_open (drop k text) (open_behind kind opened) behind behind' last other are moved rest

-- an end of tokens is a state in which so many elements are open
end_is_read : (body : Body) (text : List ℕ) (at opened : ℕ) → IsReadTo (IsBody body) text at opened → (s : State) × Passes (begin body) text s (drop at text) × (length s.opened ≡ opened)
end_is_read body text at opened is =
    let (s, passes) = tokens_pass body (begin body) [] text 0 at opened is.tokens (here (begin body) text) is.front in
    let (n, are, within, same) = passes_tokens (begin body) s text (drop at text) passes in
    let size : n ≡ at = omega (arith, ap length same, length-drop n text, length-drop at text, within, is.within) in
    (s, passes, one_open text 0 n at (length s.opened) opened are is.tokens size)

read_is_end : (body : Body) (text : List ℕ) (at : ℕ) (s : State) → at ≤ length text → Passes (begin body) text s (drop at text) → IsReadTo (IsBody body) text at (length s.opened)
read_is_end body text at s within passes =
    let whole : take at text ++ drop at text ≡ text = take-append-drop at text in
    let both = read_is_front body (take at text) (drop at text) s (subst (λ t. Passes (begin body) t s (drop at text)) (sym whole) passes) in
    let size : length (take at text) ≡ at = length-take-le at text within in
    record {
      within = within;
      tokens = subst (λ k. AreTokens text 0 k (length s.opened)) size (subst (λ t. AreTokens t 0 (length (take at text)) (length s.opened)) whole both.0);
      front = both.1;
    }

-- what stands up to a token, and the token
taken_with : (text : List ℕ) (at n : ℕ) (tok : Tok) → IsToken tok (drop at text) → length (tok_text tok) ≡ n → take (at + n) text ≡ take at text ++ tok_text tok
taken_with text at n tok is size = take-add at n text ∙ ap (λ t. take at text ++ t) (token_taken tok (drop at text) n is size)

-- behind a token that may not stand no body goes on
no_more : (body : Body) (text : List ℕ) (at : ℕ) (s : State) (tok : Tok) → Passes (begin body) text s (drop at text) → IsToken tok (drop at text) → step s tok ≡ None → ¬ IsFrontOf (IsBody body) (take at text ++ tok_text tok)
no_more body text at s tok passes is none (more, items, holds, joined) =
    misplaced_ends body (take at text) (drop at text) more s tok items (subst (λ t. Passes (begin body) t s (drop at text)) (sym (take-append-drop at text)) passes) is none holds joined

-- and behind one that may, some does
some_more : (body : Body) (text : List ℕ) (at : ℕ) (s t : State) (tok : Tok) → Passes (begin body) text s (drop at text) → IsToken tok (drop at text) → step s tok ≡ Some t → IsFrontOf (IsBody body) (take at text ++ tok_text tok)
some_more body text at s t tok passes is steps =
    let behind = drop (length (tok_text tok)) (drop at text) in
    let whole : text ≡ (take at text ++ tok_text tok) ++ behind =
    sym (take-append-drop at text) ∙ ap (λ r. take at text ++ r) (token_split tok (drop at text) (length (tok_text tok)) is refl) ∙ sym (append_assoc (take at text) (tok_text tok) behind) in
    front_goes_on body (take at text ++ tok_text tok) behind t (subst (λ w. Passes (begin body) w t behind) whole (passes_push (begin body) s t text (drop at text) tok is steps passes))

none_of : (s : State) (tok : Tok) → ((t : State) → step s tok ≡ Some t → ⊥) → step s tok ≡ None
none_of s tok never = by (step s tok) refl
  where
    by : (o : Option State) → step s tok ≡ o → step s tok ≡ None
    by None e = e
    by (Some t) e = absurd (never t e)

-- ---- the fault of a body

whole_body : (body : Body) (text : List ℕ) (s : State) → Passes (begin body) text s [] → IsWhole s → (items : Items) × IsBody body items × (source_text items ≡ text)
whole_body body text s passes whole =
    let items = items_of (with_text s.items s.text) in
    let is = read_is_body body text items (record { last = s; reads = passes; whole = whole; are = refl }) in
    (items, is.0, is.1)

body_whole : (body : Body) (text : List ℕ) (s : State) (items : Items) → Passes (begin body) text s [] → IsBody body items → source_text items ≡ text → IsWhole s
body_whole body text s items passes holds joined =
    let read = body_is_read body text items holds joined in
    subst IsWhole (one_run (begin body) read.last s text read.reads passes) read.whole

-- the place of a fault, counted from where the body begins
record IsBehind (body : Body) (text : List ℕ) (from at : ℕ) (s : State) : Type 0 where
  n : ℕ
  at_is : at ≡ from + n
  within : n ≤ length (drop from text)
  rest : drop at text ≡ drop n (drop from text)
  passes : Passes (begin body) (drop from text) s (drop n (drop from text))

is_behind : (body : Body) (text : List ℕ) (from : ℕ) (fault : ReadingFault) → (is : IsBodyFault body text from fault) → IsBehind body text from is.at is.state
is_behind body text from fault is =
    let size : is.at ≡ from + (is.at - from) = omega (arith, is.order) in
    let rest : drop is.at text ≡ drop (is.at - from) (drop from text) = ap (λ k. drop k text) size ∙ sym (drop-drop (is.at - from) from text) in
    record {
      n = is.at - from;
      at_is = size;
      within = omega (arith, is.within, is.order, length-drop from text);
      rest = rest;
      passes = subst (Passes (begin body) (drop from text) is.state) rest is.passes;
    }

stops : (body : Body) (text : List ℕ) (n : ℕ) (s : State) → Passes (begin body) text s (drop n text) → IsHalt s (drop n text) → IsStopped (IsBody body) text n (length s.opened)
stops body text n s passes (inl (some, none)) = no_token some none
stops body text n s passes (inr (inl m)) =
    misplaced m.is.kind (length (tok_text m.tok)) m.is.longest (sym (deep_same s m.tok m.is.kind m.is.of_kind) ∙ m.level)
    (λ front. no_more body text n s m.tok passes m.is m.none (subst (IsFrontOf (IsBody body)) (taken_with text n (length (tok_text m.tok)) m.tok m.is refl) front))
stops body text n s passes (inr (inr (end, never))) =
    too_early end (λ items holds joined. never (body_whole body text s items (subst (Passes (begin body) text s) end passes) holds joined))

-- the steps' fault is that of the definition
ill_forth : (body : Body) (text : List ℕ) (from at : ℕ) → IsBodyFault body text from (not_well_formed at) → (n : ℕ) × (at ≡ from + n) × IsIllFormed (IsBody body) (drop from text) n
ill_forth body text from at is =
    let b = is_behind body text from (not_well_formed at) is in (
      b.n,
      is.halts.0 ∙ b.at_is,
      record {
        opened = length is.state.opened;
        read = read_is_end body (drop from text) b.n is.state b.within b.passes;
        stopped = stops body (drop from text) b.n is.state b.passes (subst (IsHalt is.state) b.rest is.halts.1);
      },
    )

deep_forth : (body : Body) (text : List ℕ) (from : ℕ) → IsBodyFault body text from too_deep → IsTooDeep (IsBody body) (drop from text)
deep_forth body text from is =
    let b = is_behind body text from too_deep is in
    let deep = is.halts in
    record {
      at = b.n;
      opened = length is.state.opened;
      read = read_is_end body (drop from text) b.n is.state b.within b.passes;
      kind = deep.is.kind;
      n = length (tok_text deep.tok);
      token = subst (λ t. IsLongestFront t deep.is.kind (length (tok_text deep.tok))) b.rest deep.is.longest;
      deep = sym (deep_same is.state deep.tok deep.is.kind deep.is.of_kind) ∙ deep.level;
    }

-- .. and the other way
faulty : (body : Body) (text : List ℕ) (from n : ℕ) (s : State) (fault : ReadingFault) → from ≤ length text → n ≤ length (drop from text) → Passes (begin body) (drop from text) s (drop n (drop from text)) → IsHaltAt text (from + n) s fault → IsBodyFault body text from fault
faulty body text from n s fault start within passes halts = record {
  at = from + n;
  order = omega arith;
  within = omega (arith, start, within, length-drop from text);
  state = s;
  passes = subst (Passes (begin body) (drop from text) s) (drop-drop n from text) passes;
  halts = halts;
}

deep_by : (s : State) (tok : Tok) (text : List ℕ) (opened : ℕ) (kind : TokenKind) (n : ℕ) (b : Bool) → (is : IsToken tok text) → IsLongestFront text kind n → length s.opened ≡ opened → begins_too_deep kind opened ≡ b → is_too_deep s tok ≡ b
deep_by s tok text opened kind n b is longest size deep =
    let same : is.kind ≡ kind = (longest.longest is.kind (length (tok_text tok)) is.longest.front).0 in
    deep_same s tok is.kind is.of_kind ∙ ap (λ k. begins_too_deep k (length s.opened)) same ∙ ap (λ o. begins_too_deep kind o) size ∙ deep

halts_by : (body : Body) (text : List ℕ) (n opened : ℕ) (s : State) → Passes (begin body) text s (drop n text) → length s.opened ≡ opened → IsStopped (IsBody body) text n opened → IsHalt s (drop n text)
halts_by body text n opened s passes size (no_token some none) = inl (some, none)
halts_by body text n opened s passes size (misplaced kind k longest shallow never) =
    let found = some_token (drop n text) kind k longest in
    inr (inl (record {
      tok = found.0;
      is = found.1;
      none = none_of s found.0 (λ t steps. never (subst (IsFrontOf (IsBody body)) (sym (taken_with text n k found.0 found.1 found.2)) (some_more body text n s t found.0 passes found.1 steps)));
      level = deep_by s found.0 (drop n text) opened kind k false found.1 longest size shallow;
    }))
halts_by body text n opened s passes size (too_early none never) =
    inr (inr (none, λ whole. let (items, holds, joined) = whole_body body text s (subst (Passes (begin body) text s) none passes) whole in never items holds joined))

ill_back : (body : Body) (text : List ℕ) (from at n : ℕ) → from ≤ length text → at ≡ from + n → IsIllFormed (IsBody body) (drop from text) n → IsBodyFault body text from (not_well_formed at)
ill_back body text from at n start at_is is =
    let (s, passes, size) = end_is_read body (drop from text) n is.opened is.read in
    faulty body text from n s (not_well_formed at) start is.read.within passes (at_is, subst (IsHalt s) (drop-drop n from text) (halts_by body (drop from text) n is.opened s passes size is.stopped))

deep_back : (body : Body) (text : List ℕ) (from : ℕ) → from ≤ length text → IsTooDeep (IsBody body) (drop from text) → IsBodyFault body text from too_deep
deep_back body text from start is =
    let (s, passes, size) = end_is_read body (drop from text) is.at is.opened is.read in
    let found = some_token (drop is.at (drop from text)) is.kind is.n is.token in
    faulty body text from is.at s too_deep start is.read.within passes (record {
      tok = found.0;
      is = subst (IsToken found.0) (drop-drop is.at from text) found.1;
      level = deep_by s found.0 (drop is.at (drop from text)) is.opened is.kind is.n true found.1 is.token size is.deep;
    })

-- ---- the front

mark_within : (text : List ℕ) → mark_len text + length (after_mark text) ≡ length text
mark_within text = by (starts_with nat_eq text mark) refl
  where
    by : (b : Bool) → starts_with nat_eq text mark ≡ b → mark_len text + length (after_mark text) ≡ length text
    by true starts =
        let three : mark_len text ≡ 3 = rw starts refl in
        let plain : after_mark text ≡ drop 3 text = rw starts refl in
        omega (arith, three, ap length plain, ap length (begins_mark text starts), length-append mark (drop 3 text))
    by false none =
        let zero_long : mark_len text ≡ 0 = rw none refl in
        let plain : after_mark text ≡ text = rw none refl in
        omega (arith, zero_long, ap length plain)

begins_within : (form : Declaration → Bool) (text : List ℕ) (to : ℕ) → BeginsBody form text to → to ≤ length text
begins_within form text to is = by is.takes
  where
    by : TakesDeclared form (after_mark text) is.len → to ≤ length text
    by (inl (d, size)) = omega (arith, is.to_is, size, ap length d.stands, length-append d.spelled d.rest, mark_within text)
    by (inr (none, zero_long)) = omega (arith, is.to_is, zero_long, mark_within text)

-- ---- a file in a role

ill_as : (r : MarkupRole) (text : List ℕ) (n : ℕ) → IsIllFormed (IsBody (body_for r)) text n → IsIllFormed (front.IsBody (markup_role_of r)) text n
ill_as markup.Document text n is = is
ill_as markup.Entity text n is = is

ill_from : (r : MarkupRole) (text : List ℕ) (n : ℕ) → IsIllFormed (front.IsBody (markup_role_of r)) text n → IsIllFormed (IsBody (body_for r)) text n
ill_from markup.Document text n is = is
ill_from markup.Entity text n is = is

deep_as : (r : MarkupRole) (text : List ℕ) → IsTooDeep (IsBody (body_for r)) text → IsTooDeep (front.IsBody (markup_role_of r)) text
deep_as markup.Document text is = is
deep_as markup.Entity text is = is

deep_from : (r : MarkupRole) (text : List ℕ) → IsTooDeep (front.IsBody (markup_role_of r)) text → IsTooDeep (IsBody (body_for r)) text
deep_from markup.Document text is = is
deep_from markup.Entity text is = is

ill_behind : (r : MarkupRole) (text : List ℕ) (at : ℕ) → IsBehindFront r text (not_well_formed at) → IsIllFormedBehind (markup_role_of r) text at
ill_behind r text at is =
    let (n, at_is, ill) = ill_forth (body_for r) text is.to at is.fault in
    record { to = is.to; body = is.body; n = n; at_is = at_is; fault = ill_as r (drop is.to text) n ill }

deep_behind : (r : MarkupRole) (text : List ℕ) → IsBehindFront r text too_deep → IsTooDeepBehind (markup_role_of r) text
deep_behind r text is =
    record { to = is.to; body = is.body; fault = deep_as r (drop is.to text) (deep_forth (body_for r) text is.to is.fault) }

behind_ill : (r : MarkupRole) (text : List ℕ) (at : ℕ) → IsIllFormedBehind (markup_role_of r) text at → IsBehindFront r text (not_well_formed at)
behind_ill r text at is =
    record { to = is.to; body = is.body; fault = ill_back (body_for r) text is.to at is.n (begins_within (form_of r) text is.to is.body.begins) is.at_is (ill_from r (drop is.to text) is.n is.fault) }

behind_deep : (r : MarkupRole) (text : List ℕ) → IsTooDeepBehind (markup_role_of r) text → IsBehindFront r text too_deep
behind_deep r text is =
    record { to = is.to; body = is.body; fault = deep_back (body_for r) text is.to (begins_within (form_of r) text is.to is.body.begins) (deep_from r (drop is.to text) is.fault) }

-- a fault of the steps is the first one
text_first : (r : FileRole) (text : List ℕ) (f : ReadingFault) → IsUtf8 text → IsTextFault r text f → IsFirstFault (role_of r) text f
text_first file.Document text (not_utf8 at) utf8 is = absurd is
text_first file.Document text encoding utf8 is = (utf8, is)
text_first file.Document text (not_well_formed at) utf8 is = (utf8, ill_behind markup.Document text at is)
text_first file.Document text too_deep utf8 is = (utf8, deep_behind markup.Document text is)
text_first file.Entity text (not_utf8 at) utf8 is = absurd is
text_first file.Entity text encoding utf8 is = (utf8, is)
text_first file.Entity text (not_well_formed at) utf8 is = (utf8, ill_behind markup.Entity text at is)
text_first file.Entity text too_deep utf8 is = (utf8, deep_behind markup.Entity text is)
text_first file.Text text (not_utf8 at) utf8 is = absurd is
text_first file.Text text encoding utf8 is = absurd is
text_first file.Text text (not_well_formed at) utf8 is = (utf8, is)
text_first file.Text text too_deep utf8 is = absurd is

pub first_of : (r : FileRole) (bytes : List ℕ) (f : ReadingFault) → IsFaultOf r bytes f → IsFirstFault (role_of r) bytes f
first_of r bytes (not_utf8 at) is = is
first_of r bytes encoding is = text_first r bytes encoding is.0 is.1
first_of r bytes (not_well_formed at) is = text_first r bytes (not_well_formed at) is.0 is.1
first_of r bytes too_deep is = text_first r bytes too_deep is.0 is.1

-- .. and the first one is a fault of the steps
of_first : (r : FileRole) (bytes : List ℕ) (f : ReadingFault) → IsFirstFault (role_of r) bytes f → IsFaultOf r bytes f
of_first r bytes (not_utf8 at) is = is
of_first file.Document bytes encoding is = is
of_first file.Entity bytes encoding is = is
of_first file.Text bytes encoding is = absurd (let wrong : false ≡ true = is.1.0.has_form in cc)
of_first file.Document bytes (not_well_formed at) is = (is.0, behind_ill markup.Document bytes at is.1)
of_first file.Entity bytes (not_well_formed at) is = (is.0, behind_ill markup.Entity bytes at is.1)
of_first file.Text bytes (not_well_formed at) is = is
of_first file.Document bytes too_deep is = (is.0, behind_deep markup.Document bytes is.1)
of_first file.Entity bytes too_deep is = (is.0, behind_deep markup.Entity bytes is.1)
of_first file.Text bytes too_deep is = absurd is.1

-- ---- what is content alone

-- the bytes aren't UTF-8, or the body has the fault
abbrev IsFragmentFault : List ℕ → ReadingFault → Type 0
IsFragmentFault bytes f = ((m : ℕ) × (f ≡ not_utf8 m) × (¬ IsUtf8 bytes) × IsValidUpTo bytes m) ⊎ (IsUtf8 bytes × IsBodyFault content_body bytes 0 f)

fragment_fault : (bytes : List ℕ) (f : ReadingFault) → IsFirstFault fragment bytes f → IsFragmentFault bytes f
fragment_fault bytes (not_utf8 at) is = inl (at, refl, is.0, is.1)
fragment_fault bytes encoding is = absurd (let wrong : false ≡ true = is.1.0.has_form in cc)
fragment_fault bytes (not_well_formed at) is = inr (is.0, ill_back content_body bytes 0 at at (omega arith) (omega arith) is.1)
fragment_fault bytes too_deep is = inr (is.0, deep_back content_body bytes 0 (omega arith) is.1)

no_fragment_fault : (bytes : List ℕ) (items : Items) (f : ReadingFault) → IsReading fragment bytes items → IsFragmentFault bytes f → ⊥
no_fragment_fault bytes items f reads (inl (m, is, wrong, valid)) = wrong reads.utf8
no_fragment_fault bytes items f reads (inr (utf8, is)) = no_items content_body bytes 0 f items is (body_is_read content_body bytes items reads.ordered reads.joined)

one_fragment_fault : (bytes : List ℕ) (a b : ReadingFault) → IsFragmentFault bytes a → IsFragmentFault bytes b → a ≡ b
one_fragment_fault bytes a b (inl (m, is, wrong, valid)) (inl (n, also, bad, same)) = is ∙ ap not_utf8 (sym (utf8_valid_len-IsValidUpTo bytes m valid) ∙ utf8_valid_len-IsValidUpTo bytes n same) ∙ sym also
one_fragment_fault bytes a b (inl (m, is, wrong, valid)) (inr (utf8, other)) = absurd (wrong utf8)
one_fragment_fault bytes a b (inr (utf8, other)) (inl (m, is, wrong, valid)) = absurd (wrong utf8)
one_fragment_fault bytes a b (inr (utf8, x)) (inr (same, y)) = one_body_fault content_body bytes 0 a b x y

some_fragment_fault : (bytes : List ℕ) (f : ReadingFault) → IsUtf8 bytes → IsBodyFault content_body bytes 0 f → (f : ReadingFault) × IsFirstFault fragment bytes f
some_fragment_fault bytes (not_utf8 at) utf8 is = absurd is.halts
some_fragment_fault bytes encoding utf8 is = absurd is.halts
some_fragment_fault bytes (not_well_formed at) utf8 is =
    let (n, at_is, ill) = ill_forth content_body bytes 0 at is in
    let same : n ≡ at = omega (arith, at_is) in
    (not_well_formed at, (utf8, subst (IsIllFormed (IsBody content_body) bytes) same ill))
some_fragment_fault bytes too_deep utf8 is = (too_deep, (utf8, deep_forth content_body bytes 0 is))

fragment_or_fault : (bytes : List ℕ) → ((items : Items) × IsReading fragment bytes items) ⊎ ((f : ReadingFault) × IsFirstFault fragment bytes f)
fragment_or_fault bytes = elim (valid_up_to bytes) [
  | inr wrong ↦ inr (not_utf8 wrong.1, (wrong.0, wrong.2))
  | inl utf8 ↦ elim (some_body content_body bytes 0 (omega arith) utf8) [
    | inl read ↦ let main = read_is_body content_body bytes read.0 read.1 in inl (read.0, record { utf8 = utf8; joined = main.1; ordered = main.0 })
    | inr fault ↦ inr (some_fragment_fault bytes fault.0 utf8 fault.1)
  ]
]

-- ---- in each role

file_or_fault : (r : FileRole) (bytes : List ℕ) → ((items : Items) × IsReading (role_of r) bytes items) ⊎ ((f : ReadingFault) × IsFirstFault (role_of r) bytes f)
file_or_fault r bytes = elim (reads_or_faults r bytes) [
  | inl read ↦ inl read
  | inr fault ↦ inr (fault.0, first_of r bytes fault.0 fault.1)
]

pub a_reading_or_a_fault : (role : Role) (bytes : List ℕ) → ((items : Items) × IsReading role bytes items) ⊎ ((fault : ReadingFault) × IsFirstFault role bytes fault)
a_reading_or_a_fault document bytes = file_or_fault file.Document bytes
a_reading_or_a_fault entity bytes = file_or_fault file.Entity bytes
a_reading_or_a_fault fragment bytes = fragment_or_fault bytes
a_reading_or_a_fault plain_text bytes = file_or_fault file.Text bytes

no_file_fault : (r : FileRole) (bytes : List ℕ) (items : Items) (f : ReadingFault) → IsReading (role_of r) bytes items → IsFirstFault (role_of r) bytes f → ⊥
no_file_fault r bytes items f reads is = no_fault r bytes items f reads (of_first r bytes f is)

pub no_first_fault : (role : Role) (bytes : List ℕ) (items : Items) (fault : ReadingFault) → IsReading role bytes items → IsFirstFault role bytes fault → ⊥
no_first_fault document bytes items f reads is = no_file_fault file.Document bytes items f reads is
no_first_fault entity bytes items f reads is = no_file_fault file.Entity bytes items f reads is
no_first_fault fragment bytes items f reads is = no_fragment_fault bytes items f reads (fragment_fault bytes f is)
no_first_fault plain_text bytes items f reads is = no_file_fault file.Text bytes items f reads is

one_file_fault : (r : FileRole) (bytes : List ℕ) (a b : ReadingFault) → IsFirstFault (role_of r) bytes a → IsFirstFault (role_of r) bytes b → a ≡ b
one_file_fault r bytes a b x y = one_fault r bytes a b (of_first r bytes a x) (of_first r bytes b y)

pub one_first_fault : (role : Role) (bytes : List ℕ) (a b : ReadingFault) → IsFirstFault role bytes a → IsFirstFault role bytes b → a ≡ b
one_first_fault document bytes a b x y = one_file_fault file.Document bytes a b x y
one_first_fault entity bytes a b x y = one_file_fault file.Entity bytes a b x y
one_first_fault fragment bytes a b x y = one_fragment_fault bytes a b (fragment_fault bytes a x) (fragment_fault bytes b y)
one_first_fault plain_text bytes a b x y = one_file_fault file.Text bytes a b x y

pub one_reading : (role : Role) (bytes : List ℕ) (a b : Items) → IsReading role bytes a → IsReading role bytes b → a ≡ b
one_reading document bytes a b x y = one_tree bytes a b x y
one_reading entity bytes a b x y = one_entity bytes a b x y
one_reading fragment bytes a b x y = one_list content_body bytes a b (body_is_read content_body bytes a x.ordered x.joined) (body_is_read content_body bytes b y.ordered y.joined)
one_reading plain_text bytes a b x y = one_text bytes a b x y
