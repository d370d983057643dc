-- A text is read to one state at most: at each place one token stands.
use Rattle.std.proofs.Common.{◌≡◌, ◌≢◌, ◌∙◌, ℕ, ◌<◌, ◌≤◌, List, [], ◌∷◌, length, drop, refl, sym, ap, subst, Some, None, Option, Err, arith, ◌+◌, Bool, true, false, not, ◌&&◌, if◌then◌else◌, inl, inr, IfSome}
use Rattle.xt_spec.specs.Token.{NoFront}
use Rattle.std.proofs.lemmas.List.{drop-drop}
use Rattle.std.proofs.Math.ListN.{drop_of_length-le}
use Rattle.xt_spec.specs.Tree.{Items, items_of}
use Rattle.xt_lex.specs.declared.token.Token.{Token}
use Rattle.xt_spec.specs.FirstFault.{ReadingFault, not_utf8, encoding, not_well_formed, too_deep}
use Rattle.xt_read.specs.declared.unread.Halt.{Halt}
use Rattle.xt_read.specs.declared.unread.Halt.TheVariants as halt
use Rattle.xt_read.specs.declared.unread.Halt.TheVariants.{Misplaced}
use Rattle.xt_read.specs.Faults.{reading_fault, fault_at, IsHalt, IsHaltAt, IsBodyFault}
use Rattle.xt_read.specs.Run.{Body, Tok, start_tok, empty_tok, end_tok, piece_tok, tok_text, IsToken, State, begin, with_text, is_full, is_too_deep, Reads, step, IsWhole, IsRead, Passes, here, past}
use Rattle.xt_read.specs.Steps.{Takes}
use Rattle.xt_read.proofs.Tokens.{token_some, token_within, token_unique}

pub some_same : {A : Type 0} (o : Option A) (x y : A) → o ≡ Some x → o ≡ Some y → x ≡ y
some_same o x y p q = cc

pub no_token_of_nil : (tok : Tok) → IsToken tok [] → ⊥
no_token_of_nil tok is = omega (arith, token_some tok [] is, token_within tok [] is)

pub next_reads : (s t u : State) (text : List ℕ) (tok : Tok) → IsToken tok text → step s tok ≡ Some t → Reads s text u → Reads t (drop (length (tok_text tok)) text) u
next_reads s t u text tok found steps (here s' t0') = absurd (no_token_of_nil tok found)
next_reads s t u text tok found steps (past s' t' u' text' r0' tok' found' steps' rest) =
    let same : tok' ≡ tok = token_unique tok' tok text found' found in
    let same_state : t' ≡ t = some_same (step s tok) t' t (subst (λ (k : Tok). step s k ≡ Some t') same steps') steps in
    let R : State → Type 0 = λ v. Reads v (drop (length (tok_text tok)) text) u in
    subst R same_state (subst (λ (k : Tok). Reads t' (drop (length (tok_text k)) text) u) same rest)

pub no_token : (s u : State) (text : List ℕ) → 0 < length text → NoFront text → Reads s text u → ⊥
no_token s u text some none (here s' t0') = omega arith
no_token s u text some none (past s' t' u' text' r0' tok' found' steps' rest) = none found'.kind (length (tok_text tok')) found'.longest.front

pub no_step : (s u : State) (text : List ℕ) (tok : Tok) → IsToken tok text → step s tok ≡ None → Reads s text u → ⊥
no_step s u text tok found none (here s' t0') = no_token_of_nil tok found
no_step s u text tok found none (past s' t' u' text' r0' tok' found' steps' rest) =
    let same : tok' ≡ tok = token_unique tok' tok text found' found in
    let e : step s tok ≡ Some t' = subst (λ (k : Tok). step s k ≡ Some t') same steps' in
    cc

reads_none : (s u : State) → Reads s [] u → s ≡ u
reads_none s u (here s' t0') = refl
reads_none s u (past s' t' u' text' r0' tok' found' steps' rest) = absurd (no_token_of_nil tok' found')

-- The rest of a text is read to one state at most.
pub one_run : (s u v : State) (text : List ℕ) → Reads s text u → Reads s text v → u ≡ v
one_run s u v text (here s' t0') other = reads_none s v other
one_run s u v text (past s' t u' text' r0' tok found steps rest) other = one_run t u v (drop (length (tok_text tok)) text) rest (next_reads s t v text tok found steps other)

-- ---- a front of a text

pub passes_push : (s u v : State) (text rest : List ℕ) (tok : Tok) → IsToken tok rest → step u tok ≡ Some v → Passes s text u rest → Passes s text v (drop (length (tok_text tok)) rest)
passes_push s u v text rest tok is steps (here s' text') = past s v v text (drop (length (tok_text tok)) text) tok is steps (here v (drop (length (tok_text tok)) text))
passes_push s u v text rest tok is steps (past s' t' u' text' rest' tok' is' steps' others) =
    past s t' v text (drop (length (tok_text tok)) rest) tok' is' steps' (passes_push t' u v (drop (length (tok_text tok')) text) rest tok is steps others)

-- what reads the rest reads all
pub passes_reads : (s u v : State) (text rest : List ℕ) → Passes s text u rest → Reads u rest v → Reads s text v
passes_reads s u v text rest (here s' text') run = run
passes_reads s u v text rest (past s' t' u' text' rest' tok is steps others) run =
    past s t' v text [] tok is steps (passes_reads t' u v (drop (length (tok_text tok)) text) rest others run)

-- what reads all reads the rest
pub reads_rest : (s u v : State) (text rest : List ℕ) → Passes s text u rest → Reads s text v → Reads u rest v
reads_rest s u v text rest (here s' text') run = run
reads_rest s u v text rest (past s' t' u' text' rest' tok is steps others) run =
    reads_rest t' u v (drop (length (tok_text tok)) text) rest others (next_reads s t' v text tok is steps run)

-- a run goes on behind the token at a place
pub goes_on : (s u v : State) (text bytes : List ℕ) (at to : ℕ) (tok : Tok) → IsToken tok (drop at bytes) → to ≡ at + length (tok_text tok) → step u tok ≡ Some v → Passes s text u (drop at bytes) → Passes s text v (drop to bytes)
goes_on s u v text bytes at to tok is size steps passes =
    subst (λ (r : List ℕ). Passes s text v r) (drop-drop (length (tok_text tok)) at bytes ∙ ap (λ n. drop n bytes) (sym size)) (passes_push s u v text (drop at bytes) tok is steps passes)

pub ends_here : (s u : State) (text bytes : List ℕ) (at : ℕ) → length bytes ≤ at → Passes s text u (drop at bytes) → Passes s text u []
ends_here s u text bytes at size passes = subst (λ (r : List ℕ). Passes s text u r) (drop_of_length-le bytes size) passes

-- ---- a halt

some_bytes : (text : List ℕ) → text ≢ [] → 0 < length text
some_bytes [] some = absurd (some refl)
some_bytes (b ∷ bs) some = omega arith

-- a tag at level 129 may not stand
full_no_room : (full rest distinct : Bool) (t : State) → full ≡ true → (if (not full && rest) && distinct then Some t else None) ≡ None
full_no_room true rest distinct t is = refl
full_no_room false rest distinct t is = absurd (let h : false ≡ true = is in cc)

pub too_deep_none : (s : State) (tok : Tok) → is_too_deep s tok ≡ true → step s tok ≡ None
too_deep_none s (start_tok text name names) is = full_no_room (is_full s) _ _ _ is
too_deep_none s (empty_tok text names) is = full_no_room (is_full s) _ _ _ is
too_deep_none s (end_tok text name) is = absurd (let h : false ≡ true = is in cc)
too_deep_none s (piece_tok piece text) is = absurd (let h : false ≡ true = is in cc)

halted : (s u : State) (text : List ℕ) → IsHalt s text → Reads s text u → IsWhole u → ⊥
halted s u text (inl (some, none)) run whole = no_token s u text (some_bytes text some) none run
halted s u text (inr (inl is)) run whole = no_step s u text is.tok is.is is.none run
halted s u text (inr (inr (end, never))) run whole = never (subst IsWhole (sym (reads_none s u (subst (λ (t : List ℕ). Reads s t u) end run))) whole)

halted_at : (text : List ℕ) (at : ℕ) (s u : State) (fault : ReadingFault) → IsHaltAt text at s fault → Reads s (drop at text) u → IsWhole u → ⊥
halted_at text at s u (not_well_formed place) is run whole = halted s u (drop at text) is.1 run whole
halted_at text at s u too_deep is run whole = no_step s u (drop at text) is.tok is.is (too_deep_none s is.tok is.level) run
halted_at text at s u (not_utf8 place) is run whole = is
halted_at text at s u encoding is run whole = is

pub IfSome-weaker : {T : Type 0} (o : Option T) (P Q : T → Type 0) → ((x : T) → P x → Q x) → IfSome o P → IfSome o Q
IfSome-weaker None P Q weaker is = tt
IfSome-weaker (Some x) P Q weaker is = weaker x is

-- A body with a fault is read as no items.
pub no_items : (body : Body) (text : List ℕ) (from : ℕ) (fault : ReadingFault) (list : Items) → IsBodyFault body text from fault → IsRead body (drop from text) list → ⊥
no_items body text from fault list is read =
    halted_at text is.at is.state read.last fault is.halts (reads_rest (begin body) is.state read.last (drop from text) (drop is.at text) is.passes read.reads) read.whole

-- a token that may not stand is a halt at its place
pub stopped : (text : List ℕ) (at : ℕ) (token : Token) (s t : State) (h : Halt) → token.span.from ≡ at → Takes text token s (Err h) t → IfSome (reading_fault (fault_at h at)) (IsHaltAt text at s)
stopped text at token s t Misplaced from (tok, is, none, level) = (refl, inr (inl (record { tok = tok; is = subst (λ n. IsToken tok (drop n text)) from is.is; none = none; level = level })))
stopped text at token s t halt.TooDeep from (tok, is, level) = record { tok = tok; is = subst (λ n. IsToken tok (drop n text)) from is.is; level = level }
stopped text at token s t halt.NoMemory from takes = tt

-- a text that is read to a state in which something is left open is no body
pub not_whole : (body : Body) (text : List ℕ) (list : Items) (u : State) → Reads (begin body) text u → (IsWhole u → ⊥) → IsRead body text list → ⊥
not_whole body text list u run never is = never (subst IsWhole (sym (one_run (begin body) u is.last text run is.reads)) is.whole)

-- one reading at most
pub one_list : (body : Body) (text : List ℕ) (a b : Items) → IsRead body text a → IsRead body text b → a ≡ b
one_list body text a b x y = sym x.are ∙ ap (λ (s : State). items_of (with_text s.items s.text)) (one_run (begin body) x.last y.last text x.reads y.reads) ∙ y.are
