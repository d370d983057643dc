-- A file that has a reading has no fault, and any other has one fault at most.
use Rattle.std.proofs.Common.{◌≡◌, ◌∙◌, ◌≤◌, List, ℕ, length, drop, refl, sym, ap, subst, arith, inl, inr, Some, None, true, false}
use Rattle.std.proofs.lemmas.List.{length-drop}
use Rattle.std.proofs.lemmas.Str.{utf8_valid_len-IsValidUpTo}
use Rattle.xt_spec.specs.Tree.{Items, source_text}
use Rattle.xt_spec.specs.Reading.{plain_text, IsReading, IsOrdered}
use Rattle.xt_read.specs.Front.{body_for, role_of, markup_role_of}
use Rattle.xt_read.specs.Run.{Body, Tok, tok_text, IsToken, State, begin, is_too_deep, step, Passes, here, past}
use Rattle.xt_read.specs.Faults.{IsTooDeep, IsHalt, IsHaltAt, IsBodyFault, IsBehindFront, IsMarkupFault, IsPlainFault, IsTextFault, IsFaultOf}
use Rattle.xt_read.specs.declared.front.FileRole.{FileRole}
use Rattle.xt_read.specs.declared.front.FileRole.TheVariants as file
use Rattle.xt_read.specs.declared.front.MarkupRole.{MarkupRole}
use Rattle.xt_read.specs.declared.front.MarkupRole.TheVariants as markup
use Rattle.xt_spec.specs.FirstFault.{ReadingFault, not_utf8, encoding, not_well_formed, too_deep}
use Rattle.xt_read.proofs.Complete.{body_is_read}
use Rattle.xt_read.proofs.Fronts.{no_foreign, one_begin, joins_body}
use Rattle.xt_read.proofs.PlainTexts.{no_first_no_char, one_first_no_char}
use Rattle.xt_read.proofs.Runs.{no_items, some_same, no_token_of_nil, too_deep_none}
use Rattle.xt_read.proofs.Tokens.{token_unique}

-- a text with items has no fault behind its front
none_behind : (r : MarkupRole) (text : List ℕ) (items : Items) (fault : ReadingFault) → IsOrdered (markup_role_of r) items → source_text items ≡ text → IsBehindFront r text fault → ⊥
none_behind r text items fault ordered joined is =
    let (list, same, main, rest) = (joins_body r text is.to is.body).only items ordered joined in
    no_items (body_for r) text is.to fault list is.fault (body_is_read (body_for r) (drop is.to text) list main rest)

no_markup_fault : (r : MarkupRole) (text : List ℕ) (items : Items) (fault : ReadingFault) → IsOrdered (markup_role_of r) items → source_text items ≡ text → IsMarkupFault r text fault → ⊥
no_markup_fault r text items (not_utf8 at) ordered joined fault = absurd fault
no_markup_fault r text items encoding ordered joined fault = absurd (no_foreign r text items ordered joined fault)
no_markup_fault r text items (not_well_formed at) ordered joined fault = absurd (none_behind r text items (not_well_formed at) ordered joined fault)
no_markup_fault r text items too_deep ordered joined fault = absurd (none_behind r text items too_deep ordered joined fault)

no_plain_fault : (text : List ℕ) (items : Items) (fault : ReadingFault) → IsOrdered plain_text items → source_text items ≡ text → IsPlainFault text fault → ⊥
no_plain_fault text items (not_utf8 at) ordered joined fault = absurd fault
no_plain_fault text items encoding ordered joined fault = absurd fault
no_plain_fault text items (not_well_formed at) ordered joined fault = absurd (no_first_no_char text items at ordered joined fault)
no_plain_fault text items too_deep ordered joined fault = absurd fault

no_text_fault : (r : FileRole) (text : List ℕ) (items : Items) (fault : ReadingFault) → IsOrdered (role_of r) items → source_text items ≡ text → IsTextFault r text fault → ⊥
no_text_fault file.Document text items fault ordered joined is = no_markup_fault markup.Document text items fault ordered joined is
no_text_fault file.Entity text items fault ordered joined is = no_markup_fault markup.Entity text items fault ordered joined is
no_text_fault file.Text text items fault ordered joined is = no_plain_fault text items fault ordered joined is

pub no_fault : (r : FileRole) (bytes : List ℕ) (items : Items) (fault : ReadingFault) → IsReading (role_of r) bytes items → IsFaultOf r bytes fault → ⊥
no_fault r bytes items (not_utf8 at) is fault = absurd (fault.0 is.utf8)
no_fault r bytes items encoding is fault = no_text_fault r bytes items encoding is.ordered is.joined fault.1
no_fault r bytes items (not_well_formed at) is fault = no_text_fault r bytes items (not_well_formed at) is.ordered is.joined fault.1
no_fault r bytes items too_deep is fault = no_text_fault r bytes items too_deep is.ordered is.joined fault.1

-- ---- one fault

-- no token of the text is read on from here
abbrev Stops : State → List ℕ → Type 0
Stops s text = (t : State) (tok : Tok) → IsToken tok text → step s tok ≡ Some t → ⊥

misplaced_stops : (s : State) (text : List ℕ) (tok : Tok) → IsToken tok text → step s tok ≡ None → Stops s text
misplaced_stops s text tok is none t other found steps =
    let same : other ≡ tok = token_unique other tok text found is in
    let e : step s tok ≡ Some t = subst (λ (k : Tok). step s k ≡ Some t) same steps in cc

halt_stops : (s : State) (text : List ℕ) → IsHalt s text → Stops s text
halt_stops s text (inl (some, none)) t tok is steps = none is.kind (length (tok_text tok)) is.longest.front
halt_stops s text (inr (inl misplaced)) t tok is steps = misplaced_stops s text misplaced.tok misplaced.is misplaced.none t tok is steps
halt_stops s text (inr (inr (end, never))) t tok is steps = no_token_of_nil tok (subst (λ (x : List ℕ). IsToken tok x) end is)

fault_stops : (text : List ℕ) (at : ℕ) (s : State) (fault : ReadingFault) → IsHaltAt text at s fault → Stops s (drop at text)
fault_stops text at s (not_well_formed place) is = halt_stops s (drop at text) is.1
fault_stops text at s too_deep is = misplaced_stops s (drop at text) is.tok is.is (too_deep_none s is.tok is.level)
fault_stops text at s (not_utf8 place) is = absurd is
fault_stops text at s encoding is = absurd is

-- a text is read to one place where it is read no further
one_stop : (s u v : State) (text rest more : List ℕ) → Passes s text u rest → Passes s text v more → Stops u rest → Stops v more → (u ≡ v) × (rest ≡ more)
one_stop s u v text rest more (here s' text') (here t' other') first second = (refl, refl)
one_stop s u v text rest more (here s' text') (past s'' t v' text'' more' tok is steps others) first second = absurd (first t tok is steps)
one_stop s u v text rest more (past s' t u' text' rest' tok is steps others) (here s'' text'') first second = absurd (second t tok is steps)
one_stop s u v text rest more (past s' t u' text' rest' tok is steps others) (past s'' t' v' text'' more' tok' is' steps' others') first second =
    let same : tok' ≡ tok = token_unique tok' tok text is' is in
    let same_state : t' ≡ t = some_same (step s tok) t' t (subst (λ (k : Tok). step s k ≡ Some t') same steps') steps in
    let on : Passes t (drop (length (tok_text tok)) text) v more =
    subst (λ (w : State). Passes w (drop (length (tok_text tok)) text) v more) same_state (subst (λ (k : Tok). Passes t' (drop (length (tok_text k)) text) v more) same others') in
    one_stop t u v (drop (length (tok_text tok)) text) rest more others on first second

-- a halt is no tag at level 129
not_too_deep : (s : State) (text : List ℕ) → IsHalt s text → IsTooDeep s text → ⊥
not_too_deep s text (inl (some, none)) deep = none deep.is.kind (length (tok_text deep.tok)) deep.is.longest.front
not_too_deep s text (inr (inl is)) deep =
    let same : deep.tok ≡ is.tok = token_unique deep.tok is.tok text deep.is is.is in
    let e : is_too_deep s is.tok ≡ true = subst (λ (k : Tok). is_too_deep s k ≡ true) same deep.level in
    let h : true ≡ false = sym e ∙ is.level in cc
not_too_deep s text (inr (inr (end, never))) deep = no_token_of_nil deep.tok (subst (λ (x : List ℕ). IsToken deep.tok x) end deep.is)

-- two faults of one place are one
one_at : (text : List ℕ) (at : ℕ) (s : State) (a b : ReadingFault) → IsHaltAt text at s a → IsHaltAt text at s b → a ≡ b
one_at text at s (not_well_formed m) (not_well_formed n) x y = ap not_well_formed (x.0 ∙ sym y.0)
one_at text at s (not_well_formed m) too_deep x y = absurd (not_too_deep s (drop at text) x.1 y)
one_at text at s too_deep (not_well_formed n) x y = absurd (not_too_deep s (drop at text) y.1 x)
one_at text at s too_deep too_deep x y = refl
one_at text at s (not_utf8 m) b x y = absurd x
one_at text at s encoding b x y = absurd x
one_at text at s (not_well_formed m) (not_utf8 n) x y = absurd y
one_at text at s (not_well_formed m) encoding x y = absurd y
one_at text at s too_deep (not_utf8 n) x y = absurd y
one_at text at s too_deep encoding x y = absurd y

one_place : (text : List ℕ) (m n : ℕ) → m ≤ length text → n ≤ length text → drop m text ≡ drop n text → m ≡ n
one_place text m n first second same = omega (arith, first, second, sym (length-drop m text) ∙ ap length same ∙ length-drop n text)

pub one_body_fault : (body : Body) (text : List ℕ) (from : ℕ) (a b : ReadingFault) → IsBodyFault body text from a → IsBodyFault body text from b → a ≡ b
one_body_fault body text from a b x y =
    let stop = one_stop (begin body) x.state y.state (drop from text) (drop x.at text) (drop y.at text) x.passes y.passes (fault_stops text x.at x.state a x.halts) (fault_stops text y.at y.state b y.halts) in
    let at : x.at ≡ y.at = one_place text x.at y.at x.within y.within stop.1 in
    one_at text y.at y.state a b (subst (λ (n : ℕ). IsHaltAt text n y.state a) at (subst (λ (s : State). IsHaltAt text x.at s a) stop.0 x.halts)) y.halts

one_behind : (r : MarkupRole) (text : List ℕ) (a b : ReadingFault) → IsBehindFront r text a → IsBehindFront r text b → a ≡ b
one_behind r text a b x y =
    let to : x.to ≡ y.to = one_begin r text x.to y.to x.body.begins y.body.begins in
    one_body_fault (body_for r) text y.to a b (subst (λ (n : ℕ). IsBodyFault (body_for r) text n a) to x.fault) y.fault

one_markup_fault : (r : MarkupRole) (text : List ℕ) (a b : ReadingFault) → IsMarkupFault r text a → IsMarkupFault r text b → a ≡ b
one_markup_fault r text (not_utf8 m) b x y = absurd x
one_markup_fault r text encoding (not_utf8 n) x y = absurd y
one_markup_fault r text encoding encoding x y = refl
one_markup_fault r text encoding (not_well_formed n) x y = absurd (y.body.known x)
one_markup_fault r text encoding too_deep x y = absurd (y.body.known x)
one_markup_fault r text (not_well_formed m) (not_utf8 n) x y = absurd y
one_markup_fault r text (not_well_formed m) encoding x y = absurd (x.body.known y)
one_markup_fault r text (not_well_formed m) (not_well_formed n) x y = one_behind r text (not_well_formed m) (not_well_formed n) x y
one_markup_fault r text (not_well_formed m) too_deep x y = one_behind r text (not_well_formed m) too_deep x y
one_markup_fault r text too_deep (not_utf8 n) x y = absurd y
one_markup_fault r text too_deep encoding x y = absurd (x.body.known y)
one_markup_fault r text too_deep (not_well_formed n) x y = one_behind r text too_deep (not_well_formed n) x y
one_markup_fault r text too_deep too_deep x y = refl

one_plain_fault : (text : List ℕ) (a b : ReadingFault) → IsPlainFault text a → IsPlainFault text b → a ≡ b
one_plain_fault text (not_utf8 m) b x y = absurd x
one_plain_fault text encoding b x y = absurd x
one_plain_fault text too_deep b x y = absurd x
one_plain_fault text (not_well_formed m) (not_utf8 n) x y = absurd y
one_plain_fault text (not_well_formed m) encoding x y = absurd y
one_plain_fault text (not_well_formed m) (not_well_formed n) x y = ap not_well_formed (one_first_no_char text m n x y)
one_plain_fault text (not_well_formed m) too_deep x y = absurd y

one_text_fault : (r : FileRole) (text : List ℕ) (a b : ReadingFault) → IsTextFault r text a → IsTextFault r text b → a ≡ b
one_text_fault file.Document text a b x y = one_markup_fault markup.Document text a b x y
one_text_fault file.Entity text a b x y = one_markup_fault markup.Entity text a b x y
one_text_fault file.Text text a b x y = one_plain_fault text a b x y

pub one_fault : (r : FileRole) (bytes : List ℕ) (a b : ReadingFault) → IsFaultOf r bytes a → IsFaultOf r bytes b → a ≡ b
one_fault r bytes (not_utf8 m) (not_utf8 n) x y = ap not_utf8 (sym (utf8_valid_len-IsValidUpTo bytes m x.1) ∙ utf8_valid_len-IsValidUpTo bytes n y.1)
one_fault r bytes (not_utf8 m) encoding x y = absurd (x.0 y.0)
one_fault r bytes (not_utf8 m) (not_well_formed n) x y = absurd (x.0 y.0)
one_fault r bytes (not_utf8 m) too_deep x y = absurd (x.0 y.0)
one_fault r bytes encoding (not_utf8 n) x y = absurd (y.0 x.0)
one_fault r bytes encoding encoding x y = one_text_fault r bytes encoding encoding x.1 y.1
one_fault r bytes encoding (not_well_formed n) x y = one_text_fault r bytes encoding (not_well_formed n) x.1 y.1
one_fault r bytes encoding too_deep x y = one_text_fault r bytes encoding too_deep x.1 y.1
one_fault r bytes (not_well_formed m) (not_utf8 n) x y = absurd (y.0 x.0)
one_fault r bytes (not_well_formed m) encoding x y = one_text_fault r bytes (not_well_formed m) encoding x.1 y.1
one_fault r bytes (not_well_formed m) (not_well_formed n) x y = one_text_fault r bytes (not_well_formed m) (not_well_formed n) x.1 y.1
one_fault r bytes (not_well_formed m) too_deep x y = one_text_fault r bytes (not_well_formed m) too_deep x.1 y.1
one_fault r bytes too_deep (not_utf8 n) x y = absurd (y.0 x.0)
one_fault r bytes too_deep encoding x y = one_text_fault r bytes too_deep encoding x.1 y.1
one_fault r bytes too_deep (not_well_formed n) x y = one_text_fault r bytes too_deep (not_well_formed n) x.1 y.1
one_fault r bytes too_deep too_deep x y = one_text_fault r bytes too_deep too_deep x.1 y.1
