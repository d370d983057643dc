-- Scripts: what is read is one, and what is one is read; each fault so.
use Rattle.std.proofs.Common.{◌≡◌, ℕ, ◌+◌, ◌<◌, ◌≤◌, false, ltb, List, [], ◌∷◌, ◌++◌, length, Option, Some, None, Result, Ok, Err, refl, sym, ap, subst, ◌∙◌, arith, inl, inr, ◌⊎◌, append_assoc, append-nil}
use Rattle.std.specs.Prelude.{IfOk, IfErr, IfSome}
use Rattle.std.proofs.lemmas.Bool.{cases_Bool, ltb-true, ltb-false, lt-ltb, le-ltb}
use Rattle.std.proofs.lemmas.List.{length-append}
use Rattle.xt_spec.specs.Limit.{most_commands, most_script_bytes}
use Rattle.bk_script.specs.Command.{Command}
use Rattle.bk_script.specs.Script.{IsLine, joined, AreRead, IsScript, IsReadTo, ScriptFault, too_long, bad_line, too_many, IsFaultOf}
use Rattle.bk_script.specs.Reading.{line_of, Outcome, added, and_then, ended_line_at, lines_of, lines_read, script_read, Fails, Answers}
use Rattle.bk_script.specs.View.{script_fault}
use Rattle.bk_script.specs.declared.script.ScriptFault as code
use Rattle.bk_script.specs.declared.script.ScriptFault.TheVariants.{Long, BadLine, Many, NoMemory}
use Rattle.bk_script.proofs.Lines.{line_takes, line_again, split_takes, split_again, lines_step, lines_stop}

ok_is : (a b : List Command) → ◌≡◌ {A = Outcome} (Ok a) (Ok b) → a ≡ b
ok_is a b e = cc

err_is : (a b : ScriptFault) → ◌≡◌ {A = Outcome} (Err a) (Err b) → a ≡ b
err_is a b e = cc

-- ---- one line

added_some : (o : Option (Option Command)) (n : ℕ) (front all : List Command) → added o n front ≡ Ok all → (found : Option Command) × (o ≡ Some found) × (all ≡ front ++ joined found []) × (length front ≤ most_commands → length all ≤ most_commands)
added_some None n front all e = absurd cc
added_some (Some None) n front all e =
    let same : front ≡ all = ok_is front all e in
    (None, refl, sym same ∙ sym (append-nil front), λ le. subst (λ (l : List Command). length l ≤ most_commands) same le)
added_some (Some (Some c)) n front all e =
    elim (cases_Bool (ltb (length front) most_commands)) [
      | inl lt ↦
          let same : front ++ c ∷ [] ≡ all = ok_is _ _ (rw lt at e) in
          let small : length front < most_commands = ltb-true _ _ lt in
          (Some c, refl, sym same, λ _. omega (arith, ap length same, length-append front (c ∷ []), small))
      | inr ge ↦ let none : ◌≡◌ {A = Outcome} (Err too_many) (Ok all) = rw ge at e in absurd cc
    ]

abbrev StopsFor : ScriptFault → Option (Option Command) → ℕ → List Command → Type 0
StopsFor too_long o n front = ⊥
StopsFor (bad_line number) o n front = (o ≡ None) × (number ≡ n)
StopsFor too_many o n front = ((c : Command) × (o ≡ Some (Some c))) × (most_commands ≤ length front)

added_err : (o : Option (Option Command)) (n : ℕ) (front : List Command) (e : ScriptFault) → added o n front ≡ Err e → StopsFor e o n front
added_err None n front e is =
    let same : bad_line n ≡ e = err_is _ _ is in
    subst (λ (d : ScriptFault). StopsFor d None n front) same (refl, refl)
added_err (Some None) n front e is = absurd cc
added_err (Some (Some c)) n front e is =
    elim (cases_Bool (ltb (length front) most_commands)) [
      | inl lt ↦ let none : ◌≡◌ {A = Outcome} (Ok (front ++ c ∷ [])) (Err e) = rw lt at is in absurd cc
      | inr ge ↦
          let same : too_many ≡ e = err_is _ _ (rw ge at is) in
          subst (λ (d : ScriptFault). StopsFor d (Some (Some c)) n front) same ((c, refl), ltb-false _ _ ge)
    ]

-- ---- lines that are read

regroup : (front : List Command) (found : Option Command) (others : List Command) → (front ++ joined found []) ++ others ≡ front ++ joined found others
regroup front None others = ap (λ (l : List Command). l ++ others) (append-nil front)
regroup front (Some c) others = append_assoc front (c ∷ []) others

record AreTaken (front : List Command) (lines : List (List ℕ)) (all : List Command) : Type 0 where
  pub own : List Command
  pub read : AreRead lines own
  pub whole : all ≡ front ++ own
  pub count : length front ≤ most_commands → length all ≤ most_commands

then_ok : (o : Outcome) (go : List Command → Outcome) (all : List Command) → and_then o go ≡ Ok all → (next : List Command) × (o ≡ Ok next) × (go next ≡ Ok all)
then_ok (Ok next) go all e = (next, refl, e)
then_ok (Err d) go all e = absurd cc

lines_take : (n : ℕ) (front : List Command) (lines : List (List ℕ)) (all : List Command) → lines_read n front lines ≡ Ok all → AreTaken front lines all
unfolding lines_read
lines_take n front [] all e =
    let same : front ≡ all = ok_is front all e in
    record { own = []; read = refl; whole = sym same ∙ sym (append-nil front); count = λ le. subst (λ (l : List Command). length l ≤ most_commands) same le }
lines_take n front (line ∷ lines) all e =
    let one = then_ok (added (line_of line) n front) (λ next. lines_read (n + 1) next lines) all e in
    let a = added_some (line_of line) n front one.0 one.1 in
    let rest = lines_take (n + 1) one.0 lines all one.2 in
    record {
      own = joined a.0 rest.own;
      read = (a.0, rest.own, line_takes line a.0 a.1, rest.read, refl);
      whole = rest.whole ∙ ap (λ (l : List Command). l ++ rest.own) a.2 ∙ regroup front a.0 rest.own;
      count = λ le. rest.count (a.3 le);
    }

-- a line that stops
record IsStopped (n : ℕ) (front : List Command) (lines : List (List ℕ)) (e : ScriptFault) : Type 0 where
  pub before : List (List ℕ)
  pub line : List ℕ
  pub behind : List (List ℕ)
  pub own : List Command
  pub whole : lines ≡ before ++ line ∷ behind
  pub read : AreRead before own
  pub count : length front ≤ most_commands → length (front ++ own) ≤ most_commands
  pub stops : StopsFor e (line_of line) (n + length before) (front ++ own)

then_err : (o : Outcome) (go : List Command → Outcome) (e : ScriptFault) → and_then o go ≡ Err e → (o ≡ Err e) ⊎ ((next : List Command) × (o ≡ Ok next) × (go next ≡ Err e))
then_err (Ok next) go e is = inr (next, refl, is)
then_err (Err d) go e is = inl is

stopped_here : (n : ℕ) (front : List Command) (line : List ℕ) (lines : List (List ℕ)) (e : ScriptFault) → added (line_of line) n front ≡ Err e → IsStopped n front (line ∷ lines) e
stopped_here n front line lines e is =
    let k : n ≡ n + 0 = omega arith in
    record {
      before = [];
      line = line;
      behind = lines;
      own = [];
      whole = refl;
      read = refl;
      count = λ le. subst (λ (l : List Command). length l ≤ most_commands) (sym (append-nil front)) le;
      stops = subst (λ (l : List Command). StopsFor e (line_of line) (n + 0) l) (sym (append-nil front)) (subst (λ (m : ℕ). StopsFor e (line_of line) m front) k (added_err (line_of line) n front e is));
    }

stopped_later : (n : ℕ) (front next : List Command) (line : List ℕ) (lines : List (List ℕ)) (e : ScriptFault) → added (line_of line) n front ≡ Ok next → IsStopped (n + 1) next lines e → IsStopped n front (line ∷ lines) e
stopped_later n front next line lines e is later =
    let a = added_some (line_of line) n front next is in
    let whole : next ++ later.own ≡ front ++ joined a.0 later.own = ap (λ (l : List Command). l ++ later.own) a.2 ∙ regroup front a.0 later.own in
    let k : n + 1 + length later.before ≡ n + length (line ∷ later.before) = omega arith in
    record {
      before = line ∷ later.before;
      line = later.line;
      behind = later.behind;
      own = joined a.0 later.own;
      whole = ap (λ (l : List (List ℕ)). line ∷ l) later.whole;
      read = (a.0, later.own, line_takes line a.0 a.1, later.read, refl);
      count = λ le. subst (λ (l : List Command). length l ≤ most_commands) whole (later.count (a.3 le));
      stops = subst (λ (l : List Command). StopsFor e (line_of later.line) (n + length (line ∷ later.before)) l) whole (subst (λ (m : ℕ). StopsFor e (line_of later.line) m (next ++ later.own)) k later.stops);
    }

lines_stop_for : (n : ℕ) (front : List Command) (lines : List (List ℕ)) (e : ScriptFault) → lines_read n front lines ≡ Err e → IsStopped n front lines e
unfolding lines_read
lines_stop_for n front [] e is = absurd cc
lines_stop_for n front (line ∷ lines) e is =
    elim (then_err (added (line_of line) n front) (λ next. lines_read (n + 1) next lines) e is) [
      | inl here ↦ stopped_here n front line lines e here
      | inr later ↦ stopped_later n front later.0 line lines e later.1 (lines_stop_for (n + 1) later.0 lines e later.2)
    ]

-- ---- lines that are read again

added_again : (found : Option Command) (n : ℕ) (front others : List Command) → length (front ++ joined found others) ≤ most_commands → added (Some found) n front ≡ Ok (front ++ joined found [])
added_again None n front others le = ap (λ (l : List Command). Ok l) (sym (append-nil front))
added_again (Some c) n front others le =
    let small : length front < most_commands = omega (arith, le, length-append front (c ∷ others)) in
    rw (lt-ltb _ _ small) refl

lines_front : (n : ℕ) (front : List Command) (before more : List (List ℕ)) (own : List Command) → AreRead before own → length (front ++ own) ≤ most_commands → lines_read n front (before ++ more) ≡ lines_read (n + length before) (front ++ own) more
unfolding lines_read
lines_front n front [] more own e le =
    let k : n ≡ n + 0 = omega arith in
    ap (λ (m : ℕ). lines_read m front more) k ∙ ap (λ (l : List Command). lines_read (n + 0) l more) (sym (ap (λ (o : List Command). front ++ o) e ∙ append-nil front))
lines_front n front (line ∷ before) more own (found, others, is, read, e) le =
    let whole : front ++ own ≡ front ++ joined found others = ap (λ (o : List Command). front ++ o) e in
    let fits : length (front ++ joined found others) ≤ most_commands = subst (λ (l : List Command). length l ≤ most_commands) whole le in
    let next = front ++ joined found [] in
    let first : added (line_of line) n front ≡ Ok next = ap (λ (o : Option (Option Command)). added o n front) (line_again line found is) ∙ added_again found n front others fits in
    let same : next ++ others ≡ front ++ own = regroup front found others ∙ sym whole in
    let rest = lines_front (n + 1) next before more others read (subst (λ (l : List Command). length l ≤ most_commands) (sym same) le) in
    let k : n + 1 + length before ≡ n + length (line ∷ before) = omega arith in
    rw first (rest ∙ ap (λ (m : ℕ). lines_read m (next ++ others) more) k ∙ ap (λ (l : List Command). lines_read (n + length (line ∷ before)) l more) same)

-- ---- scripts

size_by : (bytes : List ℕ) (o : Outcome) → script_read bytes ≡ o → ((most_script_bytes < length bytes) × (o ≡ Err too_long)) ⊎ ((length bytes ≤ most_script_bytes) × (lines_read 1 [] (lines_of bytes) ≡ o))
unfolding script_read
size_by bytes o e =
    elim (cases_Bool (ltb most_script_bytes (length bytes))) [
      | inl long ↦ inl (ltb-true _ _ long, sym (rw long at e))
      | inr short ↦ inr (ltb-false _ _ short, rw short at e)
    ]

pub script_takes : (bytes : List ℕ) (commands : List Command) → script_read bytes ≡ Ok commands → IsScript bytes commands
script_takes bytes commands e =
    elim (size_by bytes (Ok commands) e) [
      | inl long ↦ absurd cc
      | inr short ↦
          let t = lines_take 1 [] (lines_of bytes) commands short.1 in
          record { lines = lines_of bytes; split = split_takes bytes; read = subst (AreRead (lines_of bytes)) (sym t.whole) t.read; size = short.0; count = t.count (omega arith) }
    ]

fault_by : (bytes : List ℕ) (e : ScriptFault) → length bytes ≤ most_script_bytes → IsStopped 1 [] (lines_of bytes) e → IsFaultOf bytes e
fault_by bytes too_long size s = absurd s.stops
fault_by bytes (bad_line number) size s = (
  s.before,
  s.line,
  s.own,
  record { behind = s.behind; split = subst (Rattle.bk_script.specs.Script.IsSplit bytes) s.whole (split_takes bytes); read = s.read; size = size; count = s.count (omega arith) },
  (λ found is. let both : ◌≡◌ {A = Option (Option Command)} None (Some found) = sym s.stops.0 ∙ line_again s.line found is in absurd cc),
  omega (arith, s.stops.1),
)
fault_by bytes too_many size s = (
  s.before,
  s.line,
  s.own,
  record { behind = s.behind; split = subst (Rattle.bk_script.specs.Script.IsSplit bytes) s.whole (split_takes bytes); read = s.read; size = size; count = s.count (omega arith) },
  (let le = s.count (omega arith) in omega (arith, s.stops.1, le)),
  (s.stops.0.0, line_takes s.line (Some s.stops.0.0) s.stops.0.1),
)

pub fault_takes : (bytes : List ℕ) (e : ScriptFault) → script_read bytes ≡ Err e → IsFaultOf bytes e
fault_takes bytes e is =
    elim (size_by bytes (Err e) is) [
      | inl long ↦ subst (IsFaultOf bytes) (sym (err_is e too_long long.1)) long.0
      | inr short ↦ fault_by bytes e short.0 (lines_stop_for 1 [] (lines_of bytes) e short.1)
    ]

pub script_again : (bytes : List ℕ) (commands : List Command) → IsScript bytes commands → script_read bytes ≡ Ok commands
unfolding script_read lines_read
script_again bytes commands is =
    let read = lines_front 1 [] is.lines [] commands is.read is.count in
    let whole : lines_read 1 [] is.lines ≡ Ok commands = ap (lines_read 1 []) (sym (append-nil is.lines)) ∙ read in
    rw (le-ltb _ _ is.size, split_again bytes is.lines is.split) whole

none_by : (line : List ℕ) (o : Option (Option Command)) → line_of line ≡ o → ((found : Option Command) → IsLine line found → ⊥) → o ≡ None
none_by line None e none = refl
none_by line (Some found) e none = absurd (none found (line_takes line found e))

reached : (bytes : List ℕ) (before : List (List ℕ)) (line : List ℕ) (commands : List Command) (to : IsReadTo bytes before line commands) (e : ScriptFault) → added (line_of line) (1 + length before) commands ≡ Err e → script_read bytes ≡ Err e
unfolding script_read lines_read
reached bytes before line commands to e is =
    let front = lines_front 1 [] before (line ∷ to.behind) commands to.read to.count in
    let whole : lines_read 1 [] (before ++ line ∷ to.behind) ≡ Err e = front ∙ rw is refl in
    rw (le-ltb _ _ to.size, split_again bytes (before ++ line ∷ to.behind) to.split) whole

pub fault_again : (bytes : List ℕ) (e : ScriptFault) → IsFaultOf bytes e → script_read bytes ≡ Err e
unfolding script_read
fault_again bytes too_long is = rw (lt-ltb _ _ is) refl
fault_again bytes (bad_line number) (before, line, commands, to, none, e) =
    let k : 1 + length before ≡ number = omega (arith, e) in
    reached bytes before line commands to (bad_line number) (rw (none_by line (line_of line) refl none) (ap (λ (m : ℕ). Err (bad_line m)) k))
fault_again bytes too_many (before, line, commands, to, full, (c, is)) =
    let large : ltb (length commands) most_commands ≡ false = le-ltb _ _ (omega (arith, full)) in
    reached bytes before line commands to too_many (rw (line_again line (Some c) is, large) refl)

-- ---- a loop over lines

pub lines_more : (n : ℕ) (front next : List Command) (rest line after_it : List ℕ) (whole : Outcome) → ended_line_at rest ≡ Some (line, after_it) → added (line_of line) n front ≡ Ok next → lines_read n front (lines_of rest) ≡ whole → lines_read (n + 1) next (lines_of after_it) ≡ whole
unfolding lines_read
lines_more n front next rest line after_it whole e is so_far =
    let one : lines_read n front (line ∷ lines_of after_it) ≡ lines_read (n + 1) next (lines_of after_it) = rw is refl in
    sym one ∙ ap (lines_read n front) (sym (lines_step rest line after_it e)) ∙ so_far

pub lines_last : (n : ℕ) (front next : List Command) (rest : List ℕ) (whole : Outcome) → ended_line_at rest ≡ None → added (line_of rest) n front ≡ Ok next → lines_read n front (lines_of rest) ≡ whole → whole ≡ Ok next
unfolding lines_read
lines_last n front next rest whole e is so_far =
    let one : lines_read n front (rest ∷ []) ≡ Ok next = rw is refl in
    sym so_far ∙ ap (lines_read n front) (lines_stop rest e) ∙ one

fails_first : (n : ℕ) (front : List Command) (line : List ℕ) (lines : List (List ℕ)) (e : code.ScriptFault) → Fails e (added (line_of line) n front) → Fails e (lines_read n front (line ∷ lines))
unfolding lines_read
fails_first n front line lines Long is = rw is refl
fails_first n front line lines (BadLine number) is = rw is refl
fails_first n front line lines Many is = rw is refl
fails_first n front line lines NoMemory is = tt

pub lines_fail : (n : ℕ) (front : List Command) (rest line after_it : List ℕ) (whole : Outcome) (e : code.ScriptFault) → ended_line_at rest ≡ Some (line, after_it) → Fails e (added (line_of line) n front) → lines_read n front (lines_of rest) ≡ whole → Fails e whole
lines_fail n front rest line after_it whole e is fails so_far =
    subst (Fails e) (ap (lines_read n front) (sym (lines_step rest line after_it is)) ∙ so_far) (fails_first n front line (lines_of after_it) e fails)

pub last_fails : (n : ℕ) (front : List Command) (rest : List ℕ) (whole : Outcome) (e : code.ScriptFault) → ended_line_at rest ≡ None → Fails e (added (line_of rest) n front) → lines_read n front (lines_of rest) ≡ whole → Fails e whole
last_fails n front rest whole e is fails so_far =
    subst (Fails e) (ap (lines_read n front) (sym (lines_stop rest is)) ∙ so_far) (fails_first n front rest [] e fails)

-- ---- laws

pub one_reading : (bytes : List ℕ) (a b : List Command) → IsScript bytes a → IsScript bytes b → a ≡ b
one_reading bytes a b is_a is_b = ok_is a b (sym (script_again bytes a is_a) ∙ script_again bytes b is_b)

pub no_fault : (bytes : List ℕ) (a : List Command) (e : ScriptFault) → IsScript bytes a → IsFaultOf bytes e → ⊥
no_fault bytes a e is has = let both : ◌≡◌ {A = Outcome} (Ok a) (Err e) = sym (script_again bytes a is) ∙ fault_again bytes e has in absurd cc

pub one_fault : (bytes : List ℕ) (d e : ScriptFault) → IsFaultOf bytes d → IsFaultOf bytes e → d ≡ e
one_fault bytes d e has_d has_e = err_is d e (sym (fault_again bytes d has_d) ∙ fault_again bytes e has_e)

fails_takes : (bytes : List ℕ) (e : code.ScriptFault) → Fails e (script_read bytes) → IfSome (script_fault e) (IsFaultOf bytes)
fails_takes bytes Long is = fault_takes bytes too_long is
fails_takes bytes (BadLine number) is = fault_takes bytes (bad_line number) is
fails_takes bytes Many is = fault_takes bytes too_many is
fails_takes bytes NoMemory is = tt

out_only : (bytes : List ℕ) (a : List Command) (e : code.ScriptFault) → IsScript bytes a → IfSome (script_fault e) (IsFaultOf bytes) → e ≡ NoMemory
out_only bytes a Long is has = absurd (no_fault bytes a too_long is has)
out_only bytes a (BadLine number) is has = absurd (no_fault bytes a (bad_line number) is has)
out_only bytes a Many is has = absurd (no_fault bytes a too_many is has)
out_only bytes a NoMemory is has = refl

pub ok_by : {X : Type 0} (bytes : List ℕ) (view : X → List Command) (r : Result X code.ScriptFault) → Answers view r (script_read bytes) → IfOk r (λ v. IsScript bytes (view v))
ok_by bytes view (Ok v) is = script_takes bytes (view v) is
ok_by bytes view (Err e) is = tt

pub err_by : {X : Type 0} (bytes : List ℕ) (view : X → List Command) (r : Result X code.ScriptFault) → Answers view r (script_read bytes) → IfErr r (λ e. IfSome (script_fault e) (IsFaultOf bytes))
err_by bytes view (Ok v) is = tt
err_by bytes view (Err e) is = fails_takes bytes e is

pub only_by : {X : Type 0} (bytes : List ℕ) (view : X → List Command) (r : Result X code.ScriptFault) → Answers view r (script_read bytes) → IfErr r (λ e. (commands : List Command) → IsScript bytes commands → e ≡ NoMemory)
only_by bytes view (Ok v) is = tt
only_by bytes view (Err e) is = λ commands script. out_only bytes commands e script (fails_takes bytes e is)
