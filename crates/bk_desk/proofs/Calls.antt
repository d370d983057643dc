-- One more call of a desk in memory.
use Rattle.std.proofs.Common.{◌≡◌, ◌⊎◌, inl, inr, ⊎_elim, ℕ, ◌+◌, ◌≤◌, ◌<◌, List, [], ◌∷◌, ◌++◌, length, take, Bool, true, false, cond, Option, Result, Ok, Err, refl, sym, ◌∙◌, ap, subst, arith, length-append}
use Rattle.std.specs.Prelude.{OnOk, IfOk, IsOkAnd, IsErrOf, not, ◌&&◌}
use Rattle.std.proofs.lemmas.Bool.{cases_lt}
use Rattle.std.proofs.lemmas.List.{take_all, take_at, take-append-le, append-nil}
use Rattle.bk_desk.specs.declared.desk_name.DeskName.{DeskName}
use Rattle.bk_desk.specs.declared.desk.DeskErr.{DeskErr}
use Rattle.bk_desk.specs.declared.desk.DeskErr.TheVariants.{Failed, NoMemory}
use Rattle.bk_desk.specs.declared.log.Call.{Call}
use Rattle.bk_desk.specs.declared.log.Call.TheVariants.{Read, Put, Sync, Tell}
use Rattle.bk_desk.specs.declared.log.Entry.{Entry}
use Rattle.bk_desk.specs.Disk.{DiskState, CrashState, IsCrashState, WhileWriting, WhileTelling, TouchesOnly, Replaces, IsWrite, Syncs, NothingPending, Tells, TellsPrefix}
use Rattle.bk_desk.specs.CrashPoints.{Elapses}
use Rattle.bk_desk.specs.Cause.{HasCause, StaysFaultless}
use Rattle.bk_desk.specs.declared.mem_desk.MemDesk.{MemDesk}
use Rattle.bk_desk.specs.Mem.{mem_standing, mem_calls, mem_fails, mem_faults, mem_faultless, mem_was, is_listed, IsCounted}
use Rattle.bk_desk.specs.Calls.{after, opening, step, told_after, told_by, failures, is_done, WasCrashState}
use Rattle.bk_desk.proofs.Names.{same_name-own, same_name-other}

pub after-push : (standing : DiskState) (calls : List Call) (call : Call) → after standing (calls ++ call ∷ []) ≡ step (after standing calls) call
after-push standing [] call = refl
after-push standing (first ∷ calls) call = after-push (step standing first) calls call

failures-push : (calls : List Call) (call : Call) → failures (calls ++ call ∷ []) ≡ failures calls + cond (is_done call) 0 1
failures-push [] call = omega arith
failures-push (first ∷ calls) call = omega (arith, failures-push calls call)

pub told_by-push : (calls : List Call) (call : Call) (told : List ℕ) → told_by (calls ++ call ∷ []) told ≡ told_after call (told_by calls told)
told_by-push [] call told = refl
told_by-push (first ∷ calls) call told = told_by-push calls call (told_after first told)

pub after-told : (standing : DiskState) (calls : List Call) → (after standing calls).told ≡ told_by calls standing.told
after-told standing [] = refl
after-told standing (call ∷ calls) = after-told (step standing call) calls

-- what was told before a call is the front of what is told after it
pub told_before : (call : Call) (told : List ℕ) → take (length told) (told_after call told) ≡ told
told_before (Read done) told = take_all (length told) told (omega arith)
told_before (Put name file done) told = take_all (length told) told (omega arith)
told_before (Sync done) told = take_all (length told) told (omega arith)
told_before (Tell bytes true) told = take_at told bytes (length told) refl
told_before (Tell bytes false) told = take_all (length told) told (omega arith)

-- the call that was recorded
pub recorded : {E : Type 0} (found : Result Call E) (call : Call) (calls later : List Call) → IsOkAnd found (λ added. later ≡ calls ++ added ∷ []) → IfOk found (λ made. made ≡ call) → later ≡ calls ++ call ∷ []
recorded (Ok made) call calls later added is = added ∙ ap (λ (k : Call). calls ++ k ∷ []) is
recorded (Err e) call calls later added is = absurd added

-- ---- a call in time

-- time goes on by a call, which leaves a crash state within it
elapses : (entries : List Entry) (calls later : List Call) (call : Call) (within : CrashState → Type 0) → later ≡ calls ++ call ∷ []
    → ((crash : CrashState) → IsCrashState (step (after (opening entries) calls) call) crash → within crash)
    → Elapses (length calls) (length later) (WasCrashState entries calls) (WasCrashState entries later) within
elapses entries calls later call within is here = subst (λ (l : List Call). Elapses (length calls) (length l) (WasCrashState entries calls) (WasCrashState entries l) within) (sym is) record {
  later = omega (arith, length-append calls (call ∷ []));
  nothing_else = λ t crash le was. ⊎_elim (λ past. inl past) (λ now. inr (here crash now)) (split t crash was);
  keeps = λ t crash le was. record {
    count = was.count;
    since = was.since;
    until = omega (arith, was.until, length-append calls (call ∷ []));
    is = subst (λ (l : List Call). IsCrashState (after (opening entries) l) crash) (sym (take-append-le was.count calls (call ∷ []) was.until)) was.is;
  };
}
  where
    split : (t : ℕ) (crash : CrashState) → WasCrashState entries (calls ++ call ∷ []) t crash → WasCrashState entries calls t crash ⊎ IsCrashState (step (after (opening entries) calls) call) crash
    split t crash was = ⊎_elim
        (λ (gt : length calls < was.count). inr (subst (λ (s : DiskState). IsCrashState s crash) (after-push (opening entries) calls call) (subst (λ (l : List Call). IsCrashState (after (opening entries) l) crash) (take_all was.count (calls ++ call ∷ []) (omega (arith, gt, length-append calls (call ∷ [])))) was.is)))
        (λ (le : was.count ≤ length calls). inl record { count = was.count; since = was.since; until = le; is = subst (λ (l : List Call). IsCrashState (after (opening entries) l) crash) (take-append-le was.count calls (call ∷ []) le) was.is })
        (cases_lt (length calls) was.count)

-- ---- what a call leaves

touches : (standing : DiskState) (name : DeskName) (file : Option (List ℕ)) (done : Bool) → TouchesOnly name standing (step standing (Put name file done))
touches standing name file true = record {
  others = λ other apart. rw (same_name-other name other apart) refl;
  pending = rw (same_name-own name) refl;
  pending_others = λ other apart. rw (same_name-other name other apart) refl;
  told = refl;
}
touches standing name file false = record {
  others = λ other apart. refl;
  pending = rw (same_name-own name) refl;
  pending_others = λ other apart. rw (same_name-other name other apart) refl;
  told = refl;
}

replaces : (standing : DiskState) (name : DeskName) (file : Option (List ℕ)) → Replaces name file standing (step standing (Put name file true))
replaces standing name file = record { reads = rw (same_name-own name) refl; touches = touches standing name file true }

while_writing : (standing : DiskState) (name : DeskName) (file : Option (List ℕ)) (done : Bool) (crash : CrashState) → IsCrashState (step standing (Put name file done)) crash → WhileWriting name standing crash
while_writing standing name file done crash is =
    let t = touches standing name file done in
    record { others = λ other apart still. is.image other (t.pending_others other apart ∙ still) ∙ t.others other apart; told = is.told }

-- what a call that is recorded answers
abbrev pub answer : Bool → Result (Unit {0}) DeskErr
answer done = cond done (Ok tt) (Err Failed)

written : (standing : DiskState) (name : DeskName) (file : Option (List ℕ)) (done : Bool) → IsWrite name file standing (step standing (Put name file done)) (answer done)
written standing name file true = replaces standing name file
written standing name file false = touches standing name file false

sync_durable : (standing : DiskState) (done : Bool) → OnOk (answer done) (NothingPending (step standing (Sync done)))
sync_durable standing true = λ name. refl
sync_durable standing false = tt

sync_keeps : (done pending : Bool) → pending ≡ false → (not done && pending) ≡ false
sync_keeps true pending still = refl
sync_keeps false pending still = still

sync_same : (standing : DiskState) (done : Bool) → Syncs standing (step standing (Sync done))
sync_same standing done = record { files = refl; pending = λ name still. sync_keeps done (standing.pending name) still; told = refl }

while_syncing : (standing : DiskState) (done : Bool) (crash : CrashState) → IsCrashState (step standing (Sync done)) crash → IsCrashState standing crash
while_syncing standing done crash is = record { image = λ name still. is.image name (sync_keeps done (standing.pending name) still); told = is.told }

tell_told : (standing : DiskState) (bytes : List ℕ) (done : Bool) → OnOk (answer done) (Tells bytes standing (step standing (Tell bytes done)))
tell_told standing bytes true = record { files = refl; pending = refl; told = refl }
tell_told standing bytes false = tt

tell_prefix : (standing : DiskState) (bytes : List ℕ) (done : Bool) → TellsPrefix bytes standing (step standing (Tell bytes done))
tell_prefix standing bytes true = (length bytes, record { files = refl; pending = refl; told = ap (λ (l : List ℕ). standing.told ++ l) (sym (take_all (length bytes) bytes (omega arith))) })
tell_prefix standing bytes false = (0, record { files = refl; pending = refl; told = sym (append-nil standing.told) })

while_telling : (standing : DiskState) (bytes : List ℕ) (done : Bool) (crash : CrashState) → IsCrashState (step standing (Tell bytes done)) crash → WhileTelling bytes standing crash
while_telling standing bytes done crash is =
    let some = tell_prefix standing bytes done in
    record { image = is.image; told = (some.0, is.told ∙ some.1.told) }

-- ---- what a call that is recorded ensures

module _ (old new : MemDesk) (starts : new.log.start.items ≡ old.log.start.items) where
  abbrev IsAdded : Call → Type 0
  IsAdded call = new.log.calls.items ≡ old.log.calls.items ++ call ∷ []

  new_is : (call : Call) → IsAdded call → mem_standing new ≡ step (mem_standing old) call
  new_is call is = ap (λ (entries : List Entry). after (opening entries) new.log.calls.items) starts ∙ ap (after (opening old.log.start.items)) is ∙ after-push (opening old.log.start.items) old.log.calls.items call

  elapsed : (call : Call) (within : CrashState → Type 0) → IsAdded call → ((crash : CrashState) → IsCrashState (step (mem_standing old) call) crash → within crash) → Elapses (mem_calls old) (mem_calls new) (mem_was old) (mem_was new) within
  elapsed call within is here = subst (λ (entries : List Entry). Elapses (mem_calls old) (mem_calls new) (mem_was old) (WasCrashState entries new.log.calls.items) within) (sym starts) (elapses old.log.start.items old.log.calls.items new.log.calls.items call within is here)

  pub write_value : (name : DeskName) (file : Option (List ℕ)) (done : Bool) (result : Result (Unit {0}) DeskErr) → IsAdded (Put name file done) → result ≡ answer done → IsWrite name file (mem_standing old) (mem_standing new) result
  write_value name file done result is answered = subst (λ (r : Result (Unit {0}) DeskErr). IsWrite name file (mem_standing old) (mem_standing new) r) (sym answered) (subst (λ (s : DiskState). IsWrite name file (mem_standing old) s (answer done)) (sym (new_is (Put name file done) is)) (written (mem_standing old) name file done))

  pub write_crash : (name : DeskName) (file : Option (List ℕ)) (done : Bool) → IsAdded (Put name file done) → Elapses (mem_calls old) (mem_calls new) (mem_was old) (mem_was new) (WhileWriting name (mem_standing old))
  write_crash name file done is = elapsed (Put name file done) (WhileWriting name (mem_standing old)) is (λ crash at. while_writing (mem_standing old) name file done crash at)

  pub read_same : (done : Bool) → IsAdded (Read done) → mem_standing new ≡ mem_standing old
  read_same done is = new_is (Read done) is

  pub read_crash : (done : Bool) → IsAdded (Read done) → Elapses (mem_calls old) (mem_calls new) (mem_was old) (mem_was new) (IsCrashState (mem_standing old))
  read_crash done is = elapsed (Read done) (IsCrashState (mem_standing old)) is (λ crash at. at)

  pub sync_durable_after : (done : Bool) (result : Result (Unit {0}) DeskErr) → IsAdded (Sync done) → result ≡ answer done → OnOk result (NothingPending (mem_standing new))
  sync_durable_after done result is answered = subst (λ (r : Result (Unit {0}) DeskErr). OnOk r (NothingPending (mem_standing new))) (sym answered) (subst (λ (s : DiskState). OnOk (answer done) (NothingPending s)) (sym (new_is (Sync done) is)) (sync_durable (mem_standing old) done))

  pub sync_same_after : (done : Bool) → IsAdded (Sync done) → Syncs (mem_standing old) (mem_standing new)
  sync_same_after done is = subst (λ (s : DiskState). Syncs (mem_standing old) s) (sym (new_is (Sync done) is)) (sync_same (mem_standing old) done)

  pub sync_crash : (done : Bool) → IsAdded (Sync done) → Elapses (mem_calls old) (mem_calls new) (mem_was old) (mem_was new) (IsCrashState (mem_standing old))
  sync_crash done is = elapsed (Sync done) (IsCrashState (mem_standing old)) is (λ crash at. while_syncing (mem_standing old) done crash at)

  pub tell_output : (bytes : List ℕ) (done : Bool) (result : Result (Unit {0}) DeskErr) → IsAdded (Tell bytes done) → result ≡ answer done → OnOk result (Tells bytes (mem_standing old) (mem_standing new))
  tell_output bytes done result is answered = subst (λ (r : Result (Unit {0}) DeskErr). OnOk r (Tells bytes (mem_standing old) (mem_standing new))) (sym answered) (subst (λ (s : DiskState). OnOk (answer done) (Tells bytes (mem_standing old) s)) (sym (new_is (Tell bytes done) is)) (tell_told (mem_standing old) bytes done))

  pub tell_same : (bytes : List ℕ) (done : Bool) → IsAdded (Tell bytes done) → TellsPrefix bytes (mem_standing old) (mem_standing new)
  tell_same bytes done is = subst (λ (s : DiskState). TellsPrefix bytes (mem_standing old) s) (sym (new_is (Tell bytes done) is)) (tell_prefix (mem_standing old) bytes done)

  pub tell_crash : (bytes : List ℕ) (done : Bool) → IsAdded (Tell bytes done) → Elapses (mem_calls old) (mem_calls new) (mem_was old) (mem_was new) (WhileTelling bytes (mem_standing old))
  tell_crash bytes done is = elapsed (Tell bytes done) (WhileTelling bytes (mem_standing old)) is (λ crash at. while_telling (mem_standing old) bytes done crash at)

  counted : (call : Call) → IsAdded call → mem_faults new ≡ mem_faults old + cond (is_done call) 0 1
  counted call is = ap failures is ∙ failures-push old.log.calls.items call

  -- a call that is recorded failed only where it is one of those that did not do their work
  pub cause : (call : Call) (failed : Type 0) → IsAdded call → (failed → is_done call ≡ false) → HasCause (mem_faults old) (mem_faults new) failed
  cause call failed is not_done = record {
    later = omega (arith, counted call is);
    rose = λ f.
        let one : mem_faults new ≡ mem_faults old + 1 = counted call is ∙ ap (λ (b : Bool). mem_faults old + cond b 0 1) (not_done f) in
        omega (arith, one);
  }

  pub answered_cause : (call : Call) (result : Result (Unit {0}) DeskErr) → IsAdded call → result ≡ answer (is_done call) → HasCause (mem_faults old) (mem_faults new) (IsErrOf result Failed)
  answered_cause call result is answered = cause call (IsErrOf result Failed) is (λ failed. by (is_done call) (sym answered ∙ failed))
    where
      by : (b : Bool) → answer b ≡ Err Failed → b ≡ false
      by true e = absurd cc
      by false e = refl

  -- a call that is recorded fails exactly where its number is listed
  pub counted_call : (call : Call) (done : Bool) (result : Result (Unit {0}) DeskErr) → IsAdded call → is_done call ≡ done → new.fails.items ≡ old.fails.items → done ≡ not (is_listed (mem_fails old) (mem_calls old + 1)) → result ≡ answer done → IsCounted old new result
  counted_call call done result is is_done_is fails number answered = subst (λ (r : Result (Unit {0}) DeskErr). IsCounted old new r) (sym answered) (by done is_done_is number)
    where
      one : mem_calls new ≡ mem_calls old + 1
      one = ap length is ∙ length-append old.log.calls.items (call ∷ [])

      listed : (b listed : Bool) → b ≡ not listed → listed ≡ not b
      listed true true e = absurd cc
      listed true false e = refl
      listed false true e = refl
      listed false false e = absurd cc

      by : (b : Bool) → is_done call ≡ b → b ≡ not (is_listed (mem_fails old) (mem_calls old + 1)) → IsCounted old new (answer b)
      by true e n = record {
        calls = one;
        faults = counted call is ∙ ap (λ (b : Bool). mem_faults old + cond b 0 1) e;
        number = listed true _ n;
        fails = fails;
      }
      by false e n = record {
        calls = one;
        faults = counted call is ∙ ap (λ (b : Bool). mem_faults old + cond b 0 1) e;
        number = listed false _ n;
        fails = fails;
      }

-- a call that is counted fails no desk on which no later call was to fail
pub counted_faultless : {T : Type 0} (old new : MemDesk) (result : Result T DeskErr) → IsCounted old new result → StaysFaultless mem_faultless mem_faults old new
counted_faultless old new (Ok x) is sound = (
  λ number later. ap (λ (l : List ℕ). is_listed l number) is.fails ∙ sound number (omega (arith, later, is.calls)),
  omega (arith, is.faults),
)
counted_faultless old new (Err Failed) is sound =
    let clash : true ≡ false = sym is.number ∙ sound (mem_calls old + 1) (omega arith) in
    absurd cc
counted_faultless old new (Err NoMemory) is sound = (
  λ number later. ap (λ (l : List ℕ). is_listed l number) is.fails ∙ sound number (omega (arith, later, is.calls)),
  is.faults,
)
