-- How many steps commands take.
use Rattle.std.proofs.Common.{◌≡◌, ◌≤◌, ◌<◌, ◌+◌, ◌∙◌, ℕ, List, [], ◌∷◌, ◌++◌, Bool, length, take, drop, get_or, map, sym, ap, ap₂, arith, ⊎_elim, Result, Ok, Err}
use Rattle.std.specs.Prelude.{◌⊎◌, IsOk, IsErr}
use Rattle.std.proofs.lemmas.List.{take_all, map_more, take-append-drop, map-append}
use Rattle.bk_desk.specs.Disk.{DiskState}
use Rattle.ed_spec.specs.Book.{Book}
use Rattle.ed_spec.specs.Edit.{Edit}
use Rattle.ed_spec.specs.Session.{Session, Command, edit, Reply, Step, Does, DoesAll, nothing, then}
use Rattle.ed_laws.proofs.Theorems.{one_reply}
use Rattle.ed_session.specs.declared.refusal.Refusal.{Refusal}
use Rattle.ed_session.specs.declared.refusal.EditFault.TheVariants.{Refused}
use Rattle.ed_session.specs.Kept.{Kept}
use Rattle.ed_session.specs.Edits.{IsRefusedIn, IsEdited}
use Rattle.ed_session.specs.Start.{TakesSteps}
use Rattle.bk_script.specs.declared.command.Command.{Command as CommandOfCode}
use Rattle.bk_run.specs.Counts.{size_of, steps_of, all_steps}
use Rattle.bk_run.specs.Doing.{asked_of, Stands}
use Rattle.bk_run.specs.Telling.{AreTold}
use Rattle.bk_run.proofs.DoingLemmas.{file_there, edit_done, edit_refused}
use Rattle.bk_run.proofs.TellingLemmas.{next_told}

-- ---- one command

pub err_no_ok : {A E : Type 0} (r : Result A E) → IsErr r → IsOk r → ⊥
err_no_ok (Ok x) is ok = absurd (cc)
err_no_ok (Err e) is ok = absurd (cc)

pub takes : (whole : Type 0) (steps count earlier now : ℕ) → now ≡ earlier + count → steps ≡ count → TakesSteps whole steps earlier now
takes whole steps count earlier now is same = record { most = omega (arith, is, same); exact = λ w. omega (arith, is, same) }

pub takes_where : (whole more : Type 0) (steps earlier now : ℕ) → (more → whole) → TakesSteps whole steps earlier now → TakesSteps more steps earlier now
takes_where whole more steps earlier now only is = record { most = is.most; exact = λ m. is.exact (only m) }

-- the root of the book has the bytes that are kept
root_size : (k : Kept) (disk : DiskState) (s : Session) → Stands k disk s → size_of (s.book k.root) ≡ length k.bytes
root_size k disk s stands = ap size_of (ap (λ (b : Book). b k.root) stands.edited ∙ file_there k.root k.bytes s.saved)

made_steps : (k now : Kept) (disk : DiskState) (s next : Session) (reply : Reply) (e : Edit) → Stands k disk s → IsEdited e k now → Does k.root s (edit e) reply next
    → steps_of k.root (edit e) (record { reply = reply; session = next }) ≡ length now.bytes
made_steps k now disk s next reply e stands is does =
    let made = edit_done k now disk s e stands is in
    let same = one_reply k.root s made.next next (edit e) _ reply made.does does in
    sym (ap₂ (λ (r : Reply) (n : Session). steps_of k.root (edit e) (record { reply = r; session = n })) same.0 same.1)
    ∙ ap (λ (r : List ℕ). size_of (made.next.book r)) (sym is.root) ∙ root_size now disk made.next made.stands

pub edit_counts : (whole : Type 0) (k now : Kept) (disk : DiskState) (s next : Session) (reply : Reply) (e : Edit) (earlier later : ℕ) → Stands k disk s → IsEdited e k now → Does k.root s (edit e) reply next
    → later ≡ earlier + length now.bytes → TakesSteps whole (steps_of k.root (edit e) (record { reply = reply; session = next })) earlier later
edit_counts whole k now disk s next reply e earlier later stands is does counted = takes whole _ (length now.bytes) earlier later counted (made_steps k now disk s next reply e stands is does)

pub refused_counts : (whole : Type 0) (k now : Kept) (disk : DiskState) (s next : Session) (reply : Reply) (e : Edit) (refusal : Refusal) (earlier later : ℕ) → Stands k disk s → now ≡ k → IsRefusedIn k.root k.bytes e (Refused refusal)
    → Does k.root s (edit e) reply next → later ≡ earlier → TakesSteps whole (steps_of k.root (edit e) (record { reply = reply; session = next })) earlier later
refused_counts whole k now disk s next reply e refusal earlier later stands kept is does counted =
    let made = edit_refused k now disk s e refusal stands kept is in
    let same = one_reply k.root s made.next next (edit e) _ reply made.does does in
    takes whole _ 0 earlier later (omega (arith, counted)) (sym (ap₂ (λ (r : Reply) (n : Session). steps_of k.root (edit e) (record { reply = r; session = n })) same.0 same.1))

-- .. where memory was wanting, before the bytes of the edit were read or behind them
pub wanting_counts : (whole : Type 0) (k : Kept) (disk : DiskState) (s next : Session) (reply : Reply) (e : Edit) (earlier later : ℕ) → (whole → ⊥) → Stands k disk s → Does k.root s (edit e) reply next
    → (later ≡ earlier) ⊎ ((made : Kept) × IsEdited e k made × (later ≡ earlier + length made.bytes)) → TakesSteps whole (steps_of k.root (edit e) (record { reply = reply; session = next })) earlier later
wanting_counts whole k disk s next reply e earlier later never stands does counted = ⊎_elim
    (λ (is : later ≡ earlier). record { most = omega (arith, is); exact = λ w. absurd (never w) })
    (λ (is : (made : Kept) × IsEdited e k made × (later ≡ earlier + length made.bytes)). edit_counts whole k is.0 disk s next reply e earlier later stands is.1 does is.2)
    counted

-- ---- commands in a row

all_steps-push : (root : List ℕ) (s mid : Session) (front : List Command) (command : Command) (whole rest : List Step) (step : Step) → DoesAll root s front whole mid
    → all_steps root (front ++ command ∷ []) (whole ++ step ∷ rest) ≡ all_steps root front (whole ++ step ∷ rest) + steps_of root command step
all_steps-push root _ _ _ command _ rest step (nothing s) = omega arith
all_steps-push root _ _ _ command _ rest step (then s one mid first front r whole is all) =
    let more = all_steps-push root one mid front command whole rest step all in
    omega (arith, more)

all_steps-front : (root : List ℕ) (front back : List Command) (steps : List Step) → all_steps root front steps ≤ all_steps root (front ++ back) steps
all_steps-front root [] back steps = omega arith
all_steps-front root (command ∷ front) back [] = omega arith
all_steps-front root (command ∷ front) back (step ∷ steps) = let more = all_steps-front root front back steps in omega (arith, more)

-- those so far, and those of the next command
pub more_counted : (root : List ℕ) (s last : Session) (commands : List CommandOfCode) (i : ℕ) (command : CommandOfCode) (k : Kept) (start now : DiskState) (flag : Bool) (steps : List Step) (whole : Type 0) (earlier mid later : ℕ)
    → i < length commands → command ≡ get_or commands i command → AreTold root s (map asked_of (take i commands)) k start now flag → DoesAll root s (map asked_of commands) steps last
    → mid ≡ earlier + all_steps root (map asked_of (take i commands)) steps
    → ((s next : Session) (reply : Reply) → Stands k now s → Does k.root s (asked_of command) reply next → TakesSteps whole (steps_of k.root (asked_of command) (record { reply = reply; session = next })) mid later)
    → TakesSteps whole (all_steps root (map asked_of (take (i + 1) commands)) steps) earlier later
more_counted root s last commands i command k start now flag steps whole earlier mid later lt at told does so_far one =
    let next = next_told root s last commands i command k start now flag steps lt at told does in
    let count = one told.last next.step.session next.step.reply told.stands next.does in
    let front : map asked_of (take (i + 1) commands) ≡ map asked_of (take i commands) ++ asked_of command ∷ [] =
    map_more asked_of commands i command lt ∙ ap (λ (c : CommandOfCode). map asked_of (take i commands) ++ asked_of c ∷ []) (sym at) in
    let sum : all_steps root (map asked_of (take (i + 1) commands)) steps ≡ all_steps root (map asked_of (take i commands)) steps + steps_of root (asked_of command) next.step =
    ap₂ (λ (cs : List Command) (l : List Step). all_steps root cs l) front next.parts
    ∙ all_steps-push root s told.last (map asked_of (take i commands)) (asked_of command) told.steps next.rest next.step told.does
    ∙ ap (λ (l : List Step). all_steps root (map asked_of (take i commands)) l + steps_of root (asked_of command) next.step) (sym next.parts) in
    let same : steps_of k.root (asked_of command) next.step ≡ steps_of root (asked_of command) next.step = ap (λ (r : List ℕ). steps_of r (asked_of command) next.step) told.root_is in
    let most = count.most in
    record { most = omega (arith, so_far, sum, same, most); exact = λ w. let exact = count.exact w in omega (arith, so_far, sum, same, exact) }

-- .. of all of them, where the last ones weren't carried out
pub ended_counted : (root : List ℕ) (commands : List CommandOfCode) (asked : List Command) (i : ℕ) (steps : List Step) (whole more : Type 0) (earlier later : ℕ) → (more → ⊥) → asked ≡ map asked_of commands
    → TakesSteps whole (all_steps root (map asked_of (take i commands)) steps) earlier later → TakesSteps more (all_steps root asked steps) earlier later
ended_counted root commands asked i steps whole more earlier later never are is =
    let parts : map asked_of (take i commands) ++ map asked_of (drop i commands) ≡ asked = sym (map-append asked_of (take i commands) (drop i commands)) ∙ ap (map asked_of) (take-append-drop i commands) ∙ sym are in
    let front = all_steps-front root (map asked_of (take i commands)) (map asked_of (drop i commands)) steps in
    let all : all_steps root (map asked_of (take i commands) ++ map asked_of (drop i commands)) steps ≡ all_steps root asked steps = ap (λ (cs : List Command). all_steps root cs steps) parts in
    let most = is.most in
    record { most = omega (arith, front, all, most); exact = λ m. absurd (never m) }

pub all_counted : (root : List ℕ) (commands : List CommandOfCode) (asked : List Command) (i : ℕ) (steps : List Step) (whole : Type 0) (earlier later : ℕ) → length commands ≤ i → asked ≡ map asked_of commands
    → later ≡ earlier + all_steps root (map asked_of (take i commands)) steps → TakesSteps whole (all_steps root asked steps) earlier later
all_counted root commands asked i steps whole earlier later le are counted =
    takes whole _ _ earlier later counted (ap (λ (cs : List Command). all_steps root cs steps) (are ∙ sym (ap (map asked_of) (take_all i commands le))))
