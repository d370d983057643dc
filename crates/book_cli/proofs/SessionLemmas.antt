-- Commands over a session that was started, their replies, and the tree behind them.
use Rattle.std.proofs.Common.{◌≡◌, ◌≤◌, ◌<◌, ◌+◌, ◌∙◌, ◌⊎◌, ℕ, List, ◌++◌, Bool, true, false, if◌then◌else◌, Some, length, take, map, sym, ap, subst, arith, ⊎_elim, append_assoc}
use Rattle.std.proofs.Math.Seq.{take-append-add, take-length}
use Rattle.std.proofs.lemmas.Bool.{cases_lt}
use Rattle.std.proofs.lemmas.List.{take_all, take-append-le}
use Rattle.bk_desk.specs.declared.desk_name.DeskName.TheVariants.{Gate}
use Rattle.bk_desk.specs.Disk.{DiskState, CrashState, DiskImage, WhileTelling}
use Rattle.bk_desk.specs.CrashPoints.{AtEachCrash}
use Rattle.bk_desk.proofs.Theorems.{joined, weaker}
use Rattle.jr_burst.specs.SavedFiles.{book_files, is_open_gate}
use Rattle.ed_spec.specs.Book.{Book}
use Rattle.ed_spec.specs.Session.{Session, Step, opened, DoesAll}
use Rattle.ed_laws.proofs.Theorems.{one_run}
use Rattle.ed_session.specs.Kept.{Kept}
use Rattle.ed_session.specs.Start.{IsStarted}
use Rattle.bk_script.specs.declared.command.Command.{Command}
use Rattle.bk_script.specs.View.{command_of}
use Rattle.bk_run.specs.Replies.{replies_text, any_refused}
use Rattle.bk_run.specs.Stops.{saved_after, IsOfOneBurst}
use Rattle.bk_run.specs.Doing.{asked_of}
use Rattle.bk_run.specs.Telling.{AreTold}
use Rattle.bk_run.proofs.Theorems.{file_there, start_opens, opened_runs, asks_all, saved_by, stop_last}
use Rattle.book_cli.specs.Output.{IsTree, IsRun, status_after}
use Rattle.book_cli.specs.Ends.{AnswersWith, whole, cut, IsToldWith, IsSessionRun}
use Rattle.book_cli.proofs.OutputLemmas.{tree_exists}

-- the replies that the commands have over this book, and the tree after them
pub record Replies (root : List ℕ) (commands : List Command) (book : Book) : Type 0 where
  pub steps : List Step
  pub last : Session
  pub does : DoesAll root (opened root book) (map asked_of commands) steps last
  pub tree : List ℕ
  pub shows : IsTree root last.book tree

pub replies_of : (root : List ℕ) (commands : List Command) (start now : DiskState) (k : Kept) → IsStarted root start now k → Replies root commands (book_files now.files)
replies_of root commands start now k is =
    let (items, opens) = start_opens root start now k is in
    let (steps, last, does, books) = opened_runs root k.bytes (book_files now.files) items (map asked_of commands) opens in
    let (tree, shows) = tree_exists root last.book books.book.opens.0 books.book.opens.1 books.book.opens.2 in
    record { steps = steps; last = last; does = does; tree = tree; shows = shows }

pub run_of : (root : List ℕ) (commands : List Command) (book : Book) (r : Replies root commands book) → IsRun root (map command_of commands) book r.steps r.tree
run_of root commands book r = record { asked = map asked_of commands; asks = asks_all commands; last = r.last; does = r.does; shows = r.shows }

-- a front of the front is a front of the whole
front_of : (front back : List ℕ) (count : ℕ) → (n : ℕ) × (take count front ≡ take n (front ++ back))
front_of front back count = ⊎_elim within beyond (cases_lt count (length front))
  where
    within : count < length front → (n : ℕ) × (take count front ≡ take n (front ++ back))
    within lt = (count, sym (take-append-le count front back (omega (arith, lt))))

    beyond : length front ≤ count → (n : ℕ) × (take count front ≡ take n (front ++ back))
    beyond le = (length front, take_all count front le ∙ sym (take-length front) ∙ sym (take-append-le (length front) front back (omega arith)))

no_status : (answer : ℕ) (b : Bool) → (answer ≡ 6) ⊎ (answer ≡ 7) → answer ≡ (if b then 1 else 0) → ⊥
no_status answer true failed is = omega (arith, failed, is)
no_status answer false failed is = omega (arith, failed, is)

-- the commands ended early
pub session_failed : (root : List ℕ) (commands : List Command) (old new : DiskState) (points : (CrashState → Type 0) → Type 0) (answer : ℕ) (r : Replies root commands (book_files old.files)) → (answer ≡ 6) ⊎ (answer ≡ 7)
    → (count : ℕ) × (new.told ≡ old.told ++ take count (replies_text r.steps)) → points (IsOfOneBurst old (book_files old.files) r.steps r.tree) → IsSessionRun root (map command_of commands) old new points answer
session_failed root commands old new points answer r failed told crash =
    let (n, same) = front_of (replies_text r.steps) r.tree told.0 in
    record {
      steps = r.steps;
      tree = r.tree;
      run = run_of root commands (book_files old.files) r;
      told = cut failed n (told.1 ∙ ap (λ (l : List ℕ). old.told ++ l) same);
      crash = crash;
      durable = λ is. absurd (no_status answer (any_refused r.steps) failed is);
    }

-- the root as it was edited is the file of the book after the commands, and has that tree
pub root_there : (root : List ℕ) (commands : List Command) (book : Book) (k : Kept) (old mid : DiskState) (flag : Bool) (told : AreTold root (opened root book) (map asked_of commands) k old mid flag) → told.last.book k.root ≡ Some k.bytes
root_there root commands book k old mid flag told = ap (λ (b : Book). b k.root) told.stands.edited ∙ file_there k.root k.bytes told.last.saved

pub tree_there : (root : List ℕ) (commands : List Command) (book : Book) (k : Kept) (old mid : DiskState) (flag : Bool) (r : Replies root commands book) (told : AreTold root (opened root book) (map asked_of commands) k old mid flag) → IsTree k.root told.last.book r.tree
tree_there root commands book k old mid flag r told =
    let same = one_run root (opened root book) r.last told.last (map asked_of commands) r.steps told.steps r.does told.does in
    subst (λ (n : List ℕ). IsTree n told.last.book r.tree) (sym told.root_is) (subst (λ (s : Session). IsTree root s.book r.tree) same.1 r.shows)

-- behind the replies, the tree
answers_behind : (steps : List Step) (flag : Bool) (tree start old new : List ℕ) (answer : ℕ) → old ≡ start ++ replies_text steps → flag ≡ any_refused steps → AnswersWith (if flag then 1 else 0) tree old new answer
    → AnswersWith (status_after steps) (replies_text steps ++ tree) start new answer
answers_behind steps flag tree start old new answer so_far same (whole is told) =
    whole (is ∙ ap (λ (b : Bool). if b then 1 else 0) same) (told ∙ ap (λ (l : List ℕ). l ++ tree) so_far ∙ append_assoc start (replies_text steps) tree)
answers_behind steps flag tree start old new answer so_far same (cut failed count told) =
    cut failed (length (replies_text steps) + count)
    (told ∙ ap (λ (l : List ℕ). l ++ take count tree) so_far ∙ append_assoc start (replies_text steps) (take count tree) ∙ ap (λ (l : List ℕ). start ++ l) (sym (take-append-add (replies_text steps) tree count)))

module _ {D : Type 0} (standing : D → DiskState) (time : D → ℕ) (was : D → ℕ → CrashState → Type 0) where
  -- all commands were carried out, and the tree was told
  pub session_ended : (root : List ℕ) (commands : List Command) (k : Kept) (old mid new : D) (flag : Bool) (answer : ℕ) (r : Replies root commands (book_files (standing old).files))
      → AreTold root (opened root (book_files (standing old).files)) (map asked_of commands) k (standing old) (standing mid) flag
      → AtEachCrash time was old mid (IsOfOneBurst (standing old) (book_files (standing old).files) r.steps r.tree)
      → IsToldWith (if flag then 1 else 0) r.tree (standing mid) (standing new) (AtEachCrash time was mid new) answer
      → IsSessionRun root (map command_of commands) (standing old) (standing new) (AtEachCrash time was old new) answer
  session_ended root commands k old mid new flag answer r told replies is = record {
    steps = r.steps;
    tree = r.tree;
    run = run_of root commands book r;
    told = answers_behind r.steps flag r.tree (standing old).told (standing mid).told (standing new).told answer so_far (told.refused_is ∙ ap any_refused (sym same.0)) is.told;
    crash = joined time was old mid new within replies (weaker time was mid new (WhileTelling r.tree (standing mid)) within is.crash
        (λ crash at. stop_last k (standing old) (standing mid) book told.last r.steps r.tree crash told.stands so_far saved at));
    durable = λ ended. record {
      files = ap book_files is.same.files ∙ told.stands.book ∙ sym saved;
      gate = ap (λ (f : DiskImage). is_open_gate (f Gate)) is.same.files ∙ told.stands.gate;
      durable = λ name. ap (λ (p : _). p name) is.same.pending ∙ told.stands.durable name;
    };
  }
    where
      book : Book
      book = book_files (standing old).files

      within : CrashState → Type 0
      within = IsOfOneBurst (standing old) book r.steps r.tree

      same : (r.steps ≡ told.steps) × (r.last ≡ told.last)
      same = one_run root (opened root book) r.last told.last (map asked_of commands) r.steps told.steps r.does told.does

      so_far : (standing mid).told ≡ (standing old).told ++ replies_text r.steps
      so_far = told.told ∙ ap (λ (l : List Step). (standing old).told ++ replies_text l) (sym same.0)

      saved : saved_after book r.steps ≡ told.last.saved
      saved = ap (saved_after book) same.0 ∙ saved_by root (opened root book) told.last (map asked_of commands) told.steps told.does
