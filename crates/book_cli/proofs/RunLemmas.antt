-- What a run over the commands of a script leaves, from what its parts leave.
use Rattle.std.proofs.Common.{◌≡◌, ◌≤◌, ◌+◌, ◌*◌, ◌∙◌, ◌⊎◌, ℕ, List, [], ◌++◌, Bool, true, false, Option, Some, None, length, take, refl, sym, ap, subst, arith, inl, inr, ⊎_elim}
use Rattle.std.specs.Prelude.{IsTrue, IfSome}
use Rattle.std.proofs.Math.Path.{fun_ext}
use Rattle.std.proofs.Math.Seq.{take-length}
use Rattle.xt_spec.specs.Limit.{most_file_bytes}
use Rattle.bk_desk.specs.declared.desk_name.DeskName.TheVariants as desk
use Rattle.bk_desk.specs.Disk.{DiskImage, DiskState, CrashState, IsCrashImage, IsCrashState, WhileTelling, Syncs}
use Rattle.bk_desk.specs.CrashPoints.{AtEachCrash}
use Rattle.bk_desk.proofs.Theorems.{joined, weaker}
use Rattle.jr_form.specs.declared.item.Item.{Item}
use Rattle.jr_burst.specs.SavedFiles.{Files, book_files, overlaid, names, is_open_gate, items_in, recovered_files}
use Rattle.jr_burst.specs.Recover.{RecoversAlike, IsUnnamed, IsStartOrRecovered, IsRecovered, IsOnlySynced}
use Rattle.jr_burst.proofs.Theorems.{open_recovers, closed_recovers, overlaid_other}
use Rattle.ed_spec.specs.Book.{Book}
use Rattle.ed_spec.specs.Session.{Session, Command, Step, opened, DoesAll}
use Rattle.bk_script.specs.Command as script
use Rattle.bk_script.specs.Script.{IsScript}
use Rattle.bk_script.proofs.Theorems.{one_reading}
use Rattle.ed_session.specs.Start.{file_steps, recovered_steps, TakesSteps}
use Rattle.bk_spec.specs.Fault.{Fault}
use Rattle.bk_spec.specs.FirstFault.{IsRootFault}
use Rattle.bk_run.specs.Replies.{AreCommandsOf, replies_text}
use Rattle.bk_run.specs.Counts.{all_steps}
use Rattle.bk_run.specs.Stops.{IsOfOneBurst}
use Rattle.book_cli.specs.Output.{journal_line, is_exit_status, WritesOutput, WritesPrefix, IsBookRun, ran, status_after, damaged, recovered, RootOutput}
use Rattle.book_cli.specs.Leaves.{RecoveredBook, recovers_book, IsWhileSaving, MayCrashIn, early, still, recovering, saving, AreSavedBy, TakesRunSteps}
use Rattle.book_cli.specs.Ends.{AnswersWith, whole, cut, IsToldWith, IsSessionRun, IsRunOver}
use Rattle.book_cli.proofs.OutputLemmas.{some_same, none_some, no_run, fault_shuts}

-- ---- what was told

pub not_whole : (answer : ℕ) → (answer ≡ 6) ⊎ (answer ≡ 7) → IsTrue (is_exit_status answer) → ⊥
not_whole answer (inl is) ends = let bad : false ≡ true = subst (λ (n : ℕ). IsTrue (is_exit_status n)) is ends in absurd (cc)
not_whole answer (inr is) ends = let bad : false ≡ true = subst (λ (n : ℕ). IsTrue (is_exit_status n)) is ends in absurd (cc)

pub not_over : (answer : ℕ) → (answer ≡ 6) ⊎ (answer ≡ 7) → IsTrue (recovers_book answer) → ⊥
not_over answer (inl is) ends = let bad : false ≡ true = subst (λ (n : ℕ). IsTrue (recovers_book n)) is ends in absurd (cc)
not_over answer (inr is) ends = let bad : false ≡ true = subst (λ (n : ℕ). IsTrue (recovers_book n)) is ends in absurd (cc)

pub told_output : (output : ℕ → List ℕ → Type 0) (status answer : ℕ) (text earlier now : List ℕ) → output status text → AnswersWith status text earlier now answer → IsTrue (is_exit_status answer) → WritesOutput output answer earlier now
told_output output status answer text earlier now gives (whole is told) ends = (text, subst (λ (n : ℕ). output n text) (sym is) gives, told)
told_output output status answer text earlier now gives (cut failed count told) ends = absurd (not_whole answer failed ends)

pub told_prefix : (output : ℕ → List ℕ → Type 0) (status answer : ℕ) (text earlier now : List ℕ) → output status text → AnswersWith status text earlier now answer → WritesPrefix output earlier now
told_prefix output status answer text earlier now gives (whole is told) = inr (status, text, length text, gives, told ∙ ap (λ (l : List ℕ). earlier ++ l) (sym (take-length text)))
told_prefix output status answer text earlier now gives (cut failed count told) = inr (status, text, count, gives, told)

-- of a run over a book that ended, the answer is the status
pub ended : (status answer : ℕ) (text earlier now : List ℕ) → AnswersWith status text earlier now answer → IsTrue (recovers_book answer) → answer ≡ status
ended status answer text earlier now (whole is told) ends = is
ended status answer text earlier now (cut failed count told) ends = absurd (not_over answer failed ends)

-- ---- the book that is recovered

pub book_same : (root bytes : List ℕ) (files : DiskImage) (commands : List script.Command) (book : Book) (of : RecoveredBook (Some root) bytes files) → IsScript bytes commands → recovered_files files ≡ Some book
    → (root ≡ of.name) × (commands ≡ of.commands) × (book ≡ of.book)
book_same root bytes files commands book of reads found =
    (some_same (List ℕ) root of.name (Some root) refl of.named, one_reading bytes commands of.commands reads of.reads, some_same Book book of.book (recovered_files files) found of.found)

abbrev over : (root bytes : List ℕ) (files : DiskImage) (commands : List script.Command) (book : Book) → IsScript bytes commands → recovered_files files ≡ Some book → RecoveredBook (Some root) bytes files
over root bytes files commands book reads found = record { name = root; commands = commands; book = book; named = refl; reads = reads; found = found }

-- a file that no open journal names is recovered as it is
unnamed_file : (start : DiskState) (book : Book) (name : List ℕ) → recovered_files start.files ≡ Some book → IsUnnamed start name → book name ≡ start.files (desk.Book name)
unnamed_file start book name found unnamed = by (is_open_gate (start.files desk.Gate)) refl
  where
    same : (other : Files) → recovered_files start.files ≡ Some other → book name ≡ other name
    same other is = ap (λ (f : Files). f name) (some_same Book book other (recovered_files start.files) found is)

    listed : is_open_gate (start.files desk.Gate) ≡ true → (items : Option (List Item)) → items_in (start.files desk.Journal) ≡ items → book name ≡ start.files (desk.Book name)
    listed opened None is = let none : recovered_files start.files ≡ None = rw (opened, is) refl in absurd (none_some Book book (recovered_files start.files) none found)
    listed opened (Some items) is =
        let unlisted : names items name ≡ false = subst (λ (o : Option (List Item)). IfSome o (λ items. names items name ≡ false)) is (unnamed opened) in
        same (overlaid items (book_files start.files)) (open_recovers start.files items opened is) ∙ overlaid_other items (book_files start.files) name unlisted

    by : (b : Bool) → is_open_gate (start.files desk.Gate) ≡ b → book name ≡ start.files (desk.Book name)
    by false closed = same (book_files start.files) (closed_recovers start.files closed)
    by true opened = listed opened (items_in (start.files desk.Journal)) refl

-- ---- crashes

-- over a damaged journal nothing is written
pub damaged_crash : (start : DiskState) (crash : CrashState) → recovered_files start.files ≡ None → IsStartOrRecovered start crash → IsCrashState start crash
damaged_crash start crash none is = record {
  image = ⊎_elim (λ (image : IsCrashImage start crash.image). image) (λ (alike : RecoversAlike crash.image start.files). absurd (none_some Files alike.files (recovered_files start.files) none alike.two)) is.recovers;
  told = is.told;
}

synced_crash : (text : List ℕ) (start mid : DiskState) (crash : CrashState) → IsOnlySynced start mid → WhileTelling text mid crash → WhileTelling text start crash
synced_crash text start mid crash only at = record {
  image = λ name unwritten. at.image name (only.durable name) ∙ ap (λ (f : DiskImage). f name) only.syncs.files;
  told = (at.told.0, at.told.1 ∙ ap (λ (l : List ℕ). l ++ take at.told.0 text) only.syncs.told);
}

-- a line is told, and nothing is pending
line_crash : (start mid : DiskState) (line : List ℕ) (crash : CrashState) → IsRecovered start mid → WhileTelling line mid crash → IsOfOneBurst mid (book_files mid.files) [] line crash
line_crash start mid line crash is at = record {
  whole = [];
  rest = [];
  parts = refl;
  count = at.told.0;
  told = at.told.1;
  cut = tt;
  recovers = inl (ap recovered_files (fun_ext (λ name. at.image name (is.durable name))) ∙ closed_recovers mid.files is.gate);
  others = λ name same. at.image (desk.Book name) (is.durable (desk.Book name));
}

-- what is so of the recovered book is so of the start
saving_crash : (start mid : DiskState) (steps : List Step) (last : List ℕ) (crash : CrashState) → IsRecovered start mid → IsOfOneBurst mid (book_files mid.files) steps last crash → IsWhileSaving start (book_files mid.files) steps last crash
saving_crash start mid steps last crash is at = record {
  burst = record {
    whole = at.whole;
    rest = at.rest;
    parts = at.parts;
    count = at.count;
    told = at.told ∙ ap (λ (l : List ℕ). l ++ (replies_text at.whole ++ take at.count (replies_text at.rest ++ last))) is.told;
    cut = at.cut;
    recovers = at.recovers;
    others = at.others;
  };
  others = λ name unnamed same unwritten. at.others name same ∙ unnamed_file start (book_files mid.files) name is.book unnamed;
}

-- ---- steps

most_steps : (earlier mid now size same_size count same_count : ℕ) → mid ≡ earlier + size → now ≤ mid + count * most_file_bytes → size ≡ same_size → count ≡ same_count → now ≤ earlier + (same_size + same_count * most_file_bytes)
most_steps earlier mid now size same_size count same_count read more a b = omega (arith, read, more, a, b)

module _ (root bytes : List ℕ) (files : DiskImage) (commands : List script.Command) (reads : IsScript bytes commands) where
  -- the root of the book that is recovered
  root_steps : (of : RecoveredBook (Some root) bytes files) → recovered_steps root (recovered_files files) ≡ file_steps (of.book of.name)
  root_steps of =
      let named = some_same (List ℕ) root of.name (Some root) refl of.named in
      ap (recovered_steps root) of.found ∙ ap (λ (r : List ℕ). file_steps (of.book r)) named

  none_recovered : (earlier now : ℕ) → earlier ≤ now → now ≤ earlier + recovered_steps root (recovered_files files) → (RecoveredBook (Some root) bytes files → ⊥) → now ≡ earlier
  none_recovered earlier now later most never = by (recovered_files files) refl
    where
      by : (o : Option Files) → recovered_files files ≡ o → now ≡ earlier
      by None is = let none : recovered_steps root (recovered_files files) ≡ 0 = ap (recovered_steps root) is in omega (arith, later, most, none)
      by (Some book) is = absurd (never (over root bytes files commands book reads is))

  most_of : (of : RecoveredBook (Some root) bytes files) (earlier now : ℕ) → now ≤ earlier + recovered_steps root (recovered_files files) → (n : ℕ) → now ≤ earlier + (file_steps (of.book of.name) + n)
  most_of of earlier now most n = let size = root_steps of in omega (arith, most, size)

  -- the run ended before the commands
  pub early_steps : (sure : Type 0) (answer earlier now : ℕ) → earlier ≤ now → (IsTrue (recovers_book answer) → ⊥) → TakesSteps sure (recovered_steps root (recovered_files files)) earlier now → TakesRunSteps (Some root) bytes files answer earlier now
  early_steps sure answer earlier now later never takes = record {
    none = none_recovered earlier now later takes.most;
    most = λ of. most_of of earlier now takes.most _;
    least = λ ends of. absurd (never ends);
    exact = λ of steps tree run. record { most = most_of of earlier now takes.most _; exact = λ ends. absurd (never ends) };
  }

  -- .. since the root has a fault
  pub closed_steps : (book : Book) (fault : Fault) (answer earlier now : ℕ) → earlier ≤ now → recovered_files files ≡ Some book → IsRootFault root (book root) fault → now ≡ earlier + recovered_steps root (recovered_files files)
      → TakesRunSteps (Some root) bytes files answer earlier now
  closed_steps book fault answer earlier now later found cause takes = record {
    none = none_recovered earlier now later (omega (arith, takes));
    most = λ of. most_of of earlier now (omega (arith, takes)) _;
    least = λ ends of. let size = root_steps of in omega (arith, takes, size);
    exact = λ of steps tree run.
        let same = book_same root bytes files commands book of reads found in
        absurd (no_run of.name of.commands of.book steps tree (fault_shuts of.name of.book fault (subst (λ (o : Option (List ℕ)). IsRootFault of.name o fault) (ap of.book same.0) (at of same cause))) run);
  }
    where
      at : (of : RecoveredBook (Some root) bytes files) → (root ≡ of.name) × (commands ≡ of.commands) × (book ≡ of.book) → IsRootFault root (book root) fault → IsRootFault of.name (of.book root) fault
      at of same is = subst (λ (r : List ℕ). IsRootFault r (of.book root) fault) same.0 (subst (λ (b : Book). IsRootFault root (b root) fault) same.2 is)

  -- the commands were carried out over the recovered book, or some of them
  pub opened_steps : (book : Book) (answer earlier mid now count : ℕ) → recovered_files files ≡ Some book
      → mid ≡ earlier + recovered_steps root (recovered_files files) → mid ≤ now → now ≤ mid + count * most_file_bytes → count ≡ length commands
      → ((asked : List Command) (steps : List Step) (last : Session) → AreCommandsOf commands asked → DoesAll root (opened root book) asked steps last → TakesSteps (IsTrue (recovers_book answer)) (all_steps root asked steps) mid now)
      → TakesRunSteps (Some root) bytes files answer earlier now
  opened_steps book answer earlier mid now count found read later more counted takes = record {
    none = λ never. absurd (never (over root bytes files commands book reads found));
    most = λ of.
        let same = book_same root bytes files commands book of reads found in
        most_steps earlier mid now (recovered_steps root (recovered_files files)) (file_steps (of.book of.name)) count (length of.commands) read more (root_steps of) (counted ∙ ap (λ (l : List script.Command). length l) same.1);
    least = λ ends of. let size = root_steps of in omega (arith, read, later, size);
    exact = λ of steps tree run.
        let same = book_same root bytes files commands book of reads found in
        let size = root_steps of in
        let asks = subst (λ (l : List script.Command). AreCommandsOf l run.asked) (sym same.1) run.asks in
        let does = subst (λ (b : Book). DoesAll root (opened root b) run.asked steps run.last) (sym same.2) (subst (λ (r : List ℕ). DoesAll r (opened r of.book) run.asked steps run.last) (sym same.0) run.does) in
        let count = takes run.asked steps run.last asks does in
        let named : all_steps root run.asked steps ≡ all_steps of.name run.asked steps = ap (λ (r : List ℕ). all_steps r run.asked steps) same.0 in
        let most = count.most in
        record { most = omega (arith, read, size, named, most); exact = λ ends. let exact = count.exact ends in omega (arith, read, size, named, exact) };
  }

-- ---- runs

module _ {D : Type 0} (standing : D → DiskState) (time : D → ℕ) (was : D → ℕ → CrashState → Type 0) where
  -- over the recovered book
  book_run : (root bytes : List ℕ) (commands : List script.Command) (old mid new : D) (answer status : ℕ) (steps : List Step) (last : List ℕ) → IsScript bytes commands → IsRecovered (standing old) (standing mid)
      → IsBookRun root commands (book_files (standing mid).files) steps last status → AtEachCrash time was old mid (IsStartOrRecovered (standing old)) → AnswersWith status (replies_text steps ++ last) (standing mid).told (standing new).told answer
      → AtEachCrash time was mid new (IsOfOneBurst (standing mid) (book_files (standing mid).files) steps last) → (answer ≡ status → AreSavedBy (book_files (standing mid).files) steps (standing new))
      → IsRunOver (Some root) bytes (standing old) (standing new) (AtEachCrash time was old new) answer
  book_run root bytes commands old mid new answer status steps last reads is run starting told burst saved = record {
    output = told_output output status answer text start.told (standing new).told gives from_start;
    prefix = told_prefix output status answer text start.told (standing new).told gives from_start;
    crash = joined time was old mid new within (weaker time was old mid (IsStartOrRecovered start) within starting (λ crash at. recovering of at))
        (weaker time was mid new (IsOfOneBurst (standing mid) book steps last) within burst (λ crash at. saving of steps last status run (saving_crash start (standing mid) steps last crash is at)));
    durable = λ ends.
        let same = ended status answer text start.told (standing new).told from_start ends in
        record { of = of; steps = steps; last = last; run = subst (λ (n : ℕ). IsBookRun root commands book steps last n) (sym same) run; saved = saved same };
    others = λ never. absurd (never of);
  }
    where
      start : DiskState
      start = standing old

      book : Book
      book = book_files (standing mid).files

      text : List ℕ
      text = replies_text steps ++ last

      output : ℕ → List ℕ → Type 0
      output = RootOutput (Some root) bytes start.files

      within : CrashState → Type 0
      within = MayCrashIn (Some root) bytes start

      of : RecoveredBook (Some root) bytes start.files
      of = over root bytes start.files commands book reads is.book

      gives : output status text
      gives = recovered commands book reads is.book (steps, last, run, refl)

      from_start : AnswersWith status text start.told (standing new).told answer
      from_start = subst (λ (l : List ℕ). AnswersWith status text l (standing new).told answer) is.told told

  pub opened_run : (root bytes : List ℕ) (commands : List script.Command) (old mid new : D) (answer : ℕ) → IsScript bytes commands → IsRecovered (standing old) (standing mid) → AtEachCrash time was old mid (IsStartOrRecovered (standing old))
      → IsSessionRun root commands (standing mid) (standing new) (AtEachCrash time was mid new) answer → IsRunOver (Some root) bytes (standing old) (standing new) (AtEachCrash time was old new) answer
  opened_run root bytes commands old mid new answer reads is starting session =
      book_run root bytes commands old mid new answer (status_after session.steps) session.steps session.tree reads is (ran session.run refl) starting session.told session.crash session.durable

  -- the root does not open: this line is told
  pub closed_run : (root bytes line : List ℕ) (commands : List script.Command) (old mid new : D) (answer : ℕ) → IsScript bytes commands → IsRecovered (standing old) (standing mid)
      → IsBookRun root commands (book_files (standing mid).files) [] line 3 → AtEachCrash time was old mid (IsStartOrRecovered (standing old)) → IsToldWith 3 line (standing mid) (standing new) (AtEachCrash time was mid new) answer
      → IsRunOver (Some root) bytes (standing old) (standing new) (AtEachCrash time was old new) answer
  closed_run root bytes line commands old mid new answer reads is run starting told =
      book_run root bytes commands old mid new answer 3 [] line reads is run starting told.told
      (weaker time was mid new (WhileTelling line (standing mid)) (IsOfOneBurst (standing mid) (book_files (standing mid).files) [] line) told.crash (λ crash at. line_crash (standing old) (standing mid) line crash is at))
      (λ ends. record {
        files = ap book_files told.same.files;
        gate = ap (λ (f : DiskImage). is_open_gate (f desk.Gate)) told.same.files ∙ is.gate;
        durable = λ name. ap (λ (p : _). p name) told.same.pending ∙ is.durable name;
      })

  -- the journal is damaged
  pub damaged_run : (root bytes : List ℕ) (commands : List script.Command) (old mid new : D) (answer : ℕ) → IsScript bytes commands → recovered_files (standing old).files ≡ None → IsOnlySynced (standing old) (standing mid)
      → AtEachCrash time was old mid (IsStartOrRecovered (standing old)) → IsToldWith 8 journal_line (standing mid) (standing new) (AtEachCrash time was mid new) answer
      → IsRunOver (Some root) bytes (standing old) (standing new) (AtEachCrash time was old new) answer
  damaged_run root bytes commands old mid new answer reads none only starting told = record {
    output = told_output output 8 answer journal_line start.told (standing new).told gives from_start;
    prefix = told_prefix output 8 answer journal_line start.told (standing new).told gives from_start;
    crash = joined time was old mid new within (weaker time was old mid (IsStartOrRecovered start) within starting (λ crash at. early (damaged_crash start crash none at)))
        (weaker time was mid new (WhileTelling journal_line (standing mid)) within told.crash (λ crash at. still 8 journal_line gives refl (synced_crash journal_line start (standing mid) crash only at)));
    durable = λ ends. absurd (never (ended 8 answer journal_line start.told (standing new).told from_start ends) ends);
    others = λ nothing. told.same.files ∙ only.syncs.files;
  }
    where
      start : DiskState
      start = standing old

      output : ℕ → List ℕ → Type 0
      output = RootOutput (Some root) bytes start.files

      within : CrashState → Type 0
      within = MayCrashIn (Some root) bytes start

      gives : output 8 journal_line
      gives = damaged commands reads none refl refl

      from_start : AnswersWith 8 journal_line start.told (standing new).told answer
      from_start = subst (λ (l : List ℕ). AnswersWith 8 journal_line l (standing new).told answer) only.syncs.told told.told

      never : answer ≡ 8 → IsTrue (recovers_book answer) → ⊥
      never is ends = let bad : false ≡ true = subst (λ (n : ℕ). IsTrue (recovers_book n)) is ends in absurd (cc)

  -- the start failed
  pub failed_run : (root bytes : List ℕ) (commands : List script.Command) (old mid : D) (answer : ℕ) → (answer ≡ 6) ⊎ (answer ≡ 7) → IsScript bytes commands → (standing mid).told ≡ (standing old).told
      → (recovered_files (standing old).files ≡ None → Syncs (standing old) (standing mid)) → AtEachCrash time was old mid (IsStartOrRecovered (standing old))
      → IsRunOver (Some root) bytes (standing old) (standing mid) (AtEachCrash time was old mid) answer
  failed_run root bytes commands old mid answer failed reads told unwritten starting = by (recovered_files (standing old).files) refl
    where
      start : DiskState
      start = standing old

      within : CrashState → Type 0
      within = MayCrashIn (Some root) bytes start

      by : (found : Option Files) → recovered_files start.files ≡ found → IsRunOver (Some root) bytes start (standing mid) (AtEachCrash time was old mid) answer
      by None none = record {
        output = λ ends. absurd (not_whole answer failed ends);
        prefix = inl told;
        crash = weaker time was old mid (IsStartOrRecovered start) within starting (λ crash at. early (damaged_crash start crash none at));
        durable = λ ends. absurd (not_over answer failed ends);
        others = λ nothing. (unwritten none).files;
      }
      by (Some book) found = record {
        output = λ ends. absurd (not_whole answer failed ends);
        prefix = inl told;
        crash = weaker time was old mid (IsStartOrRecovered start) within starting (λ crash at. recovering (over root bytes start.files commands book reads found) at);
        durable = λ ends. absurd (not_over answer failed ends);
        others = λ never. absurd (never (over root bytes start.files commands book reads found));
      }
