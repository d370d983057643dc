-- Words, script and files give an output.
use Rattle.std.proofs.Common.{◌≡◌, ◌≤◌, ◌⊎◌, ℕ, List, [], ◌∷◌, ◌++◌, Bool, true, false, ltb, length, refl, sym, subst, Option, Some, None, Ok, Err, inl, inr}
use Rattle.std.specs.Prelude.{if◌then◌else◌}
use Rattle.std.specs.Str.{chars}
use Rattle.std.proofs.lemmas.Bool.{cases_Bool, eqb-true, ltb-true, ltb-false}
use Rattle.xt_spec.specs.Limit.{most_file_bytes}
use Rattle.xt_spec.specs.Tree.{Items}
use Rattle.bk_spec.specs.Fault.{Fault, missing, too_large, fault_line}
use Rattle.bk_spec.specs.FirstFault.{IsRootFault, absent, longer, faulty}
use Rattle.ent_doc.proofs.Theorems.{OpensOrFails, opens_or_fails}
use Rattle.ed_spec.specs.Book.{Book, Opens}
use Rattle.ed_spec.specs.Edit.{text_edit}
use Rattle.ed_spec.specs.Session.{Command, Step, edit, burst}
use Rattle.bk_desk.specs.Disk.{DiskImage}
use Rattle.bk_script.specs.Command as script
use Rattle.bk_script.specs.Script.{AreRead, IsScript}
use Rattle.bk_script.specs.Reading.{Outcome, script_read}
use Rattle.bk_script.proofs.Theorems.{script_takes, fault_takes}
use Rattle.jr_burst.specs.SavedFiles.{recovered_files}
use Rattle.bk_run.specs.Replies.{IsCommandOf, AreCommandsOf, replies_text, any_refused}
use Rattle.bk_run.proofs.Theorems.{opened_runs}
use Rattle.book_cli.specs.Words.{root_of}
use Rattle.book_cli.specs.Output.{usage_line, journal_line, script_fault_line, status_after, IsRun, closed, ran, ScriptOutput, no_script, damaged, recovered, RootOutput, IsOutput}
use Rattle.book_cli.specs.Leaves.{RecoveredBook}
use Rattle.book_cli.proofs.OutputLemmas.{tree_exists}

-- ---- the commands of a script

-- a command that is built asks something of the session
built_asks : (command : script.Command) → script.is_built command ≡ true → (asked : Command) × IsCommandOf command asked
built_asks (script.edit_text place from to value) is = (edit (text_edit place.numbers from to (chars value)), (eqb-true place.carets 0 is, refl))
built_asks (script.put place side fragment) is = absurd (cc)
built_asks (script.attr place name value) is = absurd (cc)
built_asks (script.drop_attr place name) is = absurd (cc)
built_asks (script.insert place side fragment) is = absurd (cc)
built_asks (script.insert_at place index fragment) is = absurd (cc)
built_asks (script.delete place) is = absurd (cc)
built_asks (script.move place to side) is = absurd (cc)
built_asks (script.extract place name) is = absurd (cc)
built_asks (script.inline place) is = absurd (cc)
built_asks script.undo is = absurd (cc)
built_asks script.redo is = absurd (cc)
built_asks script.burst is = (burst, refl)
built_asks script.tree is = absurd (cc)
built_asks (script.owner place) is = absurd (cc)

-- .. and so do those of lines
pub read_asks : (lines : List (List ℕ)) (commands : List script.Command) → AreRead lines commands → (asked : List Command) × AreCommandsOf commands asked
read_asks [] commands is = ([], subst (λ (l : List script.Command). AreCommandsOf l []) (sym is) refl)
read_asks (line ∷ lines) commands (None, others, is, read, joined) =
    let (asked, asks) = read_asks lines others read in
    (asked, subst (λ (l : List script.Command). AreCommandsOf l asked) (sym joined) asks)
read_asks (line ∷ lines) commands (Some command, others, is, read, joined) =
    let (one, asks_one) = built_asks command is.2 in
    let (asked, asks) = read_asks lines others read in
    (one ∷ asked, subst (λ (l : List script.Command). AreCommandsOf l (one ∷ asked)) (sym joined) (asks_one, asks))

-- ---- over a book whose root opens

zero_or_one : (steps : List Step) → (status_after steps ≡ 0) ⊎ (status_after steps ≡ 1)
zero_or_one steps = by (any_refused steps)
  where
    by : (refused : Bool) → (◌≡◌ {A = ℕ} (if refused then 1 else 0) 0) ⊎ (◌≡◌ {A = ℕ} (if refused then 1 else 0) 1)
    by true = inr refl
    by false = inl refl

run_exists : (root : List ℕ) (commands : List script.Command) (asked : List Command) (book : Book) (file : List ℕ) (items : Items) → AreCommandsOf commands asked → Opens root book file items
    → (steps : List Step) × (tree : List ℕ) × IsRun root commands book steps tree
run_exists root commands asked book file items asks opens =
    let (steps, last, does, books) = opened_runs root file book items asked opens in
    let (bytes, others, after) = books.book.opens in
    let (tree, shows) = tree_exists root last.book bytes others after in
    (steps, tree, record { asked = asked; asks = asks; last = last; does = does; shows = shows })

open_output : (root bytes : List ℕ) (files : DiskImage) (commands : List script.Command) (book : Book) (file : List ℕ) (items : Items) → IsScript bytes commands → recovered_files files ≡ Some book → Opens root book file items
    → (status : ℕ) × (text : List ℕ) × ((status ≡ 0) ⊎ (status ≡ 1)) × ScriptOutput root bytes files status text
open_output root bytes files commands book file items reads found opens =
    let (asked, asks) = read_asks reads.lines commands reads.read in
    let (steps, tree, run) = run_exists root commands asked book file items asks opens in
    (status_after steps, replies_text steps ++ tree, zero_or_one steps, recovered commands book reads found (steps, tree, ran run refl, refl))

-- where a book is recovered and its root opens, the status is 0 or 1
pub open_exists : (words : List (List ℕ)) (bytes : List ℕ) (files : DiskImage) (of : RecoveredBook (root_of words) bytes files) (file : List ℕ) (items : Items) → Opens of.name of.book file items
    → (status : ℕ) × (text : List ℕ) × ((status ≡ 0) ⊎ (status ≡ 1)) × IsOutput words bytes files status text
open_exists words bytes files of file items opens =
    let (status, text, ends, gives) = open_output of.name bytes files of.commands of.book file items of.reads of.found opens in
    (status, text, ends, subst (λ (r : Option (List ℕ)). RootOutput r bytes files status text) (sym of.named) gives)

-- ---- the others

closed_output : (root bytes : List ℕ) (files : DiskImage) (commands : List script.Command) (book : Book) (fault : Fault) → IsScript bytes commands → recovered_files files ≡ Some book → IsRootFault root (book root) fault
    → (status : ℕ) × (text : List ℕ) × ScriptOutput root bytes files status text
closed_output root bytes files commands book fault reads found cause = (3, fault_line fault, recovered commands book reads found ([], fault_line fault, closed fault cause refl refl refl, refl))

book_output : (root bytes : List ℕ) (files : DiskImage) (commands : List script.Command) (book : Book) → IsScript bytes commands → recovered_files files ≡ Some book → (status : ℕ) × (text : List ℕ) × ScriptOutput root bytes files status text
book_output root bytes files commands book reads found = by (book root) refl
  where
    judged : (file : List ℕ) → book root ≡ Some file → length file ≤ most_file_bytes → OpensOrFails root file → (status : ℕ) × (text : List ℕ) × ScriptOutput root bytes files status text
    judged file there fits (inl (items, nodes, opens)) =
        let (status, text, ends, gives) = open_output root bytes files commands book file items reads found record { found = there; nodes = nodes; opens = opens } in
        (status, text, gives)
    judged file there fits (inr (fault, cause)) = closed_output root bytes files commands book fault reads found (faulty file there fits cause)

    by : (at : Option (List ℕ)) → book root ≡ at → (status : ℕ) × (text : List ℕ) × ScriptOutput root bytes files status text
    by None there = closed_output root bytes files commands book (missing root) reads found (absent there refl)
    by (Some file) there =
        elim (cases_Bool (ltb most_file_bytes (length file))) [
          | inl more ↦ closed_output root bytes files commands book (too_large root) reads found (longer file there (ltb-true _ _ more) refl)
          | inr fits ↦ judged file there (ltb-false _ _ fits) (opens_or_fails root file (ltb-false _ _ fits))
        ]

script_output : (root bytes : List ℕ) (files : DiskImage) → (status : ℕ) × (text : List ℕ) × ScriptOutput root bytes files status text
script_output root bytes files = by (script_read bytes) refl
  where
    over : (commands : List script.Command) → IsScript bytes commands → (at : Option Book) → recovered_files files ≡ at → (status : ℕ) × (text : List ℕ) × ScriptOutput root bytes files status text
    over commands reads None none = (8, journal_line, damaged commands reads none refl refl)
    over commands reads (Some book) found = book_output root bytes files commands book reads found

    by : (read : Outcome) → script_read bytes ≡ read → (status : ℕ) × (text : List ℕ) × ScriptOutput root bytes files status text
    by (Ok commands) is = over commands (script_takes bytes commands is) (recovered_files files) refl
    by (Err fault) is = (4, script_fault_line fault, no_script fault (fault_takes bytes fault is) refl refl)

-- there is an output, whatever words, script and files are
pub output_exists : (words : List (List ℕ)) (bytes : List ℕ) (files : DiskImage) → (status : ℕ) × (text : List ℕ) × IsOutput words bytes files status text
output_exists words bytes files = by (root_of words)
  where
    by : (root : Option (List ℕ)) → (status : ℕ) × (text : List ℕ) × RootOutput root bytes files status text
    by None = (2, usage_line, (refl, refl))
    by (Some root) = script_output root bytes files
