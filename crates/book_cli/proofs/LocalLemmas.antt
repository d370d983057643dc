-- The steps behind what a run has told are local.
use Rattle.std.proofs.Common.{◌≡◌, ◌⊎◌, ℕ, Bool, true, false, ◌||◌, List, Option, Some, None, refl, sym, subst, inl, inr}
use Rattle.std.specs.Prelude.{◌==◌, IsTrue}
use Rattle.bk_desk.specs.Disk.{DiskState, CrashState}
use Rattle.jr_burst.specs.SavedFiles.{recovered_files}
use Rattle.ed_spec.specs.Book.{Book}
use Rattle.ed_spec.specs.Session.{Command, Step}
use Rattle.ed_laws.specs.LocalSteps.{AreLocalSteps}
use Rattle.ed_laws.proofs.Theorems.{local_steps}
use Rattle.bk_script.specs.Command as script
use Rattle.bk_script.specs.Script.{IsScript}
use Rattle.bk_script.proofs.Theorems.{no_fault}
use Rattle.bk_run.specs.Replies.{AreCommandsOf}
use Rattle.book_cli.specs.Output.{IsBookRun, closed, ran, ScriptOutput, no_script, damaged, recovered, RootOutput, is_book_status, is_script_status, is_exit_status, WritesPrefix}
use Rattle.book_cli.specs.Leaves.{RecoveredBook, recovers_book}
use Rattle.book_cli.specs.Ends.{AnswersWith, whole, cut, EndsBy, output, source, IsLocalRun}
use Rattle.book_cli.proofs.OutputLemmas.{none_some}
use Rattle.book_cli.proofs.ExistLemmas.{read_asks}
use Rattle.book_cli.proofs.EndLemmas.{ends_output, ends_durable}

-- the commands that were asked for, whose steps are local
book_steps : (root bytes : List ℕ) (commands : List script.Command) (book : Book) (steps : List Step) (last : List ℕ) (status : ℕ) → IsScript bytes commands → IsBookRun root commands book steps last status
    → (asked : List Command) × AreCommandsOf commands asked × AreLocalSteps root book asked steps
book_steps root bytes commands book steps last status reads (closed fault cause none line is) =
    let (asked, asks) = read_asks reads.lines commands reads.read in
    (asked, asks, subst (λ (l : List Step). AreLocalSteps root book asked l) (sym none) tt)
book_steps root bytes commands book steps last status reads (ran run is) = (run.asked, run.asks, local_steps root book run.last run.asked steps run.does)

script_steps : (root bytes : List ℕ) (start now : DiskState) (answer status : ℕ) (text : List ℕ) → ScriptOutput root bytes start.files status text → AnswersWith status text start.told now.told answer
    → RecoveredBook (Some root) bytes start.files → IsLocalRun (Some root) bytes start now answer
script_steps root bytes start now answer status text (no_script fault has line is) told of = absurd (no_fault bytes of.commands fault of.reads has)
script_steps root bytes start now answer status text (damaged commands reads none _ _) told of = absurd (none_some Book of.book (recovered_files start.files) none of.found)
script_steps root bytes start now answer status text (recovered commands book reads found (steps, last, run, same)) told of =
    let (asked, asks, local) = book_steps root bytes commands book steps last status reads run in
    record {
      of = record { name = root; commands = commands; book = book; named = refl; reads = reads; found = found };
      asked = asked;
      asks = asks;
      steps = steps;
      last = last;
      status = status;
      run = run;
      told = subst (λ (l : List ℕ). AnswersWith status l start.told now.told answer) same told;
      local = local;
    }

output_steps : (root : Option (List ℕ)) (bytes : List ℕ) (start now : DiskState) (answer status : ℕ) (text : List ℕ) → RootOutput root bytes start.files status text → AnswersWith status text start.told now.told answer
    → RecoveredBook root bytes start.files → IsLocalRun root bytes start now answer
output_steps None bytes start now answer status text gives told of = absurd (none_some (List ℕ) of.name None refl of.named)
output_steps (Some root) bytes start now answer status text gives told of = script_steps root bytes start now answer status text gives told of

-- the answer of a run over a book comes with a whole output
of_output : (answer : ℕ) → IsTrue (recovers_book answer) → IsTrue (is_exit_status answer)
of_output answer ends = first (is_script_status answer) (answer == 2) (first (is_book_status answer) (answer == 4) (first (recovers_book answer) (answer == 8) ends))
  where
    first : (a b : Bool) → IsTrue a → IsTrue (a || b)
    first true b holds = refl
    first false b holds = absurd (cc)

module _ (root : Option (List ℕ)) (bytes : List ℕ) (rose : Type 0) (start now : DiskState) (points : (CrashState → Type 0) → Type 0) (answer : ℕ) where
  pub ends_local : EndsBy root bytes rose start now points answer → IsTrue (recovers_book answer) → IsLocalRun root bytes start now answer
  ends_local is ends =
      let (text, gives, put) = ends_output root bytes rose start now points answer is (of_output answer ends) in
      output_steps root bytes start now answer answer text gives (whole refl put) (ends_durable root bytes rose start now points answer is ends).of

  prefix_local : (answer ≡ 6) ⊎ (answer ≡ 7) → RecoveredBook root bytes start.files → WritesPrefix (RootOutput root bytes start.files) start.told now.told → (now.told ≡ start.told) ⊎ IsLocalRun root bytes start now answer
  prefix_local failed of (inl same) = inl same
  prefix_local failed of (inr (status, text, count, gives, told)) = inr (output_steps root bytes start now answer status text gives (cut failed count told) of)

  pub early_local : EndsBy root bytes rose start now points answer → RecoveredBook root bytes start.files → (answer ≡ 6) ⊎ (answer ≡ 7) → (rose → ⊥) → (now.told ≡ start.told) ⊎ IsLocalRun root bytes start now answer
  early_local (output is) of failed never = prefix_local failed of is.prefix
  early_local (source is) of failed never = absurd (never is.rose_is)
