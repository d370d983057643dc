-- Runs that recover no book, and what is read of a script.
use Rattle.std.proofs.Common.{◌+◌, ◌≡◌, ◌<◌, ◌∙◌, ◌⊎◌, ℕ, List, [], ◌++◌, true, false, Option, Some, None, length, refl, sym, ap, subst, arith, inl, inr, ⊎_elim, length-append}
use Rattle.std.specs.Prelude.{IsTrue, IfSome, option_map}
use Rattle.std.proofs.lemmas.List.{append-nil}
use Rattle.bk_desk.specs.Disk.{DiskImage, DiskState, CrashState, IsCrashState, WhileTelling}
use Rattle.bk_desk.specs.CrashPoints.{AtEachCrash}
use Rattle.bk_desk.proofs.Theorems.{started, weaker}
use Rattle.bk_script.specs.Command as script
use Rattle.bk_script.specs.Script.{IsScript, ScriptFault, too_long, bad_line, too_many, IsFaultOf}
use Rattle.bk_script.specs.View.{script_fault}
use Rattle.bk_script.specs.declared.script.ScriptFault as code
use Rattle.bk_script.specs.declared.script.ScriptFault.TheVariants.{Long, BadLine, Many, NoMemory}
use Rattle.xt_spec.specs.Limit.{most_script_bytes}
use Rattle.bk_run.specs.Input.{IsInput}
use Rattle.book_cli.specs.Output.{script_fault_line, RootOutput, no_script}
use Rattle.book_cli.specs.Leaves.{is_still, recovers_book, MayCrashIn, early, still, TakesRunSteps}
use Rattle.book_cli.specs.Ends.{IsToldWith, IsRunOver}
use Rattle.book_cli.proofs.RunLemmas.{not_whole, not_over, told_output, told_prefix, ended}

-- ---- the bytes of a script

all_read : (most : ℕ) (left bytes : List ℕ) (after : Option (List ℕ)) → IsInput most left after bytes → length bytes < most → bytes ≡ left
all_read most left bytes after is short = ⊎_elim
    (λ (e : is.rest ≡ []). sym (is.parts ∙ ap (λ (l : List ℕ). bytes ++ l) e ∙ append-nil bytes))
    (λ (e : length bytes ≡ most). let never : ⊥ = omega (arith, short, e) in absurd never)
    is.whole

pub none_left : (most : ℕ) (left bytes : List ℕ) (after : Option (List ℕ)) → IsInput most left after bytes → length bytes < most → after ≡ Some []
none_left most left bytes after is short = ⊎_elim
    (λ (e : is.rest ≡ []). is.after_is ∙ ap (λ (l : List ℕ). Some l) e)
    (λ (e : length bytes ≡ most). let never : ⊥ = omega (arith, short, e) in absurd never)
    is.whole

pub input_script : (left bytes : List ℕ) (after : Option (List ℕ)) (commands : List script.Command) → IsInput (most_script_bytes + 1) left after bytes → IsScript bytes commands → IsScript left commands
input_script left bytes after commands is reads =
    let fits = reads.size in
    subst (λ (l : List ℕ). IsScript l commands) (all_read (most_script_bytes + 1) left bytes after is (omega (arith, fits))) reads

input_fault : (left bytes : List ℕ) (after : Option (List ℕ)) (fault : ScriptFault) → IsInput (most_script_bytes + 1) left after bytes → IsFaultOf bytes fault → IsFaultOf left fault
input_fault left bytes after too_long is has = omega (arith, has, ap length is.parts, length-append bytes is.rest)
input_fault left bytes after (bad_line number) is has =
    let fits = has.3.size in
    subst (λ (l : List ℕ). IsFaultOf l (bad_line number)) (all_read (most_script_bytes + 1) left bytes after is (omega (arith, fits))) has
input_fault left bytes after too_many is has =
    let fits = has.3.size in
    subst (λ (l : List ℕ). IsFaultOf l too_many) (all_read (most_script_bytes + 1) left bytes after is (omega (arith, fits))) has

pub some_input_fault : (left bytes : List ℕ) (after : Option (List ℕ)) (fault : Option ScriptFault) → IsInput (most_script_bytes + 1) left after bytes → IfSome fault (IsFaultOf bytes) → IfSome fault (IsFaultOf left)
some_input_fault left bytes after None is has = tt
some_input_fault left bytes after (Some fault) is has = input_fault left bytes after fault is has

-- ---- no step

pub no_steps : (root : Option (List ℕ)) (bytes : List ℕ) (files : DiskImage) (answer earlier : ℕ) → (IsTrue (recovers_book answer) → ⊥) → TakesRunSteps root bytes files answer earlier earlier
no_steps root bytes files answer earlier never = record {
  none = λ nothing. refl;
  most = λ of. omega arith;
  least = λ ends of. absurd (never ends);
  exact = λ of steps tree run. record { most = omega arith; exact = λ ends. absurd (never ends) };
}

pub not_recovered : (answer status : ℕ) → (IsTrue (recovers_book status) → ⊥) → (answer ≡ status) ⊎ ((answer ≡ 6) ⊎ (answer ≡ 7)) → IsTrue (recovers_book answer) → ⊥
not_recovered answer status never (inl is) ends = never (subst (λ (n : ℕ). IsTrue (recovers_book n)) is ends)
not_recovered answer status never (inr failed) ends = not_over answer failed ends

pub two_recovers_none : IsTrue (recovers_book 2) → ⊥
two_recovers_none ends = let bad : false ≡ true = ends in absurd (cc)

pub four_recovers_none : IsTrue (recovers_book 4) → ⊥
four_recovers_none ends = let bad : false ≡ true = ends in absurd (cc)

pub five_recovers_none : IsTrue (recovers_book 5) → ⊥
five_recovers_none ends = let bad : false ≡ true = ends in absurd (cc)

pub eight_recovers_none : IsTrue (recovers_book 8) → ⊥
eight_recovers_none ends = let bad : false ≡ true = ends in absurd (cc)

pub seven_recovers_none : IsTrue (recovers_book 7) → ⊥
seven_recovers_none ends = let bad : false ≡ true = ends in absurd (cc)

module _ {D : Type 0} (standing : D → DiskState) (time : D → ℕ) (was : D → ℕ → CrashState → Type 0) where
  -- a line is told, and no book is recovered
  pub still_run : (root : Option (List ℕ)) (bytes text : List ℕ) (status answer : ℕ) (old new : D) → RootOutput root bytes (standing old).files status text → IsTrue (is_still status) → (IsTrue (recovers_book status) → ⊥)
      → IsToldWith status text (standing old) (standing new) (AtEachCrash time was old new) answer → IsRunOver root bytes (standing old) (standing new) (AtEachCrash time was old new) answer
  still_run root bytes text status answer old new gives is never told = record {
    output = told_output (RootOutput root bytes (standing old).files) status answer text (standing old).told (standing new).told gives told.told;
    prefix = told_prefix (RootOutput root bytes (standing old).files) status answer text (standing old).told (standing new).told gives told.told;
    crash = weaker time was old new (WhileTelling text (standing old)) (MayCrashIn root bytes (standing old)) told.crash (λ crash at. still status text gives is at);
    durable = λ ends. absurd (never (subst (λ (n : ℕ). IsTrue (recovers_book n)) (ended status answer text (standing old).told (standing new).told told.told ends) ends));
    others = λ nothing. told.same.files;
  }

  -- memory was wanting, and nothing was done
  pub quiet_run : (root : Option (List ℕ)) (bytes : List ℕ) (old : D) → ((crash : CrashState) → was old (time old) crash → IsCrashState (standing old) crash)
      → IsRunOver root bytes (standing old) (standing old) (AtEachCrash time was old old) 7
  quiet_run root bytes old only_now = record {
    output = λ ends. absurd (not_whole 7 (inr refl) ends);
    prefix = inl refl;
    crash = started time was old (MayCrashIn root bytes (standing old)) (λ crash since. early (only_now crash since));
    durable = λ ends. absurd (seven_recovers_none ends);
    others = λ nothing. refl;
  }

  told_fault : (root left : List ℕ) (fault : ScriptFault) (old new : D) (answer : ℕ) → IsFaultOf left fault → IsToldWith 4 (script_fault_line fault) (standing old) (standing new) (AtEachCrash time was old new) answer
      → IsRunOver (Some root) left (standing old) (standing new) (AtEachCrash time was old new) answer
  told_fault root left fault old new answer has told = still_run (Some root) left (script_fault_line fault) 4 answer old new (no_script fault has refl refl) refl four_recovers_none told

  pub fault_run : (root left : List ℕ) (fault : code.ScriptFault) (old new : D) (answer : ℕ) → ((crash : CrashState) → was old (time old) crash → IsCrashState (standing old) crash) → IfSome (script_fault fault) (IsFaultOf left)
      → (fault ≡ NoMemory → (answer ≡ 7) × (new ≡ old))
      → ((text : List ℕ) → option_map script_fault_line (script_fault fault) ≡ Some text → IsToldWith 4 text (standing old) (standing new) (AtEachCrash time was old new) answer)
      → IsRunOver (Some root) left (standing old) (standing new) (AtEachCrash time was old new) answer
  fault_run root left Long old new answer only_now has none told = told_fault root left too_long old new answer has (told _ refl)
  fault_run root left (BadLine number) old new answer only_now has none told = told_fault root left (bad_line number) old new answer has (told _ refl)
  fault_run root left Many old new answer only_now has none told = told_fault root left too_many old new answer has (told _ refl)
  fault_run root left NoMemory old new answer only_now has none told =
      let quiet = none refl in
      subst (λ (n : ℕ). IsRunOver (Some root) left (standing old) (standing new) (AtEachCrash time was old new) n) (sym quiet.0)
      (subst (λ (d : D). IsRunOver (Some root) left (standing old) (standing d) (AtEachCrash time was old d) 7) (sym quiet.1) (quiet_run (Some root) left old only_now))
