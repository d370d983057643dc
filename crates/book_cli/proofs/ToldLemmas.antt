-- A text that is told, whole or in part.
use Rattle.std.proofs.Common.{◌≡◌, ◌∙◌, ◌⊎◌, ℕ, List, refl, sym, inr}
use Rattle.std.proofs.lemmas.List.{append-nil}
use Rattle.bk_desk.specs.Disk.{DiskState, CrashState, IsCrashState, WhileTelling, TellsPrefix}
use Rattle.bk_desk.specs.CrashPoints.{Elapses, AtEachCrash}
use Rattle.bk_desk.proofs.Theorems.{started, goes_on}
use Rattle.book_cli.specs.Ends.{cut, IsToldWith}

-- before a call tells anything
pub not_begun : (text : List ℕ) (start : DiskState) (crash : CrashState) → IsCrashState start crash → WhileTelling text start crash
not_begun text start crash is = record { image = is.image; told = (0, is.told ∙ sym (append-nil start.told)) }

module _ {D : Type 0} (standing : D → DiskState) (time : D → ℕ) (was : D → ℕ → CrashState → Type 0) where
  -- the call that tells it failed
  pub told_in_part : (status : ℕ) (text : List ℕ) (old new : D) (answer : ℕ) → ((crash : CrashState) → was old (time old) crash → IsCrashState (standing old) crash) → (answer ≡ 6) ⊎ (answer ≡ 7)
      → TellsPrefix text (standing old) (standing new) → Elapses (time old) (time new) (was old) (was new) (WhileTelling text (standing old))
      → IsToldWith status text (standing old) (standing new) (AtEachCrash time was old new) answer
  told_in_part status text old new answer only_now failed tells call = record {
    told = cut failed tells.0 tells.1.told;
    same = record { files = tells.1.files; pending = tells.1.pending };
    crash = goes_on time was old old new (WhileTelling text (standing old)) (WhileTelling text (standing old))
        (started time was old (WhileTelling text (standing old)) (λ crash since. not_begun text (standing old) crash (only_now crash since))) call (λ crash is. is);
  }

  -- it was not called
  pub not_told : (status : ℕ) (text : List ℕ) (old : D) → ((crash : CrashState) → was old (time old) crash → IsCrashState (standing old) crash)
      → IsToldWith status text (standing old) (standing old) (AtEachCrash time was old old) 7
  not_told status text old only_now = record {
    told = cut (inr refl) 0 (sym (append-nil (standing old).told));
    same = record { files = refl; pending = refl };
    crash = started time was old (WhileTelling text (standing old)) (λ crash since. not_begun text (standing old) crash (only_now crash since));
  }
