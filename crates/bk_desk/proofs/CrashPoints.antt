-- How a run of calls of a desk goes on: the crash states since it began.
use Rattle.std.proofs.Common.{inl, inr, ⊎_elim, ℕ, arith}
use Rattle.bk_desk.specs.Disk.{CrashState}
use Rattle.bk_desk.specs.CrashPoints.{Elapses, AtEachCrash}

module _ {D : Type 0} (time : D → ℕ) (was : D → ℕ → CrashState → Type 0) where
  -- before the first call
  pub started : (old : D) (P : CrashState → Type 0) → ((crash : CrashState) → was old (time old) crash → P crash) → AtEachCrash time was old old P
  started old P here = record { later = omega arith; each = here; before = λ t crash le since. inl since }

  -- one call more
  pub goes_on : (old mid new : D) (P within : CrashState → Type 0) → AtEachCrash time was old mid P → Elapses (time mid) (time new) (was mid) (was new) within
      → ((crash : CrashState) → within crash → P crash) → AtEachCrash time was old new P
  goes_on old mid new P within so_far call here = record {
    later = omega (arith, so_far.later, call.later);
    each = λ crash since. ⊎_elim (so_far.each crash) (here crash) (call.nothing_else (time old) crash so_far.later since);
    before = λ t crash le since. ⊎_elim (so_far.before t crash le) (λ now. inr (here crash now)) (call.nothing_else t crash (omega (arith, le, so_far.later)) since);
  }

  -- two runs, one after the other
  pub joined : (old mid new : D) (P : CrashState → Type 0) → AtEachCrash time was old mid P → AtEachCrash time was mid new P → AtEachCrash time was old new P
  joined old mid new P first second = record {
    later = omega (arith, first.later, second.later);
    each = λ crash since. ⊎_elim (first.each crash) (λ p. p) (second.before (time old) crash first.later since);
    before = λ t crash le since. ⊎_elim (first.before t crash le) (λ p. inr p) (second.before t crash (omega (arith, le, first.later)) since);
  }

  pub weaker : (old new : D) (P Q : CrashState → Type 0) → AtEachCrash time was old new P → ((crash : CrashState) → P crash → Q crash) → AtEachCrash time was old new Q
  weaker old new P Q run to = record {
    later = run.later;
    each = λ crash since. to crash (run.each crash since);
    before = λ t crash le since. ⊎_elim (λ past. inl past) (λ p. inr (to crash p)) (run.before t crash le since);
  }
