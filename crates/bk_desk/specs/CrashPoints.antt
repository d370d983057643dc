-- Time, and what a crash may leave at each point since an earlier time; of this project.
-- A trait's `was` says of each value which crash states were possible at or after a time, in a call or between two.
--
--   Elapses        what one call adds to the crash states since any earlier time
--   AtEachCrash    each crash state since a run of calls began has a property
use Rattle.std.specs.Prelude.{◌⊎◌, ℕ, ◌≤◌}
use Rattle.bk_desk.specs.Disk.{CrashState}

-- time goes on by a call: each crash state since an earlier time is one of before, or one within this call
pub record Elapses (before now : ℕ) (past since : ℕ → CrashState → Type 0) (within : CrashState → Type 0) : Type 0 where
  pub later : before ≤ now
  pub nothing_else : (t : ℕ) (crash : CrashState) → t ≤ before → since t crash → past t crash ⊎ within crash
  pub keeps : (t : ℕ) (crash : CrashState) → t ≤ before → past t crash → since t crash

-- each crash state since old has P
pub record AtEachCrash {D : Type 0} (time : D → ℕ) (was : D → ℕ → CrashState → Type 0) (old new : D) (P : CrashState → Type 0) : Type 0 where
  pub later : time old ≤ time new
  pub each : (crash : CrashState) → was new (time old) crash → P crash
  -- for a run that began earlier
  pub before : (t : ℕ) (crash : CrashState) → t ≤ time old → was new t crash → was old t crash ⊎ P crash
