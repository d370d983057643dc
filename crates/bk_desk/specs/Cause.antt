-- The cause of an error: a count that rose; of this project.
--
--   Rose             a count of 64 bits rose, or stands at its last value
--   HasCause         a count never falls, and where the call failed it rose
--   StaysFaultless  where no later call could fail, none can afterwards, and no fault was counted
use Rattle.std.specs.Prelude.{◌≡◌, ℕ, ◌+◌, ◌-◌, ◌^◌, ◌≤◌, min}

-- the count rose, or stands at its last value, 2 ^ 64 - 1
abbrev pub Rose : ℕ → ℕ → Type 0
Rose before now = min (before + 1) (2 ^ 64 - 1) ≤ now

-- over a call the count didn't fall, and where the call failed in this way it rose
pub record HasCause (before now : ℕ) (failed : Type 0) : Type 0 where
  pub later : before ≤ now
  pub rose : failed → Rose before now

-- over calls: where no later call could fail, none can afterwards, and the count of faults is as it was
abbrev pub StaysFaultless : {D : Type 0} → (D → Type 0) → (D → ℕ) → D → D → Type 0
StaysFaultless faultless faults old new = faultless old → (faultless new × (faults new ≡ faults old))
