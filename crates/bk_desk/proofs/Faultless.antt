-- How calls of a desk in a row keep it faultless.
use Rattle.std.proofs.Common.{ℕ, refl, ◌∙◌}
use Rattle.bk_desk.specs.Cause.{StaysFaultless}

module _ {D : Type 0} (faultless : D → Type 0) (faults : D → ℕ) where
  -- before the first call
  pub faultless_started : (old : D) → StaysFaultless faultless faults old old
  faultless_started old sound = (sound, refl)

  -- two runs, one after the other
  pub faultless_joined : (old mid new : D) → StaysFaultless faultless faults old mid → StaysFaultless faultless faults mid new → StaysFaultless faultless faults old new
  faultless_joined old mid new first second sound =
      let one = first sound in
      let two = second one.0 in
      (two.0, two.1 ∙ one.1)
