use Rattle.std.proofs.Common.{ℕ, [], length, string_bytes}
use denote.Text.{Utf8}
use denote.Shadow.{shadow}
use Rattle.xt_value.specs.Parts.{Adds, HasRawValue}
use Rattle.xt_value.proofs.attribute.raw_value.Given as goal

abbrev pub invariant-loop-rest : goal.invariant-loop-rest
invariant-loop-rest l = shadow (Utf8 l.rest) × ((q : ℕ) → Adds (HasRawValue q) l.fn.raw l.rest [] (string_bytes l.out))

abbrev pub decreases-loop-rest : goal.decreases-loop-rest
decreases-loop-rest l = length l.rest
