use Rattle.std.proofs.Common.{[], length, string_bytes}
use denote.Text.{Utf8}
use denote.Shadow.{shadow}
use Rattle.xt_spec.specs.Text.{HasValueIn}
use Rattle.xt_value.specs.Parts.{Adds}
use Rattle.xt_value.proofs.text.text_value.Given as goal

abbrev pub invariant-loop-rest : goal.invariant-loop-rest
invariant-loop-rest l = shadow (Utf8 l.rest) × Adds (HasValueIn l.fn.inner) l.fn.text l.rest [] (string_bytes l.out)

abbrev pub decreases-loop-rest : goal.decreases-loop-rest
decreases-loop-rest l = length l.rest
