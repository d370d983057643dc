use Rattle.std.proofs.Common.{◌≡◌, ◌++◌, length, map, string_bytes}
use denote.Text.{Utf8}
use denote.Shadow.{shadow}
use Rattle.xt_spec.specs.LineEnds.{lines_read}
use Rattle.xt_spec.specs.Value.{spaced}
use Rattle.xt_value.proofs.lines.put_spaced.Given as goal

abbrev pub invariant-loop-rest : goal.invariant-loop-rest
invariant-loop-rest l = shadow (Utf8 l.rest) × (string_bytes l.fn.out ++ map spaced (lines_read l.fn.text) ≡ string_bytes l.out ++ map spaced (lines_read l.rest))

abbrev pub decreases-loop-rest : goal.decreases-loop-rest
decreases-loop-rest l = length l.rest
