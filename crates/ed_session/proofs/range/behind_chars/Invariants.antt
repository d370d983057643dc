use Rattle.std.proofs.Common.{◌-◌, ◌≤◌}
use denote.Text.{Utf8}
use denote.Shadow.{shadow}
use Rattle.ed_session.specs.Ranges.{IsCut}
use Rattle.ed_session.proofs.range.behind_chars.Given as goal

abbrev pub invariant-loop-passed : goal.invariant-loop-passed
invariant-loop-passed l = shadow (Utf8 l.rest) × IsCut l.text l.passed l.rest × (l.passed ≤ l.count)

abbrev pub decreases-loop-passed : goal.decreases-loop-passed
decreases-loop-passed l = l.count - l.passed
