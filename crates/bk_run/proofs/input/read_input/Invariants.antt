use Rattle.std.proofs.Common.{◌≡◌, ◌≤◌, ◌-◌, ◌+◌, if◌then◌else◌, ◌++◌, List, ℕ, [], false, length, Some}
use Rattle.xt_spec.specs.Limit.{most_script_bytes}
use Rattle.bk_run.proofs.input.read_input.Given as goal

abbrev pub invariant-loop-more : goal.invariant-loop-more
invariant-loop-more g l = record {
  told : (left : List ℕ) → g.S.Source.left l.fn.source ≡ Some left → (rest : List ℕ) × (g.S.Source.left l.source ≡ Some rest) × (left ≡ l.bytes.items ++ rest) × (l.more ≡ false → rest ≡ []);
  fits : length l.bytes.items ≤ (most_script_bytes + 1);
  faults : g.S.Source.faults l.fn.source ≤ g.S.Source.faults l.source;
}

abbrev pub decreases-loop-more : goal.decreases-loop-more
decreases-loop-more g l = ((most_script_bytes + 1) - length l.bytes.items) + (if l.more then 1 else 0)
