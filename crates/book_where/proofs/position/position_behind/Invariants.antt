use Rattle.std.proofs.Common.{◌≤◌, ◌+◌, drop}
use Rattle.book_where.specs.Position.{Reached}
use Rattle.book_where.proofs.position.position_behind.Given as goal

abbrev pub invariant-loop-byte : goal.invariant-loop-byte
invariant-loop-byte l = record {
  within : (l.position.line ≤ l.byte-index + 1) × (l.position.column ≤ l.byte-index + 1);
  reached : Reached l.text (drop l.byte-index l.text) l.was_cr l.position.line l.position.column;
}
