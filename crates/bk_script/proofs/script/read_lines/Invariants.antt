use Rattle.std.proofs.Common.{◌≡◌, ◌≤◌, ◌+◌, length, map, []}
use Rattle.bk_script.specs.Reading.{lines_of, lines_read}
use Rattle.bk_script.specs.View.{command_of}
use Rattle.bk_script.proofs.script.read_lines.Given as goal

abbrev pub invariant-loop-line : goal.invariant-loop-line
invariant-loop-line l = record {
  counted : l.number + length l.rest ≤ 1 + length l.bytes;
  same : lines_read l.number (map command_of l.commands.items) (lines_of l.rest) ≡ lines_read 1 [] (lines_of l.bytes);
}

abbrev pub decreases-loop-line : goal.decreases-loop-line
decreases-loop-line l = length l.rest
