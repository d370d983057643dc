use Rattle.std.proofs.Common.{take}
use Rattle.bk_desk.specs.Left.{left_image, is_named}
use Rattle.bk_desk.specs.Covers.{Covers}
use Rattle.bk_desk.proofs.stop.left_of_start.Given as goal

abbrev pub invariant-loop-entry : goal.invariant-loop-entry
invariant-loop-entry l = Covers (left_image l.start l.calls l.left) (is_named (take l.entry-index l.start)) l.entries.items
