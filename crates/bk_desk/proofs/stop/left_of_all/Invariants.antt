use Rattle.std.proofs.Common.{take, ◌||◌}
use Rattle.bk_desk.specs.Left.{left_image, is_named, is_written}
use Rattle.bk_desk.specs.Covers.{Covers}
use Rattle.bk_desk.proofs.stop.left_of_all.Given as goal

abbrev pub invariant-loop-call : goal.invariant-loop-call
invariant-loop-call l = Covers (left_image l.start l.calls l.left) (λ name. is_named l.start name || is_written (take l.call-index l.calls) name) l.entries.items
