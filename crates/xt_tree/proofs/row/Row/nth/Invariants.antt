use Rattle.std.proofs.Common.{◌≡◌, length, slice_get}
use Rattle.xt_tree.proofs.row.Row.nth.Given as goal

-- the item that is sought stands so many behind the first of those that are left
abbrev pub invariant-loop-item : goal.invariant-loop-item
invariant-loop-item l = slice_get l.left l.more ≡ slice_get l.fn.self l.fn.index

abbrev pub decreases-loop-item : goal.decreases-loop-item
decreases-loop-item l = length l.left
