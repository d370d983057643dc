use Rattle.std.proofs.Common.{◌≡◌, take}
use Rattle.std.specs.List.{list_all}
use Rattle.bk_place.specs.Printing.{is_unescaped}
use Rattle.bk_place.proofs.value.are_unescaped.Given as goal

abbrev pub invariant-loop-b : goal.invariant-loop-b
invariant-loop-b l = l.plain ≡ list_all is_unescaped (take l.b-index l.bytes)
