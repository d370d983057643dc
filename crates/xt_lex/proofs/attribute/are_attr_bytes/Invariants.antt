use Rattle.std.proofs.Common.{◌≡◌, take}
use Rattle.std.specs.List.{list_all}
use Rattle.xt_lex.specs.Fast.{is_attr_byte}
use Rattle.xt_lex.proofs.attribute.are_attr_bytes.Given as goal

abbrev pub invariant-loop-b : goal.invariant-loop-b
invariant-loop-b l = l.sound ≡ list_all is_attr_byte (take l.b-index l.bytes)
