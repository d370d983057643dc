use Rattle.std.proofs.Common.{◌≡◌, length}
use Rattle.std.specs.Str.{IsUtf8}
use Rattle.xt_scan.specs.Step.{many_read}
use Rattle.xt_lex.specs.Tag.{attribute}
use Rattle.xt_lex.proofs.tag.after_attributes.Given as goal

abbrev pub invariant-loop-next : goal.invariant-loop-next
invariant-loop-next l = record { utf8 : IsUtf8 l.rest; same : (many_read attribute.read l.rest).1 ≡ (many_read attribute.read l.text).1 }

abbrev pub decreases-loop-next : goal.decreases-loop-next
decreases-loop-next l = length l.rest
