use Rattle.std.proofs.Common.{◌≡◌, drop}
use Rattle.bk_script.specs.Reading.{number_from}
use Rattle.bk_script.proofs.number.digits_value.Given as goal

abbrev pub invariant-loop-digit : goal.invariant-loop-digit
invariant-loop-digit l = number_from l.n (drop l.digit-index l.digits) ≡ number_from 0 l.digits
