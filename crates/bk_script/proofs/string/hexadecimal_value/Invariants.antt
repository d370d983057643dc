use Rattle.std.proofs.Common.{◌≡◌, ◌≤◌, drop}
use Rattle.xt_spec.specs.Reference.{number_behind}
use Rattle.bk_script.proofs.Strings.{digits_bound}
use Rattle.bk_script.proofs.string.hexadecimal_value.Given as goal

abbrev pub invariant-loop-digit : goal.invariant-loop-digit
invariant-loop-digit l = record {
  small : l.n ≤ digits_bound l.digit-index;
  same : number_behind 16 l.n (drop l.digit-index l.digits) ≡ number_behind 16 0 l.digits;
}
