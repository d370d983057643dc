use Rattle.std.proofs.Common.{◌≡◌, ◌≤◌, min, drop}
use Rattle.xt_spec.specs.Reference.{number_behind}
use Rattle.xt_lex.proofs.reference.number.Given as goal

abbrev pub invariant-loop-digit : goal.invariant-loop-digit
invariant-loop-digit l = record {
  small : l.n ≤ 1114112;
  same : min (number_behind l.base l.n (drop l.digit-index l.digits)) 1114112 ≡ min (number_behind l.base 0 l.digits) 1114112;
}
