use Rattle.std.proofs.Common.{arith}
use Rattle.std.proofs.lemmas.List.Sums.{prefix_len-le-length}
use Rattle.xt_spec.specs.Reference.{is_decimal_digit}
use Rattle.xt_scan.proofs.Theorems.{drop_while_is, take_while_is}
use Rattle.bk_script.proofs.place.split_digits.Goals as goal

pub split_at-requires : goal.split_at-requires
split_at-requires c = omega (arith, c.decimal_len.ensures, prefix_len-le-length is_decimal_digit c.args.bytes.now)

pub returns-clause-digits : goal.returns-clause-digits
returns-clause-digits c =
    let e = take_while_is is_decimal_digit c.args.bytes.now in
    cc

pub returns-clause-rest : goal.returns-clause-rest
returns-clause-rest c =
    let e = drop_while_is is_decimal_digit c.args.bytes.now in
    cc
