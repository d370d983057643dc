use Rattle.std.proofs.Common.{◌≡◌}
use Rattle.std.specs.List.{prefix_len}
use Rattle.xt_spec.specs.Reference.{is_decimal_digit}
use Rattle.xt_lex.proofs.Runs.{boundary_behind_or_start, decimal_ascii, drop_while_is, take_while_is}
use Rattle.xt_lex.proofs.reference.split_decimal.Goals as goal

pub split_at-requires : goal.split_at-requires
split_at-requires c =
    let n : c.decimal_len.result ≡ prefix_len is_decimal_digit c.args.text.now = cc in
    boundary_behind_or_start is_decimal_digit c.args.text.now c.utf8.text decimal_ascii c.decimal_len.result n

pub returns-clause-digits : goal.returns-clause-digits
returns-clause-digits c =
    let e = take_while_is is_decimal_digit c.args.text.now in
    cc

pub returns-clause-rest : goal.returns-clause-rest
returns-clause-rest c =
    let e = drop_while_is is_decimal_digit c.args.text.now in
    cc
