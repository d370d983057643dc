use Rattle.std.proofs.Common.{◌≡◌}
use Rattle.std.specs.List.{prefix_len}
use Rattle.xt_spec.specs.Reference.{is_hexadecimal_digit}
use Rattle.xt_scan.proofs.Theorems.{boundary_behind_or_start, drop_while_is, take_while_is}
use Rattle.xt_lex.proofs.Theorems.{hexadecimal_ascii}
use Rattle.bk_script.proofs.front.split_hexadecimal.Goals as goal

pub split_at-requires : goal.split_at-requires
split_at-requires c =
    let n : c.hexadecimal_len.result ≡ prefix_len is_hexadecimal_digit c.args.text.now = cc in
    boundary_behind_or_start is_hexadecimal_digit c.args.text.now c.utf8.text hexadecimal_ascii c.hexadecimal_len.result n

pub returns-clause-digits : goal.returns-clause-digits
returns-clause-digits c =
    let e = take_while_is is_hexadecimal_digit c.args.text.now in
    cc

pub returns-clause-rest : goal.returns-clause-rest
returns-clause-rest c =
    let e = drop_while_is is_hexadecimal_digit c.args.text.now in
    cc
