use Rattle.std.proofs.Common.{◌≡◌}
use Rattle.std.specs.List.{prefix_len}
use Rattle.xt_lex.specs.NameTest.{is_name_byte}
use Rattle.xt_lex.proofs.Runs.{boundary_at_stop, stop_ascii, drop_while_is, take_while_is}
use Rattle.xt_lex.proofs.front.split_name.Goals as goal

pub split_at-requires : goal.split_at-requires
split_at-requires c =
    let n : c.name_len.result ≡ prefix_len is_name_byte c.args.text.now = cc in
    rw n (boundary_at_stop is_name_byte c.args.text.now stop_ascii)

pub returns-clause-name : goal.returns-clause-name
returns-clause-name c =
    let e = take_while_is is_name_byte c.args.text.now in
    cc

pub returns-clause-rest : goal.returns-clause-rest
returns-clause-rest c =
    let e = drop_while_is is_name_byte c.args.text.now in
    cc
