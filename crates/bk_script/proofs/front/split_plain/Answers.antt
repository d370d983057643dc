use Rattle.std.proofs.Common.{◌≡◌}
use Rattle.std.specs.List.{prefix_len}
use Rattle.bk_script.specs.Word.{is_plain}
use Rattle.xt_scan.proofs.Theorems.{boundary_at_stop, drop_while_is, take_while_is}
use Rattle.bk_script.proofs.Fronts.{no_plain_ascii}
use Rattle.bk_script.proofs.front.split_plain.Goals as goal

pub split_at-requires : goal.split_at-requires
split_at-requires c =
    let n : c.plain_len.result ≡ prefix_len is_plain c.args.text.now = cc in
    rw n (boundary_at_stop is_plain c.args.text.now no_plain_ascii)

pub returns-clause-plain : goal.returns-clause-plain
returns-clause-plain c =
    let e = take_while_is is_plain c.args.text.now in
    cc

pub returns-clause-rest : goal.returns-clause-rest
returns-clause-rest c =
    let e = drop_while_is is_plain c.args.text.now in
    cc
