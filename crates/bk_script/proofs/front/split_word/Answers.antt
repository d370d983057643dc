use Rattle.std.proofs.Common.{◌≡◌}
use Rattle.std.specs.List.{prefix_len}
use Rattle.bk_script.specs.Reading.{is_no_blank}
use Rattle.xt_scan.proofs.Theorems.{boundary_at_stop, drop_while_is, take_while_is}
use Rattle.bk_script.proofs.Fronts.{no_blank_ascii}
use Rattle.bk_script.proofs.front.split_word.Goals as goal

pub split_at-requires : goal.split_at-requires
split_at-requires c =
    let n : c.no_blank_len.result ≡ prefix_len is_no_blank c.args.text.now = cc in
    rw n (boundary_at_stop is_no_blank c.args.text.now no_blank_ascii)

pub returns-clause-word : goal.returns-clause-word
returns-clause-word c =
    let e = take_while_is is_no_blank c.args.text.now in
    cc

pub returns-clause-rest : goal.returns-clause-rest
returns-clause-rest c =
    let e = drop_while_is is_no_blank c.args.text.now in
    cc
