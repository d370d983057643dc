use Rattle.std.proofs.Common.{◌≡◌}
use Rattle.std.specs.List.{prefix_len}
use Rattle.xt_scan.proofs.Theorems.{boundary_behind, drop_while_is}
use Rattle.bk_script.specs.Word.{is_blank}
use Rattle.bk_script.proofs.Fronts.{blank_ascii}
use Rattle.bk_script.proofs.front.after_blanks.Goals as goal

pub range_from-requires : goal.range_from-requires
range_from-requires c some =
    let n : c.blank_len.result ≡ prefix_len is_blank c.args.text.now = cc in
    boundary_behind is_blank c.args.text.now c.utf8.text blank_ascii c.blank_len.result n some

pub returns : goal.returns
returns c =
    let e = drop_while_is is_blank c.args.text.now in
    cc
