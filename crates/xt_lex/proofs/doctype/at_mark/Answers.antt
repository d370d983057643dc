use Rattle.std.proofs.Common.{◌≡◌}
use Rattle.std.specs.List.{prefix_len}
use Rattle.xt_lex.specs.Scan.{is_plain_in_subset}
use Rattle.xt_lex.proofs.Runs.{boundary_at_stop, mark_ascii, drop_while_is}
use Rattle.xt_lex.proofs.doctype.at_mark.Goals as goal

pub range_from-requires : goal.range_from-requires
range_from-requires c some =
    let n : c.plain_len.result ≡ prefix_len is_plain_in_subset c.args.text.now = cc in
    rw n (boundary_at_stop is_plain_in_subset c.args.text.now mark_ascii)

pub returns : goal.returns
returns c =
    let e = drop_while_is is_plain_in_subset c.args.text.now in
    cc
