use Rattle.std.proofs.Common.{◌≡◌, arith, eqb-true}
use Rattle.std.proofs.lemmas.Bool.{not-false}
use Rattle.std.specs.List.{prefix_len}
use Rattle.xt_lex.specs.Scan.{is_no_ampersand}
use Rattle.xt_lex.proofs.Runs.{boundary_at_stop, drop_while_is}
use Rattle.xt_lex.proofs.attribute.at_ampersand.Goals as goal

pub range_from-requires : goal.range_from-requires
range_from-requires c some =
    let n : c.no_ampersand_len.result ≡ prefix_len is_no_ampersand c.args.text.now = cc in
    rw n (boundary_at_stop is_no_ampersand c.args.text.now (λ b e. let is = eqb-true b 38 (not-false _ e) in omega arith))

pub returns : goal.returns
returns c =
    let e = drop_while_is is_no_ampersand c.args.text.now in
    cc
