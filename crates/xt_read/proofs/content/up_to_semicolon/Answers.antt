use Rattle.std.proofs.Common.{lit<, arith}
use Rattle.std.proofs.lemmas.Bool.Decides.{nat_tests}
use Rattle.xt_read.proofs.Cuts.{cuts, cut_boundary, lacks_when_empty, up_to}
use Rattle.xt_read.proofs.content.up_to_semicolon.Goals as goal

pub split_at-requires : goal.split_at-requires
split_at-requires c =
    let full = c.if-is_empty.false in
    let empty = c.is_empty.ensures in
    cut_boundary 0x3B c.args.text.now c.split_before.result.0.now c.split_before.result.1.now c.utf8.text (lit< tt)
    (cuts 0x3B c.args.text.now c.split_before.result.0.now c.split_before.result.1.now c.split_before.ensures.value c.split_before.ensures.rest (λ none. grind (arith, nat_tests)))

pub returns-then-is_empty : goal.returns-then-is_empty
returns-then-is_empty c =
    let none = c.if-is_empty.true in
    let empty = c.is_empty.ensures in
    lacks_when_empty 0x3B c.args.text.now c.split_before.result.1.now c.split_before.ensures.rest (grind (arith, nat_tests))

pub returns-else-is_empty : goal.returns-else-is_empty
returns-else-is_empty c =
    let full = c.if-is_empty.false in
    let empty = c.is_empty.ensures in
    up_to c.args.text.now c.split_before.result.0.now c.split_before.result.1.now c.split_at.result.0.now c.split_at.result.1.now c.utf8.text c.split_before.ensures.value
    (cuts 0x3B c.args.text.now c.split_before.result.0.now c.split_before.result.1.now c.split_before.ensures.value c.split_before.ensures.rest (λ none. grind (arith, nat_tests)))
    c.split_at.ensures.front c.split_at.ensures.back
