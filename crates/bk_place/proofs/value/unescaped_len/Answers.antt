use Rattle.std.proofs.Common.{◌≡◌, ◌∙◌, ◌≤◌, ◌+◌, ◌-◌, length, take, drop, true, sym, arith}
use Rattle.std.specs.List.{list_all}
use Rattle.bk_place.specs.Printing.{is_unescaped}
use Rattle.bk_place.proofs.ValueLemmas.{block_passes}
use Rattle.bk_place.proofs.value.unescaped_len.Goals as goal

pub loop-len-preserved : goal.loop-len-preserved
loop-len-preserved c =
    let within : c.loop-len.len + 16 ≤ length c.args.bytes.now = omega (arith, c.loop-len-test.true, c.loop-len.invariant.0) in
    let size : c.loop-len.len + 16 - c.loop-len.len ≡ 16 = omega arith in
    let passes : list_all is_unescaped (take 16 (drop c.loop-len.len c.args.bytes.now)) ≡ true =
    rw size at (sym c.are_unescaped.ensures.value ∙ c.if-are_unescaped.true) in
    (within, block_passes is_unescaped c.loop-len.len 16 c.args.bytes.now within passes c.loop-len.invariant.1)
