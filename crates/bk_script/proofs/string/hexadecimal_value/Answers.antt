use Rattle.std.proofs.Common.{arith}
use Rattle.bk_script.proofs.Strings.{bound_small}
use Rattle.bk_script.proofs.string.hexadecimal_value.Goals as goal

pub overflow_mul-n : goal.overflow_mul-n
overflow_mul-n c =
    let index = c.loop-digit.digit-index in
    omega (arith, c.loop-digit.invariant.small, bound_small index (omega (arith, c.loop-digit-test.true, c.requires.few)))

pub overflow_add-n : goal.overflow_add-n
overflow_add-n c =
    let index = c.loop-digit.digit-index in
    omega (arith, c.loop-digit.invariant.small, bound_small index (omega (arith, c.loop-digit-test.true, c.requires.few)), c.digit_value.ensures.small)
