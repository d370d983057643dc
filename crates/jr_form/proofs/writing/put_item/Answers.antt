use Rattle.std.proofs.Common.{ap, arith, length}
use Rattle.jr_form.proofs.Items.{length-name}
use Rattle.jr_form.proofs.writing.put_item.Goals as goal

pub overflow_cast-len : goal.overflow_cast-len
overflow_cast-len c = omega (arith, length-name c.args.item.now.name c.as_str.ensures.keeps, c.as_bytes-name.ensures.len, ap length c.as_str.ensures.value)
