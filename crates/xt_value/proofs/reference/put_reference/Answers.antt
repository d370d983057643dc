use Rattle.std.proofs.Common.{string_bytes}
use Rattle.xt_value.proofs.References.{puts_char, puts_none}
use Rattle.xt_value.proofs.reference.put_reference.Goals as goal

pub returns-in_ok-push-in-Some-clause-value : goal.returns-in_ok-push-in-Some-clause-value
returns-in_ok-push-in-Some-clause-value c =
    puts_char c.args.text.now c.split_reference.result.0.now c.split_reference.result.1.now (string_bytes c.args.out.now) (string_bytes c.push.new.self) c.in-Some.c c.split_reference.ensures.value c.in-Some.ensures c.in_ok-push-in-Some.ensures.bytes

pub returns-in-None-clause-value : goal.returns-in-None-clause-value
returns-in-None-clause-value c =
    puts_none c.args.text.now c.split_reference.result.0.now c.split_reference.result.1.now (string_bytes c.args.out.now) _ c.split_reference.ensures.value c.in-None.ensures
