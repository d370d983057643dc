use Rattle.xt_read.proofs.ValueParts.{no_reference, reference_none}
use Rattle.xt_read.proofs.Cuts.{past}
use Rattle.xt_read.proofs.content.past_reference.Goals as goal

pub returns-in-None : goal.returns-in-None
returns-in-None c = no_reference c.args.text.now c.requires.begins c.in-None.ensures

pub returns-in-None-referenced_char : goal.returns-in-None-referenced_char
returns-in-None-referenced_char c = reference_none c.args.text.now c.in-Some.reference.now c.in-Some.behind.now c.requires.begins c.in-Some.ensures c.in-None-referenced_char.ensures

pub returns-in-Some-referenced_char : goal.returns-in-Some-referenced_char
returns-in-Some-referenced_char c = past c.args.text.now c.in-Some.reference.now c.in-Some.behind.now c.split_before.result.0.now c.split_before.result.1.now c.in-Some-referenced_char.field-0 c.in-Some.ensures.utf8 c.requires.begins c.in-Some.ensures c.in-Some-referenced_char.ensures c.split_before.ensures.value c.split_before.ensures.rest
