use Rattle.xt_read.proofs.FrontItems.{one_text_are, one_text_stand}
use Rattle.xt_read.proofs.text.one_text_items.Goals as goal

pub returns-clause-value : goal.returns-clause-value
returns-clause-value c text = one_text_are text c.args.mark c.args.len c.in_ok-tape.tape c.begin_with_mark.new.tape c.in_ok-tape.ensures.value c.in_ok-begin_with_mark.ensures.value

pub returns-clause-place : goal.returns-clause-place
returns-clause-place c = one_text_stand c.args.mark c.args.len c.in_ok-tape.tape c.begin_with_mark.new.tape c.in_ok-tape.ensures.value c.in_ok-begin_with_mark.ensures.value
