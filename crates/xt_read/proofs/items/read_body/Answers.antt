use Rattle.xt_tree.specs.Built.{built}
use Rattle.xt_read.specs.Progress.{body_of, state_of}
use Rattle.xt_read.proofs.Whole.{ends_early, is_read}
use Rattle.xt_read.proofs.items.read_body.Goals as goal

pub returns-then-not-is_whole-clause-fault : goal.returns-then-not-is_whole-clause-fault
returns-then-not-is_whole-clause-fault c =
    let text = c.args.text.now in
    ends_early (body_of c.args.body) text c.args.from (state_of text c.in-Ok.reader) c.requires.within c.in-Ok.ensures.value (λ whole. let it = (c.is_whole.ensures.value text).1 whole in let but = c.if-not-is_whole.true in cc)

pub returns-in-Ok-settle-clause-value : goal.returns-in-Ok-settle-clause-value
returns-in-Ok-settle-clause-value c =
    let text = c.args.text.now in
    is_read (body_of c.args.body) text c.args.from c.in-Ok.reader (built c.settle.new.self.tape).items c.into_tape.result c.in-Ok.ensures.value ((c.is_whole.ensures.value text).0 c.if-not-is_whole.false) (c.in-Ok-settle.ensures.items text) c.into_tape.ensures
