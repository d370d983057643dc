use Rattle.std.proofs.Common.{sym, ◌∙◌}
use Rattle.xt_lex.proofs.Attributes.{attribute_step, attribute_end}
use Rattle.xt_lex.proofs.tag.after_attributes.Goals as goal

pub loop-next-smaller : goal.loop-next-smaller
loop-next-smaller c = (attribute_step c.loop-next.rest.now c.in-Some.next.now c.loop-next.invariant.utf8 (sym c.in-Some.ensures)).0

pub loop-next-preserved : goal.loop-next-preserved
loop-next-preserved c =
    let step = attribute_step c.loop-next.rest.now c.in-Some.next.now c.loop-next.invariant.utf8 (sym c.in-Some.ensures) in
    record { utf8 = step.2; same = sym step.1 ∙ c.loop-next.invariant.same }

pub returns : goal.returns
returns c = sym (attribute_end c.loop-next.rest.now (sym c.in_default.ensures)) ∙ c.loop-next.invariant.same
