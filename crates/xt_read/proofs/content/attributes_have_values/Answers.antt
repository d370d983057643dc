use Rattle.std.proofs.Common.{List, subst, sym}
use Rattle.xt_lex.specs.declared.attribute.AttrSrc.{AttrSrc}
use Rattle.xt_read.specs.ContentTest.{StandAll}
use Rattle.xt_read.proofs.TagValues.{left_step, left_more, left_fails}
use Rattle.xt_read.proofs.content.attributes_have_values.Goals as goal

pub loop-attr-init : goal.loop-attr-init
loop-attr-init c = λ all stand. record { left = all; stand = subst (λ (s : List AttrSrc). StandAll c.args.text.now s all) (sym c.again-left.ensures.value) stand; forth = λ p. p; back = λ p. p }

pub attribute_has_value-requires : goal.attribute_has_value-requires
attribute_has_value-requires c =
    let f = left_step c.args.text.now c.loop-attr.left c.in-Some.rest c.in-Some.attr c.requires.stand.0 c.in-Some.ensures.value (c.loop-attr.invariant c.requires.stand.0 c.requires.stand.1) in
    record { stands = (f.first, f.stands) }

pub returns-then-not-attribute_has_value : goal.returns-then-not-attribute_has_value
returns-then-not-attribute_has_value c = λ all stand.
    let f = left_step c.args.text.now c.loop-attr.left c.in-Some.rest c.in-Some.attr all c.in-Some.ensures.value (c.loop-attr.invariant all stand) in
    ((λ h. absurd (cc)), λ p. absurd (left_fails c.args.text.now _ _ all c.attribute_has_value.result f (c.attribute_has_value.ensures f.first f.stands) c.if-not-attribute_has_value.true p))

pub loop-attr-preserved : goal.loop-attr-preserved
loop-attr-preserved c = λ all stand.
    let f = left_step c.args.text.now c.loop-attr.left c.in-Some.rest c.in-Some.attr all c.in-Some.ensures.value (c.loop-attr.invariant all stand) in
    left_more c.args.text.now _ _ all c.attribute_has_value.result f (c.attribute_has_value.ensures f.first f.stands) c.if-not-attribute_has_value.false
