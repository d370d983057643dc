use Rattle.std.proofs.Common.{◌∙◌, [], sym, rules, string_bytes}
use Rattle.xt_spec.specs.Text.{HasValueIn}
use Rattle.xt_value.proofs.PartLemmas.{adds_nothing, adds_then, value_end, value_whole, value_is}
use Rattle.xt_value.proofs.text.text_value.Goals as goal

pub loop-rest-init : goal.loop-rest-init
loop-rest-init c = (c.utf8.text, adds_nothing (HasValueIn c.args.inner) c.args.text.now [] (string_bytes c.in_ok-out.out) c.in_ok-out.ensures.bytes)

pub loop-rest-preserved : goal.loop-rest-preserved
loop-rest-preserved c =
    (search rules, adds_then (HasValueIn c.args.inner) c.args.text.now c.loop-rest.rest.now c.in_ok-rest.rest.now [] (string_bytes c.loop-rest.out) (string_bytes c.put_part.new.out) c.loop-rest.invariant.1 c.in_ok-rest.ensures.value)

pub returns-clause-value : goal.returns-clause-value
returns-clause-value c (parts, are, some, spell) =
    value_is c.args.inner c.args.text.now (string_bytes c.loop-rest.out) parts are spell (value_whole (HasValueIn c.args.inner) c.args.text.now c.loop-rest.rest.now (string_bytes c.loop-rest.out) (value_end c.args.inner) c.loop-rest.invariant.1 (sym c.is_empty.ensures ∙ c.loop-rest-test.false))

pub returns-clause-exact : goal.returns-clause-exact
returns-clause-exact c = value_whole (HasValueIn c.args.inner) c.args.text.now c.loop-rest.rest.now (string_bytes c.loop-rest.out) (value_end c.args.inner) c.loop-rest.invariant.1 (sym c.is_empty.ensures ∙ c.loop-rest-test.false)
