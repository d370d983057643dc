use Rattle.std.proofs.Common.{◌∙◌, [], sym, rules, string_bytes}
use Rattle.xt_value.specs.Parts.{HasRawValue}
use Rattle.xt_value.proofs.PartLemmas.{adds_nothing, adds_then, value_whole}
use Rattle.xt_value.proofs.ValueLemmas.{raw_end}
use Rattle.xt_value.proofs.attribute.raw_value.Goals as goal

pub loop-rest-init : goal.loop-rest-init
loop-rest-init c = (c.utf8.raw, λ q. adds_nothing (HasRawValue q) c.args.raw.now [] (string_bytes c.in_ok-out.out) c.in_ok-out.ensures.bytes)

pub loop-rest-preserved : goal.loop-rest-preserved
loop-rest-preserved c =
    (search rules, λ q. adds_then (HasRawValue q) c.args.raw.now c.loop-rest.rest.now c.in_ok-rest.rest.now [] (string_bytes c.loop-rest.out) (string_bytes c.put_part.new.out) (c.loop-rest.invariant.1 q) (c.in_ok-rest.ensures.value q))

pub returns : goal.returns
returns c = record {
  exact = λ q. value_whole (HasRawValue q) c.args.raw.now c.loop-rest.rest.now (string_bytes c.loop-rest.out) (raw_end q) (c.loop-rest.invariant.1 q) (sym c.is_empty.ensures ∙ c.loop-rest-test.false);
}
