use Rattle.std.proofs.Common.{sym, subst}
use Rattle.xt_read.specs.Steps.{IsTagSoFar}
use Rattle.xt_read.proofs.TagParts.{tag_step}
use Rattle.xt_read.proofs.tags.read_attributes.Goals as goal

pub loop-attr-preserved : goal.loop-attr-preserved
loop-attr-preserved c = record {
  within = c.in-Some.ensures.on.1;
  boundary = c.in-Some.ensures.cut;
  so_far = λ from to empty start.
      subst (λ l. IsTagSoFar c.args.text.now from to empty c.in-Some.attr.whole.to l) (sym c.in_ok-push.ensures.items)
      (tag_step c.args.text.now from to c.loop-attr.at empty c.loop-attr.attrs.items c.in-Some.attr (c.loop-attr.invariant.so_far from to empty start) c.in-Some.ensures.only);
}

pub returns : goal.returns
returns c = record { value = λ from to empty start. (c.loop-attr.at, c.loop-attr.invariant.so_far from to empty start, c.in_default.ensures.none) }
