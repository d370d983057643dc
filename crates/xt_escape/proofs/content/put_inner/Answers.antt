use Rattle.std.proofs.Common.{◌∙◌, sym, string_bytes}
use Rattle.xt_escape.proofs.Inner.{all_put}
use Rattle.xt_escape.proofs.content.put_inner.Goals as goal

pub returns : goal.returns
returns c = record {
  value = all_put (string_bytes c.args.out.now) (string_bytes c.loop-rest.out) c.args.text.now c.loop-rest.rest.now (sym c.is_empty.ensures ∙ c.loop-rest-test.false) c.loop-rest.invariant.1;
}
