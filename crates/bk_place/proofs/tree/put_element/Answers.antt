use Rattle.std.proofs.Common.{refl}
use Rattle.std.proofs.lemmas.Result.{on_ok_weaker}
use Rattle.std.specs.Option.{option_copied}
use Rattle.bk_info.specs.Nodes.{head_in}
use Rattle.bk_place.proofs.TreeLemmas.{own_added}
use Rattle.bk_place.proofs.tree.put_element.Goals as goal

pub returns : goal.returns
returns c = record {
  value = on_ok_weaker c.put_attributes.result (λ last.
      own_added c.args.indent.now (option_copied c.args.parent) (head_in c.args.name.now c.args.attrs.now c.args.context.now c.args.origin.now) c.base.result.now c.args.out.now.items c.put_element_line.new.out.items c.put_base_line.new.out.items c.put_attributes.new.out.items
      (c.in_ok-put_element_line.ensures.value (head_in c.args.name.now c.args.attrs.now c.args.context.now c.args.origin.now) refl refl refl) c.base.ensures.value c.in_ok-put_base_line.ensures.value last) c.put_attributes.ensures.value;
}
