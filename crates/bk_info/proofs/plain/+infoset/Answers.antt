use Rattle.std.proofs.Common.{◌∙◌, string_bytes}
use Rattle.std.proofs.lemmas.Result.{on_ok_weaker}
use Rattle.bk_info.proofs.InfosetLemmas.{element_put, text_put, comment_put, pi_put, nodes_end}
use Rattle.bk_info.proofs.plain.+infoset.Goals as goal

pub put_node-returns-in_ok-item-in-Elem : goal.put_node-returns-in_ok-item-in-Elem
put_node-returns-in_ok-item-in-Elem t c = record {
  value = on_ok_weaker c.put.result (λ put.
      element_put c.args.items.now.items c.put.new.items.items (string_bytes c.args.text.now) (string_bytes c.put.new.text) c.args.node.now c.in-Elem.name c.in-Elem.attrs c.as_slice-in-Elem.result.now c.in-Elem.context c.in-Elem.kids c.as_slice.result.now c.in-Elem.address c.in_ok-item-in-Elem.item c.in_ok-kids-in-Elem.kids
      c.in-Elem.is c.as_slice-in-Elem.ensures.value c.as_slice.ensures c.in_ok-kids-in-Elem.ensures.value c.in_ok-item-in-Elem.ensures.value put.0 put.1) c.put.ensures.value;
}

pub put_node-returns-in_ok-push_str-in-Text : goal.put_node-returns-in_ok-push_str-in-Text
put_node-returns-in_ok-push_str-in-Text t c = record {
  value = text_put c.args.items.now.items (string_bytes c.args.text.now) (string_bytes c.push_str.new.self) c.args.node.now c.in-Text.value c.as_str.result.now c.in-Text.address c.in-Text.is c.as_str.ensures.value c.in_ok-push_str-in-Text.ensures.bytes;
}

pub put_node-returns-in_ok-value-in-Comment : goal.put_node-returns-in_ok-value-in-Comment
put_node-returns-in_ok-value-in-Comment t c = record {
  value = on_ok_weaker c.put-in-Comment.result (λ put.
      comment_put c.args.items.now.items c.put-in-Comment.new.items.items (string_bytes c.args.text.now) (string_bytes c.put-in-Comment.new.text) c.args.node.now c.in-Comment.value c.in_ok-value-in-Comment.value c.in-Comment.address
      c.in-Comment.is (c.in_ok-value-in-Comment.ensures.value ∙ c.as_str-in-Comment.ensures.value) put.0 put.1) c.put-in-Comment.ensures.value;
}

pub put_node-returns-in_ok-value-in-Pi : goal.put_node-returns-in_ok-value-in-Pi
put_node-returns-in_ok-value-in-Pi t c = record {
  value = on_ok_weaker c.put-in-Pi.result (λ put.
      pi_put c.args.items.now.items c.put-in-Pi.new.items.items (string_bytes c.args.text.now) (string_bytes c.put-in-Pi.new.text) c.args.node.now c.in-Pi.target c.in-Pi.value c.in_ok-target-in-Pi.target c.in_ok-value-in-Pi.value c.in-Pi.address
      c.in-Pi.is c.in_ok-target-in-Pi.ensures.value (c.in_ok-value-in-Pi.ensures.value ∙ c.as_str-in-Pi.ensures.value) put.0 put.1) c.put-in-Pi.ensures.value;
}

pub infoset-returns : goal.infoset-returns
infoset-returns t c = record {
  value = nodes_end c.args.nodes.now c.loop-node.node-index c.loop-node.items.items c.put_text.new.items.items c.from_vec.result (string_bytes c.loop-node.text) c.loop-node-test.false c.loop-node.invariant c.in_ok-put_text.ensures.value (c.from_vec.ensures ∙ c.shrink_to_fit.ensures.items);
}
