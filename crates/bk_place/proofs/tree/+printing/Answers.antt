use Rattle.std.proofs.lemmas.Result.{on_ok_weaker}
use Rattle.std.specs.Option.{option_copied}
use Rattle.bk_place.proofs.TreeLemmas.{element_prints, text_prints, comment_prints, pi_prints}
use Rattle.bk_place.proofs.tree.+printing.Goals as goal

pub put_node-returns-in_ok-put_element-in-Elem-clause-value : goal.put_node-returns-in_ok-put_element-in-Elem-clause-value
put_node-returns-in_ok-put_element-in-Elem-clause-value t c =
    on_ok_weaker c.put_kids.result (λ inner.
    element_prints c.args.indent.now.items c.deref.result.now (option_copied c.args.parent) c.args.node.now c.in-Elem.name c.in-Elem.attrs c.as_slice.result.now c.in-Elem.context c.in-Elem.kids c.as_slice-in-Elem.result.now c.in-Elem.address c.origin-origin.result.now c.base.result.now
    c.args.out.now.items c.put_element.new.out.items c.put_kids.new.out.items c.in-Elem.is c.origin-origin.ensures.value c.deref.ensures.value c.as_slice.ensures.value c.as_slice-in-Elem.ensures c.base.ensures.value c.in_ok-put_element-in-Elem.ensures.value inner) c.put_kids.ensures.value

pub put_node-returns-in-Text-clause-value : goal.put_node-returns-in-Text-clause-value
put_node-returns-in-Text-clause-value t c =
    on_ok_weaker c.put_text_line.result (text_prints c.args.indent.now.items c.deref-in-Text.result.now (option_copied c.args.parent) c.args.node.now c.in-Text.value c.as_str.result.now c.in-Text.address c.origin.result.now c.args.out.now.items c.put_text_line.new.out.items c.in-Text.is c.origin.ensures.value c.deref-in-Text.ensures.value c.as_str.ensures.value) c.put_text_line.ensures.value

pub put_node-returns-in-Comment-clause-value : goal.put_node-returns-in-Comment-clause-value
put_node-returns-in-Comment-clause-value t c =
    on_ok_weaker c.put_comment_line.result (comment_prints c.args.indent.now.items c.deref-in-Comment.result.now (option_copied c.args.parent) c.args.node.now c.in-Comment.value c.as_str-in-Comment.result.now c.in-Comment.address c.origin-in-Comment.result.now c.args.out.now.items c.put_comment_line.new.out.items c.in-Comment.is c.origin-in-Comment.ensures.value c.deref-in-Comment.ensures.value c.as_str-in-Comment.ensures.value) c.put_comment_line.ensures.value

pub put_node-returns-in-Pi-clause-value : goal.put_node-returns-in-Pi-clause-value
put_node-returns-in-Pi-clause-value t c =
    on_ok_weaker c.put_pi_line.result (pi_prints c.args.indent.now.items c.deref-in-Pi.result.now (option_copied c.args.parent) c.args.node.now c.in-Pi.target c.in-Pi.value c.as_str-in-Pi.result.now c.as_str-in-Pi-2.result.now c.in-Pi.address c.origin-origin-in-Pi.result.now c.args.out.now.items c.put_pi_line.new.out.items c.in-Pi.is c.origin-origin-in-Pi.ensures.value c.deref-in-Pi.ensures.value c.as_str-in-Pi.ensures.value c.as_str-in-Pi-2.ensures.value) c.put_pi_line.ensures.value
