use Rattle.std.proofs.Common.{◌≡◌, ◌∙◌, refl, ap, suc, ◌∷◌, [], arith}
use Rattle.std.proofs.lemmas.Result.{err_from_is_err_and, IfErr-weaker, IfOk-weaker}
use Rattle.xt_spec.specs.Tree.{Items}
use Rattle.xt_tree.specs.Items.{item_in, head_in as tag_in}
use Rattle.xt_tree.specs.Meaning.{at_span, items_in}
use Rattle.xt_tree.proofs.Theorems.{kids_fewer, item_fewer}
use Rattle.xt_read.proofs.Theorems.{first_placed, element_spelled}
use Rattle.bk_spec.specs.Node.{Origin, element_node}
use Rattle.bk_info.specs.declared.node.Node.TheVariants as code
use Rattle.bk_info.specs.Address.{Address}
use Rattle.bk_info.specs.Nodes.{nodes_in, head_in}
use Rattle.ent_doc.specs.Opening.{open_fault}
use Rattle.ent_doc.specs.Steps.{Gives, GivesFault, HasPaths, element_in, some_node}
use Rattle.ent_doc.proofs.ElementLemmas.{element_gives, own_fails, room_fails, kids_fail}
use Rattle.bk_info.proofs.Theorems.{element_is, element_paths, element_has_via, none_have_via}
use Rattle.ent_doc.proofs.CutLemmas.{tag_cut, text_cut, comment_cut, pi_cut}
use Rattle.ent_doc.proofs.ItemLemmas.{kids_in_place, of_element, of_text, of_comment, of_pi, reference_gives, gap_gives, items_step, items_fail, items_begin, items_end, count_step}
use Rattle.ent_doc.proofs.PathLemmas.{element_has_paths, reference_paths, gap_paths, paths_begin, paths_step, paths_end}
use Rattle.ent_doc.proofs.ViaLemmas.{vias_step, same_via}
use Rattle.ent_doc.proofs.tree.+tree.Goals as goal

pub element_node-text_at-qname-requires : goal.element_node-text_at-qname-requires
element_node-text_at-qname-requires t c = record { cut = (tag_cut c.args.source.now.text.now (tag_in c.args.tag.now) c.requires.tag).0 }

pub element_node-values_of-requires : goal.element_node-values_of-requires
element_node-values_of-requires t c = record { cut = (tag_cut c.args.source.now.text.now (tag_in c.args.tag.now) c.requires.tag).1 }

pub node_of-text_node-requires-clause-cut : goal.node_of-text_node-requires-clause-cut
node_of-text_node-requires-clause-cut t c = text_cut c.args.source.now.text.now (item_in c.args.item.now) c.in-Text.span (ap item_in c.in-Text.is) c.requires.tags c.requires.spelled

pub node_of-comment_node-requires-clause-cut : goal.node_of-comment_node-requires-clause-cut
node_of-comment_node-requires-clause-cut t c = comment_cut c.args.source.now.text.now (item_in c.args.item.now) c.in-Comment.span (ap item_in c.in-Comment.is) c.requires.tags c.requires.spelled

pub node_of-pi_node-requires-clause-cut : goal.node_of-pi_node-requires-clause-cut
node_of-pi_node-requires-clause-cut t c = pi_cut c.args.source.now.text.now (item_in c.args.item.now) c.in-Pi.span (ap item_in c.in-Pi.is) c.requires.tags c.requires.spelled

pub element_node-returns-in_err-own-clause-fault : goal.element_node-returns-in_err-own-clause-fault
element_node-returns-in_err-own-clause-fault t c =
    let p = err_from_is_err_and c.from_residual-in_err-own.result c.from_residual-in_err-own.ensures.1 in
    rw (p.1, p.2)
    (λ close rest. own_fails c.args.source.now.text.now c.args.source.now.file.now c.args.context.now (tag_in c.args.tag.now) (items_in c.args.source.now.text.now c.args.kids.now) rest close c.args.work.now.count c.text_at-qname.result.now c.args.tag.now.attrs c.in_ok-values.values.items (open_fault c.in_err-own.field-0.0)
    c.requires.tag c.text_at-qname.ensures.value refl c.in_ok-values.ensures.value c.in_err-own.ensures.fault)

pub element_node-returns-in_err-count_one-clause-fault : goal.element_node-returns-in_err-count_one-clause-fault
element_node-returns-in_err-count_one-clause-fault t c =
    let p = err_from_is_err_and c.from_residual-in_err-count_one.result c.from_residual-in_err-count_one.ensures.1 in
    rw (p.1, p.2)
    (λ close rest. room_fails c.args.source.now.text.now c.args.source.now.file.now c.args.context.now (tag_in c.args.tag.now) (items_in c.args.source.now.text.now c.args.kids.now) rest close c.args.work.now.count c.text_at-qname.result.now c.args.tag.now.attrs c.in_ok-values.values.items
    (element_in c.args.source.now.file.now c.in_ok-own.own) (open_fault c.in_err-count_one.field-0.0)
    c.requires.tag c.text_at-qname.ensures.value refl c.in_ok-values.ensures.value c.in_ok-own.ensures.value c.in_err-count_one.ensures.fault)

pub element_node-returns-in_err-kids-clause-fault : goal.element_node-returns-in_err-kids-clause-fault
element_node-returns-in_err-kids-clause-fault t c =
    let p = err_from_is_err_and c.from_residual-in_err-kids.result c.from_residual-in_err-kids.ensures.1 in
    rw (p.1, p.2)
    (λ close rest. kids_fail c.args.source.now.text.now c.args.source.now.file.now c.args.context.now (tag_in c.args.tag.now) (items_in c.args.source.now.text.now c.args.kids.now) rest close c.args.work.now.count c.count_one.new.self.count c.text_at-qname.result.now c.args.tag.now.attrs c.in_ok-values.values.items
    (element_in c.args.source.now.file.now c.in_ok-own.own) (open_fault c.in_err-kids.field-0.0)
    c.requires.tag c.text_at-qname.ensures.value refl c.in_ok-values.ensures.value c.in_ok-own.ensures.value c.in_ok-count_one.ensures.room c.in_ok-count_one.ensures.count c.in_err-kids.ensures.fault)

pub element_node-returns-clause-value : goal.element_node-returns-clause-value
element_node-returns-clause-value t c close rest =
    element_gives c.args.source.now.text.now c.args.source.now.file.now c.args.context.now (tag_in c.args.tag.now) (items_in c.args.source.now.text.now c.args.kids.now) rest close c.args.work.now.count c.count_one.new.self.count c.kids_of.new.work.count c.text_at-qname.result.now c.args.tag.now.attrs c.in_ok-values.values.items
    (element_in c.args.source.now.file.now c.in_ok-own.own) c.in_ok-kids.kids (code.Elem c.in_ok-own.own.name c.in_ok-own.own.attrs c.in_ok-own.own.context c.in_ok-kids.kids c.args.address)
    c.requires.tag c.text_at-qname.ensures.value refl c.in_ok-values.ensures.value c.in_ok-own.ensures.value c.in_ok-count_one.ensures.room c.in_ok-count_one.ensures.count c.in_ok-kids.ensures.value c.in_ok-kids.ensures.count
    (λ others. element_is c.in_ok-own.own.name c.in_ok-own.own.attrs c.in_ok-own.own.context c.in_ok-kids.kids c.args.address others
    ∙ ap (λ (o : Origin). element_node (head_in c.in_ok-own.own.name c.in_ok-own.own.attrs c.in_ok-own.own.context o) (nodes_in c.in_ok-kids.kids) others) c.requires.owned)

pub node_of-element_node-requires : goal.node_of-element_node-requires
node_of-element_node-requires t c =
    let parts = kids_in_place c.args.source.now.text.now (item_in c.args.item.now) (tag_in c.in-Elem.head) c.in-Elem.kids c.in-Elem.kids c.in-Elem.tail (ap item_in c.in-Elem.is) refl c.requires.tags in
    let fewer = kids_fewer (item_in c.args.item.now) (tag_in c.in-Elem.head) c.in-Elem.kids c.in-Elem.tail (ap item_in c.in-Elem.is) in
    let spelled = element_spelled c.args.source.now.text.now (item_in c.args.item.now) (tag_in c.in-Elem.head) c.in-Elem.kids c.in-Elem.kids c.in-Elem.tail (ap item_in c.in-Elem.is) refl c.requires.spelled in
    (omega (arith, fewer), (parts.0, (parts.1, (spelled, c.requires.owned))))

pub node_of-returns-in_err-element_node-in-Elem-clause-fault : goal.node_of-returns-in_err-element_node-in-Elem-clause-fault
node_of-returns-in_err-element_node-in-Elem-clause-fault t c =
    let p = err_from_is_err_and c.from_residual.result c.from_residual.ensures.1 in
    rw (p.1, p.2)
    (λ rest. of_element c.args.source.now.text.now (λ (items : Items). GivesFault c.args.source.now.file.now c.args.context.now items c.args.work.now.count (open_fault c.in_err-element_node-in-Elem.field-0.0)) rest (item_in c.args.item.now) (tag_in c.in-Elem.head) c.in-Elem.kids c.in-Elem.kids c.in-Elem.tail (ap item_in c.in-Elem.is) refl
    (λ close. c.in_err-element_node-in-Elem.ensures.fault close rest))

pub node_of-returns-in_err-comment_node-in-Comment-clause-fault : goal.node_of-returns-in_err-comment_node-in-Comment-clause-fault
node_of-returns-in_err-comment_node-in-Comment-clause-fault t c =
    let p = err_from_is_err_and c.from_residual-in_err-comment_node-in-Comment.result c.from_residual-in_err-comment_node-in-Comment.ensures.1 in
    rw (p.1, p.2)
    (λ rest. of_comment c.args.source.now.text.now (λ (items : Items). GivesFault c.args.source.now.file.now c.args.context.now items c.args.work.now.count (open_fault c.in_err-comment_node-in-Comment.field-0.0)) rest (item_in c.args.item.now) c.in-Comment.span (ap item_in c.in-Comment.is)
    (c.in_err-comment_node-in-Comment.ensures.fault c.args.context.now rest))

pub node_of-returns-in_err-pi_node-in-Pi-clause-fault : goal.node_of-returns-in_err-pi_node-in-Pi-clause-fault
node_of-returns-in_err-pi_node-in-Pi-clause-fault t c =
    let p = err_from_is_err_and c.from_residual-in_err-pi_node-in-Pi.result c.from_residual-in_err-pi_node-in-Pi.ensures.1 in
    rw (p.1, p.2)
    (λ rest. of_pi c.args.source.now.text.now (λ (items : Items). GivesFault c.args.source.now.file.now c.args.context.now items c.args.work.now.count (open_fault c.in_err-pi_node-in-Pi.field-0.0)) rest (item_in c.args.item.now) c.in-Pi.span (ap item_in c.in-Pi.is)
    (c.in_err-pi_node-in-Pi.ensures.fault c.args.context.now rest))

pub node_of-returns-in_ok-element_node-in-Elem-clause-value : goal.node_of-returns-in_ok-element_node-in-Elem-clause-value
node_of-returns-in_ok-element_node-in-Elem-clause-value t c rest =
    of_element c.args.source.now.text.now (λ (items : Items). Gives c.args.source.now.file.now c.args.context.now items rest c.args.work.now.count c.element_node.new.work.count (c.in_ok-element_node-in-Elem.field-0 ∷ [])) rest (item_in c.args.item.now) (tag_in c.in-Elem.head) c.in-Elem.kids c.in-Elem.kids c.in-Elem.tail (ap item_in c.in-Elem.is) refl
    (λ close. c.in_ok-element_node-in-Elem.ensures.value close rest)

pub node_of-returns-in-Text-clause-fault : goal.node_of-returns-in-Text-clause-fault
node_of-returns-in-Text-clause-fault t c =
    IfErr-weaker c.text_node.result _ _ (λ fault fails rest. of_text c.args.source.now.text.now (λ (items : Items). GivesFault c.args.source.now.file.now c.args.context.now items c.args.work.now.count (open_fault fault)) rest (item_in c.args.item.now) c.in-Text.span (ap item_in c.in-Text.is) (fails c.args.context.now rest)) c.text_node.ensures.fault

pub node_of-returns-in-Text-clause-value : goal.node_of-returns-in-Text-clause-value
node_of-returns-in-Text-clause-value t c =
    IfOk-weaker c.text_node.result _ _ (λ node gives rest. of_text c.args.source.now.text.now (λ (items : Items). Gives c.args.source.now.file.now c.args.context.now items rest c.args.work.now.count c.text_node.new.work.count (some_node node)) rest (item_in c.args.item.now) c.in-Text.span (ap item_in c.in-Text.is) (gives c.args.context.now rest)) c.text_node.ensures.value

pub node_of-returns-in_ok-comment_node-in-Comment-clause-value : goal.node_of-returns-in_ok-comment_node-in-Comment-clause-value
node_of-returns-in_ok-comment_node-in-Comment-clause-value t c rest =
    of_comment c.args.source.now.text.now (λ (items : Items). Gives c.args.source.now.file.now c.args.context.now items rest c.args.work.now.count c.comment_node.new.work.count (c.in_ok-comment_node-in-Comment.field-0 ∷ [])) rest (item_in c.args.item.now) c.in-Comment.span (ap item_in c.in-Comment.is)
    (c.in_ok-comment_node-in-Comment.ensures.value c.args.context.now rest)

pub node_of-returns-in_ok-pi_node-in-Pi-clause-value : goal.node_of-returns-in_ok-pi_node-in-Pi-clause-value
node_of-returns-in_ok-pi_node-in-Pi-clause-value t c rest =
    of_pi c.args.source.now.text.now (λ (items : Items). Gives c.args.source.now.file.now c.args.context.now items rest c.args.work.now.count c.pi_node.new.work.count (c.in_ok-pi_node-in-Pi.field-0 ∷ [])) rest (item_in c.args.item.now) c.in-Pi.span (ap item_in c.in-Pi.is)
    (c.in_ok-pi_node-in-Pi.ensures.value c.args.context.now rest)

pub node_of-returns-in-Ref-clause-value : goal.node_of-returns-in-Ref-clause-value
node_of-returns-in-Ref-clause-value t c rest = reference_gives c.args.source.now.text.now c.args.source.now.file.now c.args.context.now rest (item_in c.args.item.now) c.in-Ref.field-0 c.args.work.now.count (ap item_in c.in-Ref.is)

pub node_of-returns-in-Ref-clause-paths : goal.node_of-returns-in-Ref-clause-paths
node_of-returns-in-Ref-clause-paths t c rest outer index same = reference_paths c.args.source.now.text.now rest (item_in c.args.item.now) c.in-Ref.field-0 outer index (ap item_in c.in-Ref.is)

pub node_of-returns-in-Gap-clause-value : goal.node_of-returns-in-Gap-clause-value
node_of-returns-in-Gap-clause-value t c rest = gap_gives c.args.source.now.text.now c.args.source.now.file.now c.args.context.now rest (item_in c.args.item.now) c.in-Gap.field-0 c.args.work.now.count (ap item_in c.in-Gap.is)

pub node_of-returns-in-Gap-clause-paths : goal.node_of-returns-in-Gap-clause-paths
node_of-returns-in-Gap-clause-paths t c rest outer index same = gap_paths c.args.source.now.text.now rest (item_in c.args.item.now) c.in-Gap.field-0 outer index (ap item_in c.in-Gap.is)

pub nodes_of-loop-item-init : goal.nodes_of-loop-item-init
nodes_of-loop-item-init t c = rw c.again-left.ensures.value (record {
  tags = c.requires.tags;
  spelled = c.requires.spelled;
  fewer = omega arith;
  gives = items_begin c.args.source.now.text.now c.args.source.now.file.now c.args.context.now c.args.items.now c.args.work.now.count c.new-nodes.result.items c.new-nodes.ensures.items;
  paths = paths_begin (items_in c.args.source.now.text.now c.args.items.now) c.args.siblings.now.path c.new-nodes.result.items c.new-nodes.ensures.items;
  via = none_have_via c.args.siblings.now.via c.new-nodes.result.items c.new-nodes.ensures.items;
  counted = rw c.new-nodes.ensures.items (omega arith);
})

pub nodes_of-node_of-requires : goal.nodes_of-node_of-requires
nodes_of-node_of-requires t c =
    let fewer = (item_fewer c.loop-item.left c.in-Some.rest (item_in c.in-Some.item) c.in-Some.ensures.value).0 in
    let within = c.loop-item.invariant.fewer in
    let next = first_placed c.args.source.now.text.now c.loop-item.left c.in-Some.rest (item_in c.in-Some.item) c.in-Some.ensures.value c.loop-item.invariant.tags c.loop-item.invariant.spelled in
    (omega (arith, fewer, within), (next.placed, (next.spelled, ap (λ (a : Address). a.origin) c.in_ok-address.ensures.value ∙ c.requires.owned)))

pub nodes_of-returns-in_err-node_of-clause-fault : goal.nodes_of-returns-in_err-node_of-clause-fault
nodes_of-returns-in_err-node_of-clause-fault t c =
    let p = err_from_is_err_and c.from_residual-in_err-node_of.result c.from_residual-in_err-node_of.ensures.1 in
    rw (p.1, p.2)
    (items_fail c.args.source.now.text.now c.args.source.now.file.now c.args.context.now c.args.items.now c.loop-item.left c.in-Some.rest (item_in c.in-Some.item) c.args.work.now.count c.loop-item.work.count c.loop-item.nodes.items (open_fault c.in_err-node_of.field-0.0) c.in-Some.ensures.value
    c.loop-item.invariant.gives c.in_err-node_of.ensures.fault)

pub nodes_of-loop-item-preserved : goal.nodes_of-loop-item-preserved
nodes_of-loop-item-preserved t c = record {
  tags = (first_placed c.args.source.now.text.now c.loop-item.left c.in-Some.rest (item_in c.in-Some.item) c.in-Some.ensures.value c.loop-item.invariant.tags c.loop-item.invariant.spelled).placed_others;
  spelled = (first_placed c.args.source.now.text.now c.loop-item.left c.in-Some.rest (item_in c.in-Some.item) c.in-Some.ensures.value c.loop-item.invariant.tags c.loop-item.invariant.spelled).spelled_others;
  fewer = omega (arith, (item_fewer c.loop-item.left c.in-Some.rest (item_in c.in-Some.item) c.in-Some.ensures.value).1, c.loop-item.invariant.fewer);
  gives = items_step c.args.source.now.text.now c.args.source.now.file.now c.args.context.now c.args.items.now c.loop-item.left c.in-Some.rest (item_in c.in-Some.item) c.args.work.now.count c.loop-item.work.count c.node_of.new.work.count c.loop-item.nodes.items _ c.put.new.nodes.items
      c.in-Some.ensures.value c.in_ok-put.ensures.value c.loop-item.invariant.gives c.in_ok-node_of.ensures.value;
  paths = paths_step c.args.source.now.text.now c.args.source.now.file.now c.args.context.now c.args.items.now c.loop-item.left c.in-Some.rest c.loop-item.index (item_in c.in-Some.item) c.args.work.now.count c.loop-item.work.count c.loop-item.nodes.items _ c.put.new.nodes.items c.args.siblings.now.path
      c.in-Some.ensures.value c.in_ok-put.ensures.value c.loop-item.invariant.gives c.loop-item.invariant.paths
      (λ rest. c.in_ok-node_of.ensures.paths rest c.args.siblings.now.path c.loop-item.index (ap (λ (a : Address). a.path) c.in_ok-address.ensures.value));
  via = vias_step c.args.siblings.now.via c.in_ok-address.address c.loop-item.nodes.items _ c.put.new.nodes.items c.in_ok-put.ensures.value (ap (λ (a : Address). a.via) c.in_ok-address.ensures.value) c.loop-item.invariant.via c.in_ok-node_of.ensures.via;
  counted = count_step c.args.work.now.count c.loop-item.work.count c.node_of.new.work.count c.loop-item.nodes.items _ c.put.new.nodes.items c.in_ok-put.ensures.value c.loop-item.invariant.counted c.in_ok-node_of.ensures.count;
}

pub nodes_of-returns-clause-value : goal.nodes_of-returns-clause-value
nodes_of-returns-clause-value t c =
    items_end c.args.source.now.text.now c.args.source.now.file.now c.args.context.now c.args.items.now c.loop-item.left c.args.work.now.count c.loop-item.work.count c.loop-item.nodes.items c.from_vec.result c.in_default.ensures.value
    (c.from_vec.ensures ∙ c.shrink_to_fit.ensures.items) c.loop-item.invariant.gives

pub nodes_of-returns-clause-count : goal.nodes_of-returns-clause-count
nodes_of-returns-clause-count t c =
    let same : c.from_vec.result ≡ c.loop-item.nodes.items = c.from_vec.ensures ∙ c.shrink_to_fit.ensures.items in
    rw same c.loop-item.invariant.counted

pub nodes_of-returns-clause-paths : goal.nodes_of-returns-clause-paths
nodes_of-returns-clause-paths t c =
    paths_end c.args.source.now.text.now c.args.items.now c.loop-item.left c.loop-item.index c.loop-item.nodes.items c.from_vec.result c.args.siblings.now.path c.in_default.ensures.value (c.from_vec.ensures ∙ c.shrink_to_fit.ensures.items) c.loop-item.invariant.paths

pub element_node-returns-clause-paths : goal.element_node-returns-clause-paths
element_node-returns-clause-paths t c close rest outer index same =
    element_has_paths (at_span c.args.source.now.text.now c.args.tag.now.span) (items_in c.args.source.now.text.now c.args.kids.now) rest close (code.Elem c.in_ok-own.own.name c.in_ok-own.own.attrs c.in_ok-own.own.context c.in_ok-kids.kids c.args.address) c.in_ok-kids.kids c.args.address outer index
    (element_paths c.in_ok-own.own.name c.in_ok-own.own.attrs c.in_ok-own.own.context c.in_ok-kids.kids c.args.address) same c.in_ok-kids.ensures.paths

pub node_of-returns-in_ok-element_node-in-Elem-clause-paths : goal.node_of-returns-in_ok-element_node-in-Elem-clause-paths
node_of-returns-in_ok-element_node-in-Elem-clause-paths t c rest outer index same =
    of_element c.args.source.now.text.now (λ (items : Items). HasPaths outer index items rest (suc index) (c.in_ok-element_node-in-Elem.field-0 ∷ [])) rest (item_in c.args.item.now) (tag_in c.in-Elem.head) c.in-Elem.kids c.in-Elem.kids c.in-Elem.tail (ap item_in c.in-Elem.is) refl
    (λ close. c.in_ok-element_node-in-Elem.ensures.paths close rest outer index same)

pub node_of-returns-in-Text-clause-paths : goal.node_of-returns-in-Text-clause-paths
node_of-returns-in-Text-clause-paths t c =
    IfOk-weaker c.text_node.result _ _ (λ node paths rest outer index same.
    of_text c.args.source.now.text.now (λ (items : Items). HasPaths outer index items rest (suc index) (some_node node)) rest (item_in c.args.item.now) c.in-Text.span (ap item_in c.in-Text.is) (paths outer index rest same)) c.text_node.ensures.paths

pub node_of-returns-in_ok-comment_node-in-Comment-clause-paths : goal.node_of-returns-in_ok-comment_node-in-Comment-clause-paths
node_of-returns-in_ok-comment_node-in-Comment-clause-paths t c rest outer index same =
    of_comment c.args.source.now.text.now (λ (items : Items). HasPaths outer index items rest (suc index) (c.in_ok-comment_node-in-Comment.field-0 ∷ [])) rest (item_in c.args.item.now) c.in-Comment.span (ap item_in c.in-Comment.is)
    (c.in_ok-comment_node-in-Comment.ensures.paths outer index rest same)

pub node_of-returns-in_ok-pi_node-in-Pi-clause-paths : goal.node_of-returns-in_ok-pi_node-in-Pi-clause-paths
node_of-returns-in_ok-pi_node-in-Pi-clause-paths t c rest outer index same =
    of_pi c.args.source.now.text.now (λ (items : Items). HasPaths outer index items rest (suc index) (c.in_ok-pi_node-in-Pi.field-0 ∷ [])) rest (item_in c.args.item.now) c.in-Pi.span (ap item_in c.in-Pi.is)
    (c.in_ok-pi_node-in-Pi.ensures.paths outer index rest same)

pub nodes_of-returns-clause-via : goal.nodes_of-returns-clause-via
nodes_of-returns-clause-via t c =
    same_via c.args.siblings.now.via c.loop-item.nodes.items c.from_vec.result (c.from_vec.ensures ∙ c.shrink_to_fit.ensures.items) c.loop-item.invariant.via

pub element_node-returns-clause-via : goal.element_node-returns-clause-via
element_node-returns-clause-via t c =
    element_has_via c.in_ok-own.own.name c.in_ok-own.own.attrs c.in_ok-own.own.context c.in_ok-kids.kids c.args.address c.in_ok-kids.ensures.via
