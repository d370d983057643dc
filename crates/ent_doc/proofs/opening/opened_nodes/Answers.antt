use Rattle.std.proofs.Common.{subst, sym, List}
use Rattle.std.proofs.lemmas.Result.{err_from_is_err_and}
use Rattle.xt_tree.specs.Meaning.{items_in}
use Rattle.bk_info.specs.declared.node.Node.{Node}
use Rattle.bk_info.specs.Nodes.{nodes_in}
use Rattle.bk_spec.specs.Opening.{top_context, GivesNodes}
use Rattle.ent_doc.proofs.OpeningLemmas.{declaring, given_content, nodes_given, including, nodes_fault}
use Rattle.ent_doc.proofs.opening.opened_nodes.Goals as goal

pub returns-then-not-has_content-clause-fault : goal.returns-then-not-has_content-clause-fault
returns-then-not-has_content-clause-fault c =
    declaring c.args.file.now (items_in c.args.text.now c.args.items.now) c.has_content.result c.in_ok-not_yet.field-0 c.has_content.ensures.value c.if-not-has_content.true c.in_ok-not_yet.ensures.value

pub returns-then-has_inclusion-clause-fault : goal.returns-then-has_inclusion-clause-fault
returns-then-has_inclusion-clause-fault c =
    let gives = nodes_given c.args.file.now (items_in c.args.text.now c.args.items.now) (nodes_in c.in_ok-nodes.nodes) (given_content (items_in c.args.text.now c.args.items.now) c.has_content.result c.has_content.ensures.value c.if-not-has_content.false) c.in_ok-nodes.ensures.value in
    including c.args.file.now (items_in c.args.text.now c.args.items.now) (nodes_in c.as_slice.result.now) c.has_inclusion.result c.in_ok-not_yet-2.field-0
    (subst (λ (ns : List Node). GivesNodes c.args.file.now (top_context c.args.file.now) 0 (items_in c.args.text.now c.args.items.now) (nodes_in ns)) (sym c.as_slice.ensures) gives) c.has_inclusion.ensures.value c.if-has_inclusion.true c.in_ok-not_yet-2.ensures.value

pub returns-in_err-nodes-clause-fault : goal.returns-in_err-nodes-clause-fault
returns-in_err-nodes-clause-fault c =
    let p = err_from_is_err_and c.from_residual-in_err-nodes.result c.from_residual-in_err-nodes.ensures.1 in
    rw (p.1, p.2)
    (nodes_fault c.args.file.now (items_in c.args.text.now c.args.items.now) c.in_err-nodes.field-0.0 (given_content (items_in c.args.text.now c.args.items.now) c.has_content.result c.has_content.ensures.value c.if-not-has_content.false) c.in_err-nodes.ensures.fault)

pub returns-clause-paths : goal.returns-clause-paths
returns-clause-paths c =
    let (content, has) = given_content (items_in c.args.text.now c.args.items.now) c.has_content.result c.has_content.ensures.value c.if-not-has_content.false in
    c.in_ok-nodes.ensures.paths content has
