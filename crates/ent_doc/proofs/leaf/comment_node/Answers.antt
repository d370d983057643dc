use Rattle.std.proofs.lemmas.Result.{err_from_is_err_and}
use Rattle.xt_tree.specs.Meaning.{at_span}
use Rattle.ent_doc.specs.Opening.{open_fault}
use Rattle.ent_doc.proofs.LeafLemmas.{comment_fails}
use Rattle.ent_doc.proofs.leaf.comment_node.Goals as goal

pub returns-in_err-count_one-clause-fault : goal.returns-in_err-count_one-clause-fault
returns-in_err-count_one-clause-fault c =
    let p = err_from_is_err_and c.from_residual-in_err-count_one.result c.from_residual-in_err-count_one.ensures.1 in
    rw (p.1, p.2) (λ context rest. comment_fails c.args.source.now.file.now (at_span c.args.source.now.text.now c.args.span) context rest c.args.work.now.count (open_fault c.in_err-count_one.field-0.0) c.in_err-count_one.ensures.fault)
