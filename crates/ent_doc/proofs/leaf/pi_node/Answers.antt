use Rattle.std.proofs.Common.{◌∙◌, sym}
use Rattle.std.proofs.lemmas.Result.{err_from_is_err_and}
use Rattle.xt_tree.specs.Meaning.{at_span}
use Rattle.ent_doc.specs.Opening.{open_fault}
use Rattle.ent_doc.proofs.LeafLemmas.{pi_gives, pi_fails}
use Rattle.ent_doc.proofs.leaf.pi_node.Goals as goal

pub returns-in_err-count_one-clause-fault : goal.returns-in_err-count_one-clause-fault
returns-in_err-count_one-clause-fault c =
    let p = err_from_is_err_and c.from_residual-in_err-count_one.result c.from_residual-in_err-count_one.ensures.1 in
    rw (p.1, p.2) (λ context rest. pi_fails c.args.source.now.file.now (at_span c.args.source.now.text.now c.args.span) context rest c.args.work.now.count (open_fault c.in_err-count_one.field-0.0) c.in_err-count_one.ensures.fault)

pub returns-clause-value : goal.returns-clause-value
returns-clause-value c context rest =
    let piece = c.text_at.ensures.value in
    pi_gives c.args.source.now.file.now (at_span c.args.source.now.text.now c.args.span) context rest c.args.work.now.count c.count_one.new.self.count c.in_ok-text.field-0 c.from_string.result c.args.address
    c.requires.owned
    (λ t i is. let same = c.in_ok-parts.ensures.exact t i (rw piece is) in (same.0 ∙ sym c.in_ok-text.ensures.value, same.1 ∙ sym c.from_string.ensures.value))
    c.in_ok-count_one.ensures.count c.in_ok-count_one.ensures.room
