use Rattle.std.proofs.Common.{◌∙◌, sym}
use Rattle.std.proofs.lemmas.Result.{err_from_is_err_and}
use Rattle.xt_tree.specs.Meaning.{at_span}
use Rattle.ent_doc.specs.Opening.{open_fault}
use Rattle.ent_doc.proofs.LeafLemmas.{text_gives, void_gives, text_fails, is_void, is_not_void}
use Rattle.ent_doc.proofs.PathLemmas.{void_paths, text_has_path}
use Rattle.ent_doc.proofs.leaf.text_node.Goals as goal

pub returns-then-len-eq0-clause-value : goal.returns-then-len-eq0-clause-value
returns-then-len-eq0-clause-value c context rest =
    let piece = c.text_at.ensures.value in
    void_gives c.args.source.now.file.now (at_span c.args.source.now.text.now c.args.span) context rest c.args.work.now.count c.from_string-value.result
    (λ other has. c.in_ok-text_value.ensures.exact other (rw piece has) ∙ sym c.from_string-value.ensures.value) (is_void c.from_string-value.result c.len.result c.len.ensures.value c.if-len-eq0.true)

pub returns-in_err-count_one-clause-fault : goal.returns-in_err-count_one-clause-fault
returns-in_err-count_one-clause-fault c =
    let p = err_from_is_err_and c.from_residual-in_err-count_one.result c.from_residual-in_err-count_one.ensures.1 in
    let piece = c.text_at.ensures.value in
    rw (p.1, p.2)
    (λ context rest. text_fails c.args.source.now.file.now (at_span c.args.source.now.text.now c.args.span) context rest c.args.work.now.count c.from_string-value.result (open_fault c.in_err-count_one.field-0.0)
    (λ other has. c.in_ok-text_value.ensures.exact other (rw piece has) ∙ sym c.from_string-value.ensures.value)
    (is_not_void c.from_string-value.result c.len.result c.len.ensures.value c.if-len-eq0.false) c.in_err-count_one.ensures.fault)

pub returns-clause-value : goal.returns-clause-value
returns-clause-value c context rest =
    let piece = c.text_at.ensures.value in
    text_gives c.args.source.now.file.now (at_span c.args.source.now.text.now c.args.span) context rest c.args.work.now.count c.count_one.new.self.count c.from_string-value.result c.args.address
    c.requires.owned
    (λ other has. c.in_ok-text_value.ensures.exact other (rw piece has) ∙ sym c.from_string-value.ensures.value) (is_not_void c.from_string-value.result c.len.result c.len.ensures.value c.if-len-eq0.false)
    c.in_ok-count_one.ensures.count c.in_ok-count_one.ensures.room

pub returns-then-len-eq0-clause-paths : goal.returns-then-len-eq0-clause-paths
returns-then-len-eq0-clause-paths c outer index rest same =
    let piece = c.text_at.ensures.value in
    void_paths (at_span c.args.source.now.text.now c.args.span) c.from_string-value.result outer index rest
    (λ other has. c.in_ok-text_value.ensures.exact other (rw piece has) ∙ sym c.from_string-value.ensures.value) (is_void c.from_string-value.result c.len.result c.len.ensures.value c.if-len-eq0.true)

pub returns-clause-paths : goal.returns-clause-paths
returns-clause-paths c outer index rest same =
    let piece = c.text_at.ensures.value in
    text_has_path (at_span c.args.source.now.text.now c.args.span) c.from_string-value.result c.args.address outer index rest
    (λ other has. c.in_ok-text_value.ensures.exact other (rw piece has) ∙ sym c.from_string-value.ensures.value) (is_not_void c.from_string-value.result c.len.result c.len.ensures.value c.if-len-eq0.false) same
