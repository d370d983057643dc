use Rattle.ent_doc.proofs.CutLemmas.{start_cut, end_cut}
use Rattle.ent_doc.proofs.source.cut.Goals as goal

pub range-requires-clause-start_boundary : goal.range-requires-clause-start_boundary
range-requires-clause-start_boundary c = λ some. start_cut c.args.text.now c.args.span c.requires.cut

pub range-requires-clause-end_boundary : goal.range-requires-clause-end_boundary
range-requires-clause-end_boundary c = end_cut c.args.text.now c.args.span c.utf8.text c.requires.cut
