use Rattle.xt_tree.proofs.SplitLemmas.{behind_end}
use Rattle.xt_tree.proofs.row.elem_at.Goals as goal

pub row_at-requires : goal.row_at-requires
row_at-requires c = record { sized = behind_end c.args.inside c.args.inner.now c.behind.result.now c.in-Some.rest.now c.in-Some.end.now c.behind.ensures.value c.in-Some.ensures.cases.0 c.requires.sized.1 }
