use Rattle.std.proofs.Common.{subst, sym}
use Rattle.xt_tree.specs.Levels.{AreSized}
use Rattle.xt_tree.proofs.SplitLemmas.{drop_sized}
use Rattle.xt_tree.proofs.row.empty_at.Goals as goal

pub row_at-rest-requires : goal.row_at-rest-requires
row_at-rest-requires c = record { sized = subst AreSized (sym c.behind.ensures.value) (drop_sized c.args.attrs c.args.inner.now c.requires.sized.1) }
