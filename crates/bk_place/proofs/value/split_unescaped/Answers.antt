use Rattle.bk_place.specs.Printing.{is_unescaped}
use Rattle.bk_place.proofs.ValueLemmas.{prefix_passes}
use Rattle.bk_place.proofs.value.split_unescaped.Goals as goal

pub returns-clause-plain : goal.returns-clause-plain
returns-clause-plain c = rw c.split_at.ensures.front (rw c.unescaped_len.ensures.value (prefix_passes is_unescaped c.args.bytes.now))
