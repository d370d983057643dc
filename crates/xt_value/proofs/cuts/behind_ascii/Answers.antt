use Rattle.std.proofs.Common.{sym}
use Rattle.xt_value.proofs.LineLemmas.{behind_first}
use Rattle.xt_value.proofs.cuts.behind_ascii.Goals as goal

pub range_from-requires : goal.range_from-requires
range_from-requires c some = behind_first c.args.text.now c.as_bytes.result.now c.as_bytes.ensures.value c.utf8.text c.in-len1-up.len_at_least (sym c.if-is_ascii.ensures)
