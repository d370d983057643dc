use Rattle.std.proofs.Common.{[], sym, ◌∙◌}
use Rattle.xt_read.proofs.Whole.{none_opened}
use Rattle.xt_read.proofs.reader.Reader.is_whole.Goals as goal

pub returns-then-at_top-clause-opened : goal.returns-then-at_top-clause-opened
returns-then-at_top-clause-opened c = λ ended. none_opened [] c.args.self.now (sym (c.at_top.ensures []) ∙ c.if-at_top.true)
