use Rattle.std.proofs.Common.{sym}
use Rattle.book_where.proofs.PositionLemmas.{reached-end, reached-more, reached-same}
use Rattle.book_where.proofs.position.Position.past.Goals as goal

pub returns-then-ends_line-clause-value : goal.returns-then-ends_line-clause-value
returns-then-ends_line-clause-value c = λ text rest r. reached-end text rest _ _ _ _ (sym c.if-ends_line.ensures.value) r

pub returns-then-fills_column-clause-value : goal.returns-then-fills_column-clause-value
returns-then-fills_column-clause-value c = λ text rest r. reached-more text rest _ _ _ _ (sym c.if-ends_line.ensures.value) (sym c.if-fills_column.ensures.value) r

pub returns-clause-value : goal.returns-clause-value
returns-clause-value c = λ text rest r. reached-same text rest _ _ _ _ (sym c.if-ends_line.ensures.value) (sym c.if-fills_column.ensures.value) r
