use Rattle.std.proofs.Common.{ℕ, List, sym, ap, nat_eq, ◌∙◌}
use Rattle.std.specs.List.{starts_with}
use Rattle.xt_spec.specs.Reading.{mark}
use Rattle.std.proofs.lemmas.Str.{IsCharBoundary-start}
use Rattle.xt_read.proofs.FrontPlaces.{mark_boundary}
use Rattle.xt_read.proofs.front.mark_len.Goals as goal

pub returns-then-starts_with-clause-cut : goal.returns-then-starts_with-clause-cut
returns-then-starts_with-clause-cut c = mark_boundary c.args.text.now c.utf8.text (ap (λ (t : List ℕ). starts_with nat_eq t mark) (sym c.as_bytes.ensures.value) ∙ sym c.starts_with.ensures.value ∙ c.if-starts_with.true)

pub returns-else-starts_with-clause-cut : goal.returns-else-starts_with-clause-cut
returns-else-starts_with-clause-cut c = IsCharBoundary-start c.args.text.now c.utf8.text
