use Rattle.ed_text.proofs.PieceLemmas.{one_changes}
use Rattle.ed_text.proofs.laws.one_text_changes.Goals as goal

pub returns : goal.returns
returns c = record { law = λ items path text is. one_changes items path text is }
