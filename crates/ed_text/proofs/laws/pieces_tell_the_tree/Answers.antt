use Rattle.ed_text.proofs.PieceLemmas.{told_by_pieces}
use Rattle.ed_text.proofs.laws.pieces_tell_the_tree.Goals as goal

pub returns : goal.returns
returns c = record { law = λ a b same. told_by_pieces a b same }
