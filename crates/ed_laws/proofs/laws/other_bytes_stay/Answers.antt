use Rattle.ed_laws.proofs.Theorems.{changes_one_text, changes_one_text_in}
use Rattle.ed_laws.proofs.laws.other_bytes_stay.Goals as goal

pub returns : goal.returns
returns c = record { law = changes_one_text; value = changes_one_text_in }
