use Rattle.ed_text.proofs.TextFileLemmas.{only_such_values}
use Rattle.ed_text.proofs.laws.no_other_value_reads_as_text.Goals as goal

pub returns : goal.returns
returns c = record {
  law = λ file bytes items path value utf8 reading is edited. (only_such_values file bytes items path value utf8 reading is edited).1;
  value = λ file bytes items path value utf8 reading is edited. (only_such_values file bytes items path value utf8 reading is edited).0;
}
