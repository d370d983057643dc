use Rattle.book_cli.proofs.OutputLemmas.{output_unique}
use Rattle.book_cli.proofs.laws.run_output_is_determined.Goals as goal

pub returns : goal.returns
returns c = record { value = output_unique }
