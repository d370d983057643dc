use Rattle.book_cli.proofs.ExistLemmas.{open_exists, output_exists}
use Rattle.book_cli.proofs.laws.an_output_exists.Goals as goal

pub returns : goal.returns
returns c = record { law = open_exists; value = output_exists }
