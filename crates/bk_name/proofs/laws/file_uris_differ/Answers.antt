use Rattle.bk_name.proofs.LawLemmas.{file_uris_differ}
use Rattle.bk_name.proofs.laws.file_uris_differ.Goals as goal

pub returns : goal.returns
returns c = record { law = file_uris_differ }
