use Rattle.std.proofs.Common.{ap}
use Rattle.std.specs.FinMap.{from_entries}
use Rattle.bk_name.proofs.FilesLemmas.{by_bytes}
use Rattle.bk_name.proofs.files.Files.new.Goals as goal

pub returns : goal.returns
returns c = record { value = ap (from_entries {R = by_bytes}) c.new.ensures.empty }
