use Rattle.std.proofs.Common.{arith}
use Rattle.std.proofs.lemmas.Bool.Decides.{nat_tests}
use Rattle.bk_name.proofs.FileNameLemmas.{is_file_name-text}
use Rattle.bk_name.proofs.name.is_file_name.Goals as goal

pub returns-then-text-le255 : goal.returns-then-text-le255
returns-then-text-le255 c = record { value = rw (is_file_name-text _ c.utf8.text) (grind (arith, nat_tests)) }

pub returns-else-text-le255 : goal.returns-else-text-le255
returns-else-text-le255 c = record { value = rw (is_file_name-text _ c.utf8.text) (grind (arith, nat_tests)) }
