-- A reader of std as a source; of this project.
use Rattle.std.specs.Prelude.{ℕ}
use Rattle.bk_desk.specs.declared.std_source.StdSource.{StdSource}

-- how many reads failed
abbrev pub std_read_faults : {R : Type 0} → StdSource R → ℕ
std_read_faults source = source.faults
