-- What a patch makes of the bytes of a file. Of this project.
use Rattle.std.specs.Prelude.{ℕ, List, ◌++◌, take, drop}
use Rattle.xt_tree.specs.declared.patch.Patch.{Patch}

-- the bytes before its place, its own, and those behind
abbrev pub patched : List ℕ → Patch → List ℕ
patched bytes patch = take patch.from bytes ++ patch.new.items ++ drop patch.to bytes
