-- What a desk over real files tells of them: nothing.
use Rattle.std.specs.Prelude.{ℕ, [], false, None, IsTrue}
use mathlib.Core.Path.{sym}
use mathlib.Core.Bool.{true≢false}
use Rattle.bk_desk.specs.Disk.{DiskState, CrashState}

abbrev pub nothing : DiskState
nothing = record { files = λ name. None; pending = λ name. false; told = [] }

abbrev pub Never : ℕ → CrashState → Type 0
Never t crash = ⊥

pub silent : {P : Type 0} → IsTrue false → P
silent h = absurd (true≢false (sym h))
