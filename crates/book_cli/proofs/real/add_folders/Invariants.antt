use Rattle.std.proofs.Common.{◌≡◌, ◌++◌, map}
use Rattle.book_cli.specs.RealFiles.{folders_up_to}
use Rattle.book_cli.proofs.real.add_folders.Given as goal

abbrev pub invariant-loop-at : goal.invariant-loop-at
invariant-loop-at l = map (λ p. p.now) l.paths.items ≡ map (λ p. p.now) l.fn.paths.items ++ folders_up_to l.path l.at
