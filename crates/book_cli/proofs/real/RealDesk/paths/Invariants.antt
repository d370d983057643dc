use Rattle.std.proofs.Common.{◌≡◌, [], map, take}
use Rattle.book_cli.specs.RealFiles.{paths_to_sync}
use Rattle.book_cli.proofs.real.RealDesk.paths.Given as goal

abbrev pub invariant-loop-name : goal.invariant-loop-name
invariant-loop-name g l = map (λ p. p.now) l.paths.items ≡ paths_to_sync l.self.has_synced (take l.name-index l.self.in_place.items) []

abbrev pub invariant-loop-name-2 : goal.invariant-loop-name-2
invariant-loop-name-2 g l = map (λ p. p.now) l.paths.items ≡ paths_to_sync l.self.has_synced l.self.in_place.items (take l.name-index l.self.unsynced.items)
