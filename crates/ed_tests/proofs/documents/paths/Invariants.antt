use Rattle.ed_tests.proofs.documents.paths.Given as goal

abbrev pub ghosts-paths_over : goal.ghosts-paths_over
ghosts-paths_over a = record { name = a.blank.name; parts = a.blank.parts }
