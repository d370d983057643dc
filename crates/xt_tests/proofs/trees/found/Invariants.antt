use Rattle.xt_tests.proofs.trees.found.Given as goal

abbrev pub ghosts-found_over : goal.ghosts-found_over
ghosts-found_over a = record { name = a.blank.name; parts = a.blank.parts }
