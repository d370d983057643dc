use Rattle.xt_tests.proofs.readings.content.Given as goal

abbrev pub ghosts-content_over : goal.ghosts-content_over
ghosts-content_over a = record { name = a.blank.name; parts = a.blank.parts }
