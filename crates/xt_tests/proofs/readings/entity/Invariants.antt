use Rattle.xt_tests.proofs.readings.entity.Given as goal

abbrev pub ghosts-entity_over : goal.ghosts-entity_over
ghosts-entity_over a = record { name = a.blank.name; parts = a.blank.parts }
