use Rattle.ed_tests.proofs.sessions.edit_once.Given as goal

abbrev pub ghosts-edit_over : goal.ghosts-edit_over
ghosts-edit_over a = record { name = a.blank.name; parts = a.blank.parts }
