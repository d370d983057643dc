use Rattle.xt_tests.proofs.readings.plain_text.Given as goal

abbrev pub ghosts-plain_text_over : goal.ghosts-plain_text_over
ghosts-plain_text_over a = record { name = a.blank.name; parts = a.blank.parts }
