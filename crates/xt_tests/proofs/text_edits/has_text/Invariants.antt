use Rattle.xt_tests.proofs.text_edits.has_text.Given as goal

abbrev pub ghosts-has_text_over : goal.ghosts-has_text_over
ghosts-has_text_over a = record { name = a.blank.name; parts = a.blank.parts }
