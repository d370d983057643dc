use Rattle.xt_tests.proofs.text_edits.text_file.Given as goal

abbrev pub ghosts-text_file_over : goal.ghosts-text_file_over
ghosts-text_file_over a = record { name = a.blank.name; parts = a.blank.parts }
