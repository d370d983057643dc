use Rattle.xt_tests.proofs.text_edits.edited.Given as goal

abbrev pub ghosts-edited_over : goal.ghosts-edited_over
ghosts-edited_over a = record { name = a.blank.name; parts = a.blank.parts }
