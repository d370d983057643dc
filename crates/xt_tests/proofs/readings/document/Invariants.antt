use Rattle.xt_tests.proofs.readings.document.Given as goal

abbrev pub ghosts-document_over : goal.ghosts-document_over
ghosts-document_over a = record { name = a.blank.name; parts = a.blank.parts }
