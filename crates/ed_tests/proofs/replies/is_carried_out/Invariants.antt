use Rattle.ed_tests.proofs.replies.is_carried_out.Given as goal

abbrev pub ghosts-carried_out : goal.ghosts-carried_out
ghosts-carried_out a = record { name = a.blank.name; parts = a.blank.parts }
