use Rattle.book_where.proofs.main.Given as goal

abbrev pub ghosts-put_all : goal.ghosts-put_all
ghosts-put_all a = record { name = a.blank.name; parts = a.blank.parts }
