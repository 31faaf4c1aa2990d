use Rattle.su_tests.proofs.shared_books.a_seat_is_told_what_it_stored.Given as goal

abbrev pub ghosts-two_commits-N-BookName : goal.ghosts-two_commits-N-BookName
ghosts-two_commits-N-BookName g a = record { cells = a.cells }

abbrev pub ghosts-two_commits-N-Ledger : goal.ghosts-two_commits-N-Ledger
ghosts-two_commits-N-Ledger g a = record { name = a.blank.name; parts = a.blank.parts }
