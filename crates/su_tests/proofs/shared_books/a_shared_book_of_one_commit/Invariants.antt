use Rattle.su_tests.proofs.shared_books.a_shared_book_of_one_commit.Given as goal

abbrev pub ghosts-one_commit-N-BookName : goal.ghosts-one_commit-N-BookName
ghosts-one_commit-N-BookName g a = record { cells = a.cells }

abbrev pub ghosts-one_commit-N-Ledger : goal.ghosts-one_commit-N-Ledger
ghosts-one_commit-N-Ledger g a = record { name = a.blank.name; parts = a.blank.parts }
