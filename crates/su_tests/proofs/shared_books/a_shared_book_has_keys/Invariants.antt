use Rattle.su_tests.proofs.shared_books.a_shared_book_has_keys.Given as goal

abbrev pub ghosts-refused-N-BookName : goal.ghosts-refused-N-BookName
ghosts-refused-N-BookName g a = record { cells = a.cells }

abbrev pub ghosts-refused-N-Ledger : goal.ghosts-refused-N-Ledger
ghosts-refused-N-Ledger g a = record { name = a.blank.name; parts = a.blank.parts }
