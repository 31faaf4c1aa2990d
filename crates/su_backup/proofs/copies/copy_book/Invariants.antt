use Rattle.su_backup.proofs.copies.copy_book.Given as goal

abbrev pub ghosts-copy_named-N-BookName : goal.ghosts-copy_named-N-BookName
ghosts-copy_named-N-BookName g a = record { cells = a.cells }

abbrev pub ghosts-copy_named-N-Ledger : goal.ghosts-copy_named-N-Ledger
ghosts-copy_named-N-Ledger g a = record { name = a.blank.name; parts = a.blank.parts }
