use Rattle.refusals.proofs.shared_books.has_failed_at.Given as goal

abbrev pub ghosts-over_keeper-N-BookName : goal.ghosts-over_keeper-N-BookName
ghosts-over_keeper-N-BookName g a = record { cells = a.cells }

abbrev pub ghosts-over_keeper-N-Ledger : goal.ghosts-over_keeper-N-Ledger
ghosts-over_keeper-N-Ledger g a = record { name = a.blank.name; parts = a.blank.parts }
