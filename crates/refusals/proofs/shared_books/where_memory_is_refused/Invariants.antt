use Rattle.refusals.proofs.shared_books.where_memory_is_refused.Given as goal

abbrev pub ghosts-of_memory-N-BookName : goal.ghosts-of_memory-N-BookName
ghosts-of_memory-N-BookName g a = record { cells = a.cells }

abbrev pub ghosts-of_memory-N-Ledger : goal.ghosts-of_memory-N-Ledger
ghosts-of_memory-N-Ledger g a = record { name = a.blank.name; parts = a.blank.parts }
