use Rattle.refusals.proofs.seats.in_two_threads.Given as goal

abbrev pub ghosts-hand_over-N-BookName : goal.ghosts-hand_over-N-BookName
ghosts-hand_over-N-BookName g a = record { cells = a.cells }

abbrev pub ghosts-hand_over-N-Ledger : goal.ghosts-hand_over-N-Ledger
ghosts-hand_over-N-Ledger g a = record { name = a.blank.name; parts = a.blank.parts }
