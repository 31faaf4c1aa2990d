use Rattle.su_tests.proofs.keepers.a_record_is_read_back.Given as goal

abbrev pub ghosts-read_back-N-BookName : goal.ghosts-read_back-N-BookName
ghosts-read_back-N-BookName g a = record { cells = a.cells }

abbrev pub ghosts-read_back-N-Ledger : goal.ghosts-read_back-N-Ledger
ghosts-read_back-N-Ledger g a = record { name = a.blank.name; parts = a.blank.parts }
