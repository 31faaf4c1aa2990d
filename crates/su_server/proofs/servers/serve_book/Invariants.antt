use Rattle.su_server.proofs.servers.serve_book.Given as goal

abbrev pub ghosts-serve_named-N-BookName : goal.ghosts-serve_named-N-BookName
ghosts-serve_named-N-BookName g a = record { cells = a.cells }

abbrev pub ghosts-serve_named-N-Ledger : goal.ghosts-serve_named-N-Ledger
ghosts-serve_named-N-Ledger g a = record { name = a.blank.name; parts = a.blank.parts }
