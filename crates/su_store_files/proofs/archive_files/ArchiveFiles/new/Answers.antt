use Rattle.su_store_files.proofs.archive_files.ArchiveFiles.new.Goals as goal

pub returns : goal.returns
returns g c = record { begun = λ found. c.new.ensures.held (c.requires.named.0 found); found = λ commits were. c.new.ensures.found commits were }
