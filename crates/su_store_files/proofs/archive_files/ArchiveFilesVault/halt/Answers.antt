use Rattle.su_store_files.proofs.archive_files.ArchiveFilesVault.halt.Goals as goal

pub returns-clause-last : goal.returns-clause-last
returns-clause-last g c records last held sound = c.halt.ensures.last records last (held sound)
