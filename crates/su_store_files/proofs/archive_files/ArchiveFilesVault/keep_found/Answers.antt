use Rattle.su_store_files.specs.Volumes.{FindsInTurn}
use Rattle.su_store_files.specs.declared.archive_files.ArchiveFiles.{ArchiveFiles}
use Rattle.su_store_files.proofs.FoundLemmas.{leaves_of}
use Rattle.su_store_files.proofs.archive_files.ArchiveFilesVault.keep_found.Goals as goal

pub returns-clause-found : goal.returns-clause-found
returns-clause-found g c clean =
    let taken = c.in_ok-keep_found.ensures.found clean in (
      taken.0,
      λ rest finds. leaves_of {Y = ArchiveFiles g.row.N.Denot g.row.V.Denot g.row.H.Denot g.row.V-Fault.Denot} (FindsInTurn g.V.Volume) (λ v. v.volumes)
          (record { volumes = c.keep_found.new.self; shelf = c.args.self.now.shelf; name = c.args.self.now.name }) c.args.commit.now rest (taken.1 rest finds),
    )
