use Rattle.std.proofs.Common.{◌≡◌, sym, ap, subst, ◌∙◌}
use Rattle.sqlite.specs.Effect.{Database}
use Rattle.sqlite.specs.State.{HasCleanDisk}
use Rattle.sqlite.specs.Files.{file_state, AreFound}
use Rattle.sqlite_trees.proofs.Doubt.{no_doubt}
use Rattle.sqlite_store.specs.Laws.{settled_at}
use Rattle.su_store.proofs.shut_files.ShutFile.open.Goals as goal

pub returns-in-Ok-resume-clause-shows : goal.returns-in-Ok-resume-clause-shows
returns-in-Ok-resume-clause-shows g c clean db held =
    let late : HasCleanDisk (file_state c.in-Ok.connection) = c.in-Ok-resume.ensures.clean clean in
    ap (λ (d : Database). d.trees) (c.in-Ok-resume.ensures.same clean)
    ∙ ap (λ (d : Database). d.trees) (c.in-Ok.ensures.opened late).0.clean
    ∙ (c.in-Ok.ensures.found late).holds db held

pub returns-in-Err-resume-clause-left : goal.returns-in-Err-resume-clause-left
returns-in-Err-resume-clause-left g c clean found may =
    let sure = no_doubt _ clean in
    let late : HasCleanDisk (file_state c.in-Ok.connection) = c.in-Err-resume.ensures.doubt sure in
    let finds = c.in-Ok.ensures.found late in
    let before : (file_state c.in-Ok.connection).may_leave found = c.in-Err-resume.ensures.left sure found may in
    let same : found ≡ (file_state c.in-Ok.connection).committed.trees = settled_at c.in-Ok.connection.store g.met.D.Disk.seen_may_stay found (c.in-Ok.ensures.opened late).0.is_open before in
    (subst (AreFound g.D.Disk c.args.self.files) (sym same) finds.reads, λ db held. same ∙ finds.holds db held)
