use Rattle.std.proofs.Common.{◌≡◌, ◌∷◌, ◌++◌, [], option_to_list, ap, sym, subst, ◌∙◌}
use Rattle.su_vault.specs.Records.{commits_of}
use Rattle.su_store_files.specs.Volumes.{WereFound}
use Rattle.su_store_files.specs.declared.volumes.Opened.{Opened}
use Rattle.su_store_files.proofs.CrashLemmas.{all_kept, were_found}
use Rattle.su_store_files.proofs.volumes.Volumes.crash.Goals as goal

pub returns-in-Ok-open : goal.returns-in-Ok-open
returns-in-Ok-open g c = λ records held first later.
    let V = g.V.Volume in
    let files : Opened g.row.V.Denot g.row.V-Fault.Denot = record { first = c.open.new.self; later = c.pop.new.self } in
    let are = c.in-Ok.ensures.items ∙ ap (λ p. p.items ++ c.args.self.current ∷ []) c.into_places-files.ensures in
    let kept = all_kept V g.met.V.Volume.keeps_all_counted c.args.self records c.push.new.self.items c.requires.running c.requires.end are held in
    let left = c.in_ok-later.ensures kept.0 kept.2 in
    let behind = c.pop.ensures.items ∙ ap (λ o. c.pop.new.self.items ++ option_to_list o) c.in_ok-first.was in
    let how = c.in-Ok-open.ensures in
    subst (λ r. WereFound V files (commits_of r)) (sym kept.1)
    (were_found V files c.in_ok-later.later.items c.in_ok-first.first kept.0 behind left how.clean how.anew how.found first later)
