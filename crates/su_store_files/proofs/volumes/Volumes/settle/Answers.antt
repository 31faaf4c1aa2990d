use Rattle.su_store_files.proofs.VolumeLemmas.{with_current}
use Rattle.su_store_files.proofs.volumes.Volumes.settle.Goals as goal

pub returns-in-Ok-clause-held : goal.returns-in-Ok-clause-held
returns-in-Ok-clause-held g c records held =
    let was = c.args.self.now in
    let all = g.met.V.Volume.keeps_all_counted was.current was.kept held.own c.requires.through (held.counted c.requires.running) in
    let counted = c.shut.ensures.counted was.kept held.own all in
    with_current g.V.Volume was records held c.shut.new.self (g.met.V.Volume.begins_with_counted c.shut.new.self was.kept held.own counted) (λ _. counted)

pub returns-in-Err-clause-held : goal.returns-in-Err-clause-held
returns-in-Err-clause-held g c records held =
    let was = c.args.self.now in
    let all = g.met.V.Volume.keeps_all_counted was.current was.kept held.own c.requires.through (held.counted c.requires.running) in
    let counted = c.shut.ensures.counted was.kept held.own all in
    c.halt.ensures.held records (with_current g.V.Volume was records held c.shut.new.self (g.met.V.Volume.begins_with_counted c.shut.new.self was.kept held.own counted) (λ _. counted))
