use Rattle.su_vault.specs.Records.{found_alone}
use Rattle.su_store_files.proofs.FoundLemmas.{takes_next}
use Rattle.su_store_files.proofs.VolumeLemmas.{with_more, halts_at}
use Rattle.su_store_files.proofs.volumes.Volumes.keep_found.Goals as goal

pub returns-in-Ok-clause-kept : goal.returns-in-Ok-clause-kept
returns-in-Ok-clause-kept g c records held =
    let was = c.args.self.now in
    let counted = c.in-Ok.ensures.kept held.own (held.counted c.requires.running) in
    with_more g.V.Volume was records held c.requires.running c.keep_found.new.file _ (found_alone c.args.commit.now) (g.met.V.Volume.begins_with_counted _ _ _ counted) counted

pub returns-in-Err-clause-held : goal.returns-in-Err-clause-held
returns-in-Err-clause-held g c records held = halts_at g.V.Volume c.args.self.now records held c.keep_found.new.file (c.keep_found.ensures.begun held.own held.begun)

pub returns-in-Ok-clause-found : goal.returns-in-Ok-clause-found
returns-in-Ok-clause-found g c = takes_next g.V.Volume g.met.V.Volume.shows_counted c.args.self.now c.keep_found.new.file _ c.args.commit.now c.in-Ok.ensures.next c.in-Ok.ensures.at c.in-Ok.ensures.shown c.in-Ok.ensures.clean
