use Rattle.std.proofs.Common.{[], ◌∷◌, ◌++◌, sym, subst}
use Rattle.su_vault.specs.Records.{kept_with}
use Rattle.su_store_files.proofs.FoundLemmas.{takes_new}
use Rattle.su_store_files.proofs.VolumeLemmas.{with_more, halts_at}
use Rattle.su_store_files.proofs.volumes.Volumes.append.Goals as goal

pub returns-in-Ok-clause-kept : goal.returns-in-Ok-clause-kept
returns-in-Ok-clause-kept g c records held =
    let was = c.args.self.now in
    let counted = c.in-Ok.ensures.appended was.kept held.own c.requires.end.0 (held.counted c.requires.running) in
    let same = subst (λ n. g.V.Volume.counts c.append.new.self n (held.own ++ kept_with c.args.commit.now c.args.items.now ∷ [])) (sym c.len-self.ensures) counted in
    with_more g.V.Volume was records held c.requires.running c.append.new.self _ (kept_with c.args.commit.now c.args.items.now) (g.met.V.Volume.begins_with_counted _ _ _ counted) same

pub returns-in-Err-clause-held : goal.returns-in-Err-clause-held
returns-in-Err-clause-held g c records held =
    let was = c.args.self.now in
    halts_at g.V.Volume was records held c.append.new.self (c.in-Err.ensures.begun was.kept held.own c.requires.end.0 (held.counted c.requires.running))

pub returns-in-Ok-clause-found : goal.returns-in-Ok-clause-found
returns-in-Ok-clause-found g c = takes_new g.V.Volume g.met.V.Volume.shows_counted c.args.self.now c.append.new.self _ c.args.commit.now c.requires.end.0 c.requires.end.1 c.len-self.ensures c.in-Ok.ensures.shown c.in-Ok.ensures.clean
