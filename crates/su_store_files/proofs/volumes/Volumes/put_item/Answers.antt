use Rattle.su_store_files.proofs.VolumeLemmas.{with_current, halts_at}
use Rattle.su_store_files.proofs.volumes.Volumes.put_item.Goals as goal

pub returns-in-Ok-clause-held : goal.returns-in-Ok-clause-held
returns-in-Ok-clause-held g c records held =
    let was = c.args.self.now in
    with_current g.V.Volume was records held c.put_item.new.self (c.put_item.ensures.begun held.own held.begun) (λ running. c.in-Ok.ensures.counted was.kept held.own (held.counted running))

pub returns-in-Err-clause-held : goal.returns-in-Err-clause-held
returns-in-Err-clause-held g c records held = halts_at g.V.Volume c.args.self.now records held c.put_item.new.self (c.put_item.ensures.begun held.own held.begun)
