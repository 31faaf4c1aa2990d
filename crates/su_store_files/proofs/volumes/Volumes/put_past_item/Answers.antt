use Rattle.su_store_files.proofs.VolumeLemmas.{with_past}
use Rattle.su_store_files.proofs.volumes.Volumes.put_past_item.Goals as goal

pub returns-in-Ok-clause-held : goal.returns-in-Ok-clause-held
returns-in-Ok-clause-held g c records held = with_past g.V.Volume c.args.self.now records held c.put_item.new.self (c.put_item.ensures held.lists held.past)

pub returns-in-Err-clause-held : goal.returns-in-Err-clause-held
returns-in-Err-clause-held g c records held = c.halt.ensures.held records (with_past g.V.Volume c.args.self.now records held c.put_item.new.self (c.put_item.ensures held.lists held.past))
