use Rattle.su_store_files.proofs.VolumeLemmas.{halts, halts_before}
use Rattle.su_store_files.proofs.volumes.Volumes.halt.Goals as goal

pub returns-clause-held : goal.returns-clause-held
returns-clause-held g c records held = halts g.V.Volume c.args.self.now records held

pub returns-clause-last : goal.returns-clause-last
returns-clause-last g c records last held = halts_before g.V.Volume c.args.self.now records last held
