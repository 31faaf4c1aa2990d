use Rattle.su_part_forest.proofs.Reading.{whole_contents}
use Rattle.su_part_forest.proofs.forests.PartForest.read.Goals as goal

pub returns-clause-ok : goal.returns-clause-ok
returns-clause-ok g c T h free = rw (← whole_contents c.args.self.now T h c.args.file) (c.read_at.ensures.ok T h free)

pub returns-clause-refused : goal.returns-clause-refused
returns-clause-refused g c T h free = rw (← whole_contents c.args.self.now T h c.args.file) (c.read_at.ensures.refused T h free)
