use Rattle.sha_lanes.proofs.Picking.{picked_low, picked_high}
use Rattle.sha_lanes.proofs.steps.pick_word.Goals as goal

pub returns-clause-goes : goal.returns-clause-goes
returns-clause-goes c = λ l low. picked_high c.args.left c.args.old c.args.next c.args.turn l c.fits-left.0 c.fits-old.0 c.fits-next.0 low

pub returns-clause-rests : goal.returns-clause-rests
returns-clause-rests c = λ l low. picked_low c.args.left c.args.old c.args.next c.args.turn l c.fits-left.0 c.fits-old.0 c.fits-next.0 low
