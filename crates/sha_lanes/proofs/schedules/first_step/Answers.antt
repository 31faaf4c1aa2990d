use Rattle.std.proofs.Common.{refl, sym}
use Rattle.sha2.proofs.Schedule256.{rounds_first}
use Rattle.sha_lanes.specs.Lanes.{lane}
use Rattle.sha_lanes.proofs.LaneLemmas.{word_of_lane}
use Rattle.sha_lanes.proofs.schedules.first_step.Goals as goal

pub returns : goal.returns
returns c = λ l low b h window held.
    rounds_first b h (lane l c.args.window.now) (lane l c.args.state) c.args.t _ _ _ c.requires window held refl
    (sym (word_of_lane c.args.window.now l c.args.t)) (c.round.ensures l low)
