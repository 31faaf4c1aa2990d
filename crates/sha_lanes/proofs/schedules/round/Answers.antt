use Rattle.std.proofs.Common.{refl}
use Rattle.sha_lanes.proofs.LaneLemmas.{word_of_lane}
use Rattle.sha_lanes.proofs.schedules.round.Goals as goal

pub returns : goal.returns
returns c l low =
    let v = word_of_lane c.args.state l in
    rw (
      v 0,
      v 1,
      v 2,
      v 3,
      v 4,
      v 5,
      v 6,
      v 7,
      c.add-first.ensures l low,
      c.add-fifth.ensures l low,
      c.add-temp2.ensures l low,
      c.maj-majority.ensures l low,
      c.big_sigma0-sigma0.ensures l low,
      c.add-temp1.ensures l low,
      c.add_number-sum3.ensures l low,
      c.add-sum2.ensures l low,
      c.add-sum1.ensures l low,
      c.ch-choice.ensures l low,
      c.big_sigma1-sigma1.ensures l low,
    ) refl
