use Rattle.std.proofs.Common.{◌≡◌, ◌+◌, ◌%◌, arith, refl}
use Rattle.sha_lanes.proofs.LaneLemmas.{word_of_lane}
use Rattle.sha_lanes.proofs.schedules.next_word.Goals as goal

pub returns : goal.returns
returns c =
    let at : c.args.place % 16 ≡ c.args.place = omega arith in
    let w = word_of_lane c.args.window.now in
    record {
      value = λ l low.
          rw (
            at,
            w l ((c.args.place + 14) % 16),
            w l ((c.args.place + 9) % 16),
            w l ((c.args.place + 1) % 16),
            w l c.args.place,
            c.add-word.ensures l low,
            c.add-sum2.ensures l low,
            c.small_sigma0-sigma0.ensures l low,
            c.add-sum1.ensures l low,
            c.small_sigma1-sigma1.ensures l low,
          ) refl;
      window = refl;
    }
