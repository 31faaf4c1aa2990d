use Rattle.std.proofs.Common.{◌∙◌, ap, refl}
use Rattle.su_bytes.specs.Roster.{users_of}
use Rattle.su_bytes.proofs.KeyMemberships.{users_of-more}
use Rattle.su_bytes.proofs.rosters.users_with.Goals as goal

pub loop-number-preserved : goal.loop-number-preserved
loop-number-preserved c =
    ap users_of c.in_ok-push.ensures.items
    ∙ users_of-more c.loop-number.users.items _ c.args.keys.now c.loop-number.number _ c.loop-number-test.true c.loop-number.invariant c.in-Ok.ensures.value refl
