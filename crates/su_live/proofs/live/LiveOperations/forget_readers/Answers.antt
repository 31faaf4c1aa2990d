use Rattle.std.proofs.Common.{◌≤◌, arith}
use Rattle.su_live.proofs.LiveLemmas.{all_later, forgotten}
use Rattle.su_live.proofs.live.LiveOperations.forget_readers.Goals as goal

pub invariant_of-self : goal.invariant_of-self
invariant_of-self g c =
    let last = c.last_number.result in
    let scanned = c.max-self-inside.result in
    let is = c.max-self-inside.ensures in
    let le : last ≤ scanned = omega arith in
    forgotten _ _ _ c.self.inside.scanned scanned c.args.self.now c.self.invariant c.self.view_is
    (all_later last scanned c.args.self.now le c.last_number.ensures) c.new.ensures.empty
