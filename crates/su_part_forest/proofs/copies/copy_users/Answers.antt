use Rattle.su_part_forest.specs.Copy.{IsUserCopy}
use Rattle.su_part_forest.proofs.CopyLemmas.{next_copied}
use Rattle.su_part_forest.proofs.copies.copy_users.Goals as goal

pub loop-part-preserved : goal.loop-part-preserved
loop-part-preserved c =
    let copy : IsUserCopy c.part-item.result c.in_ok-copy.field-0 = record { stands = c.in_ok-copy.ensures.stands; all = c.in_ok-copy.ensures.all } in
    next_copied IsUserCopy c.deref-part-items.result.now c.loop-part.copies.items c.push.new.self.items c.loop-part.part-index c.part-item.result c.in_ok-copy.field-0 c.loop-part-test.true c.part-item.is
    c.loop-part.invariant copy c.in_ok-push.ensures.items
