use Rattle.std.proofs.Common.{subst, sym}
use Rattle.std.specs.Prelude.{None}
use Rattle.su_shared_items.specs.Section.{PinnedStay}
use Rattle.su_shared_items.proofs.Pinning.{forgotten_stay, recounted_here, removed_stay}
use Rattle.su_shared_items.proofs.sections.Section.release.Goals as goal

pub invariant_of-self : goal.invariant_of-self
invariant_of-self c =
    let left = forgotten_stay c.args.digest.now c.self.inside.pins c.forget.new.self c.self.inside.shard.staying c.self.invariant c.forget.ensures in
    let none = recounted_here c.args.digest.now None c.self.inside.pins c.forget.new.self c.forget.ensures in
    subst (PinnedStay c.forget.new.self) (sym c.release.ensures.staying) (removed_stay c.args.digest.now c.forget.new.self c.self.inside.shard.staying left none)
