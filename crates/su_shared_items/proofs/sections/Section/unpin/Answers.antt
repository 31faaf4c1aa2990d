use Rattle.std.proofs.Common.{◌∙◌, subst, sym}
use Rattle.su_shared_items.specs.Section.{PinnedStay, one_fewer, pins_of}
use Rattle.su_shared_items.proofs.Pinning.{fewer_stay, recounted_here, removed_stay, last_leaves_none}
use Rattle.su_shared_items.proofs.sections.Section.unpin.Goals as goal

pub invariant_of-self : goal.invariant_of-self
invariant_of-self c =
    let before = pins_of c.self.inside.pins c.args.digest.now in
    let left = fewer_stay c.args.digest.now c.self.inside.pins c.subtract.new.self c.self.inside.shard.staying c.self.invariant c.subtract.ensures.fewer in
    let none = recounted_here c.args.digest.now (one_fewer before) c.self.inside.pins c.subtract.new.self c.subtract.ensures.fewer ∙ last_leaves_none before (sym c.subtract.ensures.last ∙ c.if-subtract.true) in
    subst (PinnedStay c.subtract.new.self) (sym c.drop_staying.ensures.staying) (removed_stay c.args.digest.now c.subtract.new.self c.self.inside.shard.staying left none)
