use Rattle.su_block_cache.proofs.Keeping.{either, within-after_put, keeps-after_put, cap-after_put}
use Rattle.su_block_cache.proofs.kept.KeptItems.keep.Goals as goal

pub invariant_of-self : goal.invariant_of-self
invariant_of-self c =
    within-after_put c.as_bytes.result.now c.in-Ok.item c.self.inside.items c.put.new.self c.self.invariant (either c.put.result c.put.ensures.entries c.put.ensures.err)

pub returns-clause-keeps : goal.returns-clause-keeps
returns-clause-keeps c =
    keeps-after_put c.as_bytes.result.now c.in-Ok.item c.self.inside.items c.put.new.self c.self.invariant (either c.put.result c.put.ensures.entries c.put.ensures.err) c.args.self.now c.args.digest.now c.args.item.now c.self.view_is c.as_bytes.ensures c.in-Ok.ensures.bytes

pub returns-clause-capacity : goal.returns-clause-capacity
returns-clause-capacity c =
    cap-after_put c.as_bytes.result.now c.in-Ok.item c.self.inside.items c.put.new.self c.self.invariant (either c.put.result c.put.ensures.entries c.put.ensures.err) c.args.self.now c.self.view_is
