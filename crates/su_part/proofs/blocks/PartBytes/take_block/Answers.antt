use Rattle.std.proofs.Common.{inl, ◌+◌, ◌<◌, ◌^◌, arith}
use Rattle.su_part.specs.InPlace.{digests_of}
use Rattle.su_part.proofs.InPlaceLemmas.{taken_just, taken_keeps}
use Rattle.su_part.proofs.blocks.PartBytes.take_block.Goals as goal

pub returns-clause-just : goal.returns-clause-just
returns-clause-just c f h reached =
    let small : c.args.number < 2 ^ 32 = omega arith in
    taken_just f c.args.number c.args.self.now _ h small c.remove.ensures.updates.0 (c.take.ensures.stands (digests_of f (c.args.number + 1)) h.digests (inl reached))

pub returns-clause-keeps : goal.returns-clause-keeps
returns-clause-keeps c f h reached =
    let small : c.args.number < 2 ^ 32 = omega arith in
    taken_keeps f c.args.number c.args.self.now _ h small c.remove.ensures.updates.0 (c.take.ensures.stands (digests_of f (c.args.number + 1)) h.digests (inl reached))
    (c.take.ensures.stays (digests_of f (c.args.number + 1)) h.digests (inl reached))
