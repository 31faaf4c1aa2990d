use Rattle.std.proofs.Common.{◌^◌, ◌∙◌, ap, length, arith}
use Rattle.std.proofs.lemmas.List.{length-set}
use Rattle.su_node.proofs.Hashed.{hashed-below, hashed-set, hashed-there}
use Rattle.su_node.proofs.blocks.hashed.HashedBlocks.overwrite.Goals as goal

pub refresh-requires-clause-there : goal.refresh-requires-clause-there
refresh-requires-clause-there c =
    hashed-there c.self.inside.blocks.items c.self.inside.digests.entries c.self.invariant.0 c.args.number (omega (arith, c.requires.there, ap length c.self.view_is))

pub invariant_of-self : goal.invariant_of-self
invariant_of-self c =
    let blocks = c.self.inside.blocks.items in (
      c.refresh.ensures.put ∙ hashed-set blocks c.self.inside.digests.entries c.self.invariant.0 c.args.number c.overwrite.new.self (omega (arith, c.requires.there, ap length c.self.view_is)),
      omega (arith, length-set blocks c.args.number c.overwrite.new.self, c.self.invariant.1),
    )

pub returns-clause-hashes : goal.returns-clause-hashes
returns-clause-hashes c = λ bits few.
    let long = ap length c.self.view_is in
    let below = hashed-below c.self.inside.blocks.items c.self.inside.digests.entries c.self.invariant.0 (2 ^ bits) (omega (arith, long, few)) in
    let path = c.refresh.ensures.hashes bits (omega (arith, c.requires.there, few)) below in
    omega (arith, path, c.refresh.ensures.counted)
