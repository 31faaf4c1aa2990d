use Rattle.std.proofs.Common.{◌∙◌, ap, length, arith}
use Rattle.std.proofs.lemmas.List.{length-set}
use Rattle.su_node.proofs.Hashed.{hashed-set, hashed-there}
use Rattle.su_node.proofs.blocks.hashed.HashedBlocks.cut.Goals as goal

pub refresh-requires-clause-there : goal.refresh-requires-clause-there
refresh-requires-clause-there c =
    hashed-there c.self.inside.blocks.items c.self.inside.digests.entries c.self.invariant.0 c.args.number (omega (arith, c.requires, ap length c.self.view_is))

pub invariant_of-self : goal.invariant_of-self
invariant_of-self c =
    let blocks = c.self.inside.blocks.items in (
      c.refresh.ensures.put ∙ hashed-set blocks c.self.inside.digests.entries c.self.invariant.0 c.args.number c.cut.new.self (omega (arith, c.requires, ap length c.self.view_is)),
      omega (arith, length-set blocks c.args.number c.cut.new.self, c.self.invariant.1),
    )
