use Rattle.std.proofs.Common.{◌≡◌, ◌+◌, ◌∙◌, ap, sym, length, arith}
use Rattle.std.proofs.lemmas.List.{length-take}
use Rattle.su_node.specs.Stored.{digests_of}
use Rattle.su_node.proofs.Hashed.{hashed-pop}
use Rattle.su_node.proofs.blocks.hashed.HashedBlocks.pop.Goals as goal

pub invariant_of-self : goal.invariant_of-self
invariant_of-self c =
    let blocks = c.self.inside.blocks.items in
    let long : length blocks ≡ c.in-Some.last + 1 = omega (arith, c.in-Some.ensures, c.len.ensures, ap length c.self.view_is) in
    let cut = c.truncate.ensures.items in (
      c.remove.ensures.new ∙ hashed-pop blocks c.self.inside.digests.entries c.self.invariant.0 c.in-Some.last long ∙ ap digests_of (sym cut),
      omega (arith, ap length cut, length-take c.in-Some.last blocks, c.self.invariant.1),
    )
