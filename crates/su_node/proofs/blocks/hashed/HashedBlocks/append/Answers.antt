use Rattle.std.proofs.Common.{◌+◌, ◌*◌, ap, length, arith}
use Rattle.std.proofs.lemmas.Grind.{common_steps}
use Rattle.std.proofs.lemmas.List.{length-append}
use Rattle.su_node.proofs.blocks.hashed.HashedBlocks.append.Goals as goal

pub push-requires : goal.push-requires
push-requires c =
    let left = ap length c.in-Some.ensures.steps.0 in
    let both = ap length c.loop-block.invariant.all in
    omega (arith, left, both, length-append c.loop-block.self c.loop-block.block-iterator.rest.items, length-append c.args.self.now c.args.added.items, c.requires)

pub loop-block-preserved : goal.loop-block-preserved
loop-block-preserved c = record {
  all = grind (arith, common_steps);
  kept = grind (arith, common_steps);
  counted = λ bits few.
      let left = ap length c.in-Some.ensures.steps.0 in
      let both = ap length c.loop-block.invariant.all in
      let sides = length-append c.loop-block.self c.loop-block.block-iterator.rest.items in
      let whole = length-append c.args.self.now c.args.added.items in
      let made = c.in-Ok.ensures.hashes bits (omega (arith, left, both, sides, whole, few)) in
      omega (arith, ap (λ n. (bits + 2) * n) left, made, c.loop-block.invariant.counted bits few, c.saturating_add-hashes.ensures);
}
