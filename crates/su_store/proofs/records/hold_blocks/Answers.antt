use Rattle.std.proofs.Common.{◌<◌, arith, refl, sym, ap, subst, ◌∙◌, add-one, length, map, take}
use Rattle.sqlite.specs.State.{HasCleanDisk}
use Rattle.sqlite.specs.Held.{state}
use Rattle.su_store.specs.Changes.{HoldsBlocks, MakesInside}
use Rattle.su_store.proofs.Shared.{survives_self, survives_both}
use Rattle.su_store.proofs.BlockLemmas.{holds_none, holds_more, take_more}
use Rattle.su_store.proofs.records.hold_blocks.Goals as goal

pub loop-block-init : goal.loop-block-init
loop-block-init g c = record {
  same_reference = refl;
  crash = survives_self (state g.S.Store c.args.tx.now.conn.now) _;
  held = λ clean. holds_none (state g.S.Store c.args.tx.now.conn.now) (c.requires.schema clean) (c.requires.begun clean);
}

pub hold_block-requires-clause-schema : goal.hold_block-requires-clause-schema
hold_block-requires-clause-schema g c clean = (c.loop-block.invariant.held clean).schema

pub hold_block-requires-clause-begun : goal.hold_block-requires-clause-begun
hold_block-requires-clause-begun g c clean = (c.loop-block.invariant.held clean).begun

pub loop-block-preserved : goal.loop-block-preserved
loop-block-preserved g c = record {
  same_reference = c.hold_block.ensures.same_reference ∙ c.loop-block.invariant.same_reference;
  crash = survives_both (state g.S.Store c.args.tx.now.conn.now) (state g.S.Store c.loop-block.tx.conn.now) (state g.S.Store c.hold_block.new.tx.conn.now) c.loop-block.invariant.crash c.hold_block.ensures.crash;
  held = λ clean.
      let mid : HasCleanDisk (state g.S.Store c.loop-block.tx.conn.now) = omega (arith, clean, c.hold_block.ensures.crash.clean) in
      let old = state g.S.Store c.args.tx.now.conn.now in
      let new = state g.S.Store c.hold_block.new.tx.conn.now in
      let block = rw c.as_slice.ensures.value at (c.in_ok-hold_block.ensures.held clean) in
      let low : c.loop-block.block-index < length c.args.blocks.now = omega arith in
      let first = take_more (λ b. b.items) c.args.blocks.now c.loop-block.block-index c.block-item.result low c.block-item.is in
      let step = ap (λ k. map (λ b. b.items) (take k c.args.blocks.now)) (add-one c.loop-block.block-index) ∙ first in
      subst (λ all. MakesInside (HoldsBlocks all) old new) (sym step) (holds_more (map (λ b. b.items) (take c.loop-block.block-index c.args.blocks.now)) c.block-item.result.items old _ new (c.loop-block.invariant.held mid) block);
}
