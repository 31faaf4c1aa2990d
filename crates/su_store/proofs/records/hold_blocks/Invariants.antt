use Rattle.std.proofs.Common.{◌≡◌, map, take}
use Rattle.sqlite.specs.State.{HasCleanDisk, Survives}
use Rattle.sqlite.specs.Held.{state}
use Rattle.su_store.specs.Changes.{HoldsBlocks, MakesInside}
use Rattle.su_store.proofs.records.hold_blocks.Given as goal

abbrev pub invariant-loop-block : goal.invariant-loop-block
invariant-loop-block g l =
    let old = state g.S.Store l.initial.tx.conn.now in
    let now = state g.S.Store l.tx.conn.now in
    record {
      same_reference : l.tx.conn.ghost_name ≡ l.initial.tx.conn.ghost_name;
      crash : Survives old now (λ _. ⊥);
      held : HasCleanDisk now → MakesInside (HoldsBlocks (map (λ b. b.items) (take l.block-index l.blocks))) old now;
    }
