use Rattle.std.proofs.Common.{◌≡◌, ◌-◌, ◌≤◌, length, IsTrue}
use Rattle.sqlite.specs.State.{HasCleanDisk, Survives}
use Rattle.sqlite.specs.Held.{state}
use Rattle.su_store.specs.Kept.{Kept}
use Rattle.su_store.specs.Tables.{Stands}
use Rattle.su_store.proofs.lookups.count_records.Given as goal

abbrev pub invariant-halves : goal.invariant-halves
invariant-halves g l =
    let old = state g.S.Store l.initial.conn in
    let now = state g.S.Store l.conn in
    record {
      within : l.low ≤ l.high;
      bound : l.high ≤ l.fn.most;
      crash : Survives old now (λ _. ⊥);
      same : HasCleanDisk now → now.now ≡ old.now;
      is_open : HasCleanDisk now → IsTrue now.is_open;
      below : HasCleanDisk now → (kept : Kept) → Stands kept old.now.trees → l.low ≤ length kept.records;
      above : HasCleanDisk now → (kept : Kept) → Stands kept old.now.trees → length kept.records ≤ l.high;
    }

abbrev pub decreases-halves : goal.decreases-halves
decreases-halves g l = l.high - l.low
