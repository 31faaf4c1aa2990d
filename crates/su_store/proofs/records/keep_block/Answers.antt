use Rattle.std.proofs.Common.{◌≡◌, IsTrue, rules, sym, subst, arith}
use Rattle.sqlite.specs.Effect.{Database}
use Rattle.sqlite.specs.State.{HasCleanDisk, Survives}
use Rattle.sqlite.specs.Held.{state}
use Rattle.sqlite.proofs.Callers.{survives_begin}
use Rattle.su_store.specs.Changes.{HoldsBlock, Keeps, LeavesBlock}
use Rattle.su_store.proofs.AppendLemmas.{keeps, leaves_block}
use Rattle.su_store.proofs.records.keep_block.Goals as goal

pub returns-clause-kept : goal.returns-clause-kept
returns-clause-kept g c late _ =
    let old = c.args.conn.now in
    let last = c.hold_block.new.tx.conn.now in
    let end = c.commit.new.self.0 in
    let block = c.args.block.now in
    let begun = c.transaction-tx.ensures.begun in
    let same : end ≡ c.conn-2-1.given.0 = search rules in
    let clean : HasCleanDisk (state g.S.Store end) = search rules in
    let before : HasCleanDisk (state g.S.Store last) = omega (arith, clean, c.commit.ensures.survives.clean) in
    let made = rw begun at (c.in_ok-hold_block.ensures.held before) in
    let shown = (c.in_ok-commit.ensures.ok clean).1 in
    subst (λ h. Keeps (HoldsBlock block) (state g.S.Store old) (state g.S.Store h)) same
    (keeps (HoldsBlock block) (state g.S.Store old) (state g.S.Store last) (state g.S.Store end) made.made made.schema shown
    (λ db may. g.met.S.Store.settled end.store db shown.is_open may))

pub returns-clause-crash : goal.returns-clause-crash
returns-clause-crash g c =
    let old = c.args.conn.now in
    let last = c.hold_block.new.tx.conn.now in
    let end = c.commit.new.self.0 in
    let begun = c.transaction-tx.ensures.begun in
    let shown = λ (clean : HasCleanDisk (state g.S.Store last)).
    let is_open : IsTrue (state g.S.Store old).is_open = rw begun at (c.in_ok-hold_block.ensures.was_open clean) in
    let alone : IsTrue c.is_autocommit.result = search rules in
    subst (λ (d : Database). (state g.S.Store old).may_leave d.trees) (sym (c.is_autocommit.ensures.settled alone is_open)) (g.met.S.Store.stays old.store is_open) in
    let whole = leaves_block c.args.block.now (state g.S.Store old) (state g.S.Store last) (state g.S.Store end) (λ clean. (rw begun at (c.in_ok-hold_block.ensures.held clean)).made) shown
    (survives_begin g.S.Store old (state g.S.Store last) _ (rw begun at c.hold_block.ensures.crash)) c.commit.ensures.survives in
    let same : end ≡ c.conn-2-1.given.0 = search rules in
    subst (λ h. Survives (state g.S.Store old) (state g.S.Store h) (LeavesBlock c.args.block.now (state g.S.Store old))) same whole

pub returns-in_err-commit-clause-crash : goal.returns-in_err-commit-clause-crash
returns-in_err-commit-clause-crash g c =
    let old = c.args.conn.now in
    let last = c.hold_block.new.tx.conn.now in
    let end = c.commit.new.self.0 in
    let begun = c.transaction-tx.ensures.begun in
    let shown = λ (clean : HasCleanDisk (state g.S.Store last)).
    let is_open : IsTrue (state g.S.Store old).is_open = rw begun at (c.in_ok-hold_block.ensures.was_open clean) in
    let alone : IsTrue c.is_autocommit.result = search rules in
    subst (λ (d : Database). (state g.S.Store old).may_leave d.trees) (sym (c.is_autocommit.ensures.settled alone is_open)) (g.met.S.Store.stays old.store is_open) in
    let whole = leaves_block c.args.block.now (state g.S.Store old) (state g.S.Store last) (state g.S.Store end) (λ clean. (rw begun at (c.in_ok-hold_block.ensures.held clean)).made) shown
    (survives_begin g.S.Store old (state g.S.Store last) _ (rw begun at c.hold_block.ensures.crash)) c.commit.ensures.survives in
    let same : end ≡ c.conn-2-1.given.0 = search rules in
    subst (λ h. Survives (state g.S.Store old) (state g.S.Store h) (LeavesBlock c.args.block.now (state g.S.Store old))) same whole
