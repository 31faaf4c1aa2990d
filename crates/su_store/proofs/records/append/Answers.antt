use Rattle.std.proofs.Common.{◌≡◌, true, map, sym, subst, arith, rules}
use Rattle.sqlite.specs.State.{HasCleanDisk, Survives}
use Rattle.sqlite.specs.Held.{state}
use Rattle.sqlite.proofs.StateLemmas.{survives_then}
use Rattle.sqlite.proofs.Callers.{survives_begin}
use Rattle.su_store.specs.Changes.{Extends, Keeps}
use Rattle.su_store.proofs.Shared.{survives_both}
use Rattle.su_store.proofs.AppendLemmas.{extends, keeps}
use Rattle.su_store.proofs.records.append.Goals as goal

pub returns-clause-kept : goal.returns-clause-kept
returns-clause-kept g c late _ =
    let old = c.args.conn.now in
    let mid = c.hold_blocks.new.tx.conn.now in
    let last = c.put_record.new.tx.conn.now in
    let end = c.commit.new.self.0 in
    let bytes = c.args.bytes.now in
    let blocks = map (λ b. b.items) c.args.blocks.now in
    let begun = c.transaction-tx.ensures.begun in
    let made = λ (clean : HasCleanDisk (state g.S.Store last)).
    let early : HasCleanDisk (state g.S.Store mid) = omega (arith, clean, c.put_record.ensures.crash.clean) in
    let first : HasCleanDisk (state g.S.Store old) = omega (arith, early, (rw begun at c.hold_blocks.ensures.crash).clean) in
    let held = rw begun at (c.in_ok-hold_blocks.ensures.held early) in
    let put = c.in_ok-put_record.ensures.put clean in
    let all : Extends bytes blocks (state g.S.Store old).now.trees (state g.S.Store last).now.trees =
    extends c.args.number bytes blocks (state g.S.Store (record old { in_transaction = true })) (state g.S.Store mid) (state g.S.Store last) (c.requires.numbered first) held put in all in
    let same : end ≡ c.conn-2-1.given.0 = search rules in
    let clean : HasCleanDisk (state g.S.Store end) = search rules in
    let before : HasCleanDisk (state g.S.Store last) = omega (arith, clean, c.commit.ensures.survives.clean) in
    let shown = (c.in_ok-commit.ensures.ok clean).1 in
    subst (λ h. Keeps (Extends bytes blocks) (state g.S.Store old) (state g.S.Store h)) same
    (keeps (Extends bytes blocks) (state g.S.Store old) (state g.S.Store last) (state g.S.Store end) (made before) (c.in_ok-put_record.ensures.put before).schema shown
    (λ db may. g.met.S.Store.settled end.store db shown.is_open may))

pub returns-clause-crash : goal.returns-clause-crash
returns-clause-crash g c =
    let old = c.args.conn.now in
    let mid = c.hold_blocks.new.tx.conn.now in
    let last = c.put_record.new.tx.conn.now in
    let end = c.commit.new.self.0 in
    let bytes = c.args.bytes.now in
    let blocks = map (λ b. b.items) c.args.blocks.now in
    let begun = c.transaction-tx.ensures.begun in
    let made = λ (clean : HasCleanDisk (state g.S.Store last)).
    let early : HasCleanDisk (state g.S.Store mid) = omega (arith, clean, c.put_record.ensures.crash.clean) in
    let first : HasCleanDisk (state g.S.Store old) = omega (arith, early, (rw begun at c.hold_blocks.ensures.crash).clean) in
    let held = rw begun at (c.in_ok-hold_blocks.ensures.held early) in
    let put = c.in_ok-put_record.ensures.put clean in
    let all : Extends bytes blocks (state g.S.Store old).now.trees (state g.S.Store last).now.trees =
    extends c.args.number bytes blocks (state g.S.Store (record old { in_transaction = true })) (state g.S.Store mid) (state g.S.Store last) (c.requires.numbered first) held put in all in
    let inside = survives_both (state g.S.Store c.transaction-tx.result.conn.now) (state g.S.Store mid) (state g.S.Store last) c.hold_blocks.ensures.crash c.put_record.ensures.crash in
    let P = Extends bytes blocks (state g.S.Store old).now.trees in
    let whole = survives_then (state g.S.Store old) (state g.S.Store last) (state g.S.Store end) _ _ P (λ _ db none. absurd none)
    (λ clean db is. subst P (sym is) (made (omega (arith, clean, c.commit.ensures.survives.clean)))) (survives_begin g.S.Store old (state g.S.Store last) _ (rw begun at inside)) c.commit.ensures.survives in
    let same : end ≡ c.conn-2-1.given.0 = search rules in
    subst (λ h. Survives (state g.S.Store old) (state g.S.Store h) P) same whole

pub returns-in_err-commit-clause-crash : goal.returns-in_err-commit-clause-crash
returns-in_err-commit-clause-crash g c =
    let old = c.args.conn.now in
    let mid = c.hold_blocks.new.tx.conn.now in
    let last = c.put_record.new.tx.conn.now in
    let end = c.commit.new.self.0 in
    let bytes = c.args.bytes.now in
    let blocks = map (λ b. b.items) c.args.blocks.now in
    let begun = c.transaction-tx.ensures.begun in
    let made = λ (clean : HasCleanDisk (state g.S.Store last)).
    let early : HasCleanDisk (state g.S.Store mid) = omega (arith, clean, c.put_record.ensures.crash.clean) in
    let first : HasCleanDisk (state g.S.Store old) = omega (arith, early, (rw begun at c.hold_blocks.ensures.crash).clean) in
    let held = rw begun at (c.in_ok-hold_blocks.ensures.held early) in
    let put = c.in_ok-put_record.ensures.put clean in
    let all : Extends bytes blocks (state g.S.Store old).now.trees (state g.S.Store last).now.trees =
    extends c.args.number bytes blocks (state g.S.Store (record old { in_transaction = true })) (state g.S.Store mid) (state g.S.Store last) (c.requires.numbered first) held put in all in
    let inside = survives_both (state g.S.Store c.transaction-tx.result.conn.now) (state g.S.Store mid) (state g.S.Store last) c.hold_blocks.ensures.crash c.put_record.ensures.crash in
    let P = Extends bytes blocks (state g.S.Store old).now.trees in
    let whole = survives_then (state g.S.Store old) (state g.S.Store last) (state g.S.Store end) _ _ P (λ _ db none. absurd none)
    (λ clean db is. subst P (sym is) (made (omega (arith, clean, c.commit.ensures.survives.clean)))) (survives_begin g.S.Store old (state g.S.Store last) _ (rw begun at inside)) c.commit.ensures.survives in
    let same : end ≡ c.conn-2-1.given.0 = search rules in
    subst (λ h. Survives (state g.S.Store old) (state g.S.Store h) P) same whole
