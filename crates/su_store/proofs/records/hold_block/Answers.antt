use Rattle.std.proofs.Common.{◌≡◌, arith, rules, true, false}
use Rattle.sqlite.specs.State.{HasCleanDisk}
use Rattle.sqlite.specs.Held.{state}
use Rattle.su_store.proofs.BlockLemmas.{holds_there, holds_new}
use Rattle.su_store.proofs.records.hold_block.Goals as goal

pub put_block-requires-clause-begun : goal.put_block-requires-clause-begun
put_block-requires-clause-begun g c clean =
    let was : HasCleanDisk (state g.S.Store c.args.tx.now.conn.now) = omega (arith, clean, c.is_held.ensures.crash.clean) in
    rw (c.in_ok-is_held.ensures.same clean).0.mode (c.requires.begun was)

pub returns-in_ok-put_block-clause-held : goal.returns-in_ok-put_block-clause-held
returns-in_ok-put_block-clause-held g c clean =
    let mid : HasCleanDisk (state g.S.Store c.is_held.new.tx.conn.now) = omega (arith, clean, c.put_block.ensures.crash.clean) in
    let none : c.in_ok-is_held.field-0 ≡ false = search rules in
    let told = rw (c.digest-digest.ensures, none) at (c.in_ok-is_held.ensures.held mid) in
    holds_new c.args.bytes.now _ _ _ told (c.in_ok-is_held.ensures.same mid) (c.in_ok-put_block.ensures.put clean)

pub returns-else-not-branch-clause-held : goal.returns-else-not-branch-clause-held
returns-else-not-branch-clause-held g c clean =
    let was : HasCleanDisk (state g.S.Store c.args.tx.now.conn.now) = omega (arith, clean, c.is_held.ensures.crash.clean) in
    let there : c.in_ok-is_held.field-0 ≡ true = search rules in
    let told = rw (c.digest-digest.ensures, there) at (c.in_ok-is_held.ensures.held clean) in
    holds_there c.args.bytes.now _ _ (c.requires.schema was) (c.requires.begun was) told (c.in_ok-is_held.ensures.same clean)

pub returns-in_ok-put_block-clause-was_open : goal.returns-in_ok-put_block-clause-was_open
returns-in_ok-put_block-clause-was_open g c clean =
    let mid : HasCleanDisk (state g.S.Store c.is_held.new.tx.conn.now) = omega (arith, clean, c.put_block.ensures.crash.clean) in
    (c.in_ok-is_held.ensures.same mid).0.was_open

pub returns-else-not-branch-clause-was_open : goal.returns-else-not-branch-clause-was_open
returns-else-not-branch-clause-was_open g c clean = (c.in_ok-is_held.ensures.same clean).0.was_open
