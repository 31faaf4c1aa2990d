use Rattle.std.proofs.Common.{[], ◌∷◌, arith}
use Rattle.sqlite.specs.declared.types.Value.TheVariants.{Blob}
use Rattle.sqlite.specs.State.{Shown}
use Rattle.sqlite.specs.Held.{state}
use Rattle.su_store.proofs.SearchLemmas.{block_text, block_plain, finds_block, tells, unchanged}
use Rattle.su_store.proofs.lookups.is_held.Goals as goal

pub returns-clause-held : goal.returns-clause-held
returns-clause-held g c clean kept was =
    let has = c.requires (omega (arith, clean, c.query_all.ensures.survives.clean)) in
    let shown : Shown block_text (Blob c.args.digest.now ∷ []) (state g.S.Store c.args.tx.now.conn.now) (state g.S.Store c.query_all.new.self.conn.now) c.in_ok-rows.rows.items = rw c.params-to_sql.ensures at (c.in_ok-rows.ensures.ok clean) in
    rw (c.is_empty.ensures, c.as_slice.ensures.value) (tells c.args.digest.now kept.blocks c.in_ok-rows.rows.items (finds_block _ _ c.in_ok-rows.rows.items has kept was c.args.digest.now shown))

pub returns-clause-same : goal.returns-clause-same
returns-clause-same g c clean =
    let has = c.requires (omega (arith, clean, c.query_all.ensures.survives.clean)) in
    let shown : Shown block_text (Blob c.args.digest.now ∷ []) (state g.S.Store c.args.tx.now.conn.now) (state g.S.Store c.query_all.new.self.conn.now) c.in_ok-rows.rows.items = rw c.params-to_sql.ensures at (c.in_ok-rows.ensures.ok clean) in
    unchanged block_text _ _ _ _ has block_plain shown
