use Rattle.std.proofs.Common.{[], ◌∷◌, arith}
use Rattle.std.proofs.lemmas.Result.{IfOk-weaker}
use Rattle.sqlite.specs.declared.types.Value.TheVariants.{Blob}
use Rattle.sqlite.specs.State.{Shown}
use Rattle.sqlite.specs.Held.{state}
use Rattle.su_store.proofs.Shared.{on_ok}
use Rattle.su_store.proofs.SearchLemmas.{block_text, block_plain, block_plainly, finds_block, block_found, unchanged, commits_nothing}
use Rattle.su_store.proofs.lookups.find_block.Goals as goal

pub returns-in_err-rows-clause-crash : goal.returns-in_err-rows-clause-crash
returns-in_err-rows-clause-crash g c =
    commits_nothing block_text (Blob c.args.digest.now ∷ []) (state g.S.Store c.args.conn.now) (state g.S.Store c.query_all.new.self) (λ clean. block_plainly (state g.S.Store c.args.conn.now) (c.requires clean))
    (rw c.params-to_sql.ensures at c.query_all.ensures.survives)

pub returns-clause-crash : goal.returns-clause-crash
returns-clause-crash g c =
    commits_nothing block_text (Blob c.args.digest.now ∷ []) (state g.S.Store c.args.conn.now) (state g.S.Store c.query_all.new.self) (λ clean. block_plainly (state g.S.Store c.args.conn.now) (c.requires clean))
    (rw c.params-to_sql.ensures at c.query_all.ensures.survives)

pub returns-clause-found : goal.returns-clause-found
returns-clause-found g c clean =
    let has = c.requires (omega (arith, clean, c.query_all.ensures.survives.clean)) in
    let shown : Shown block_text (Blob c.args.digest.now ∷ []) (state g.S.Store c.args.conn.now) (state g.S.Store c.query_all.new.self) c.in_ok-rows.rows.items = rw c.params-to_sql.ensures at (c.in_ok-rows.ensures.ok clean) in
    IfOk-weaker c.first_bytes.result _ _ (λ found first kept was. block_found c.args.digest.now kept.blocks c.in_ok-rows.rows.items _ (finds_block _ _ c.in_ok-rows.rows.items has kept was c.args.digest.now shown) (rw c.as_slice.ensures.value at first)) c.first_bytes.ensures

pub returns-clause-same : goal.returns-clause-same
returns-clause-same g c clean =
    let has = c.requires (omega (arith, clean, c.query_all.ensures.survives.clean)) in
    let shown : Shown block_text (Blob c.args.digest.now ∷ []) (state g.S.Store c.args.conn.now) (state g.S.Store c.query_all.new.self) c.in_ok-rows.rows.items = rw c.params-to_sql.ensures at (c.in_ok-rows.ensures.ok clean) in
    on_ok c.first_bytes.result (unchanged block_text _ _ _ _ has block_plain shown)
