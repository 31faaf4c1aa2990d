use Rattle.std.proofs.Common.{[], ◌∷◌, pos, arith}
use Rattle.std.proofs.lemmas.Result.{IfOk-weaker}
use Rattle.sqlite.specs.declared.types.Value.TheVariants.{Int}
use Rattle.sqlite.specs.State.{Shown}
use Rattle.sqlite.specs.Held.{state}
use Rattle.su_store.proofs.Shared.{on_ok}
use Rattle.su_store.proofs.SearchLemmas.{record_text, record_plain, record_plainly, finds_record, record_found, unchanged, commits_nothing}
use Rattle.su_store.proofs.lookups.find_record.Goals as goal

pub returns-in_err-rows-clause-crash : goal.returns-in_err-rows-clause-crash
returns-in_err-rows-clause-crash g c =
    commits_nothing record_text (Int (pos c.args.number) ∷ []) (state g.S.Store c.args.conn.now) (state g.S.Store c.query_all.new.self) (λ clean. record_plainly (state g.S.Store c.args.conn.now) (c.requires clean))
    (rw c.params-to_sql.ensures at c.query_all.ensures.survives)

pub returns-clause-crash : goal.returns-clause-crash
returns-clause-crash g c =
    commits_nothing record_text (Int (pos c.args.number) ∷ []) (state g.S.Store c.args.conn.now) (state g.S.Store c.query_all.new.self) (λ clean. record_plainly (state g.S.Store c.args.conn.now) (c.requires clean))
    (rw c.params-to_sql.ensures at c.query_all.ensures.survives)

pub returns-clause-found : goal.returns-clause-found
returns-clause-found g c clean =
    let has = c.requires (omega (arith, clean, c.query_all.ensures.survives.clean)) in
    let shown : Shown record_text (Int (pos c.args.number) ∷ []) (state g.S.Store c.args.conn.now) (state g.S.Store c.query_all.new.self) c.in_ok-rows.rows.items = rw c.params-to_sql.ensures at (c.in_ok-rows.ensures.ok clean) in
    IfOk-weaker c.first_bytes.result _ _ (λ found first kept was. record_found _ c.in_ok-rows.rows.items _ (finds_record _ _ c.in_ok-rows.rows.items has kept was c.args.number shown) (rw c.as_slice.ensures.value at first)) c.first_bytes.ensures

pub returns-clause-same : goal.returns-clause-same
returns-clause-same g c clean =
    let has = c.requires (omega (arith, clean, c.query_all.ensures.survives.clean)) in
    let shown : Shown record_text (Int (pos c.args.number) ∷ []) (state g.S.Store c.args.conn.now) (state g.S.Store c.query_all.new.self) c.in_ok-rows.rows.items = rw c.params-to_sql.ensures at (c.in_ok-rows.ensures.ok clean) in
    on_ok c.first_bytes.result (unchanged record_text _ _ _ _ has record_plain shown)
