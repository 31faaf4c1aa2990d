use Rattle.std.proofs.Common.{arith}
use Rattle.sqlite.specs.State.{HasCleanDisk}
use Rattle.sqlite.specs.Held.{state}
use Rattle.su_store.proofs.BlockLemmas.{puts}
use Rattle.su_store.proofs.records.put_block.Goals as goal

pub returns-clause-put : goal.returns-clause-put
returns-clause-put g c clean =
    let was : HasCleanDisk (state g.S.Store c.args.tx.now.conn.now) = omega (arith, clean, c.execute.ensures.survives.clean) in
    puts c.args.digest.now c.args.bytes.now c.requires.digest _ _ c.execute.result (c.requires.schema was) (c.requires.begun was)
    (rw (c.params-to_sql.ensures, c.params-to_sql-2.ensures) at (c.execute.ensures.runs clean (c.requires.begun was)))
