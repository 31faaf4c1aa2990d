use Rattle.std.proofs.Common.{arith}
use Rattle.std.proofs.lemmas.Result.{on_ok_weaker}
use Rattle.sqlite.specs.Held.{state}
use Rattle.su_store.proofs.CreateLemmas.{makes_records}
use Rattle.su_store.proofs.tables.create_records.Goals as goal

pub returns-clause-schema : goal.returns-clause-schema
returns-clause-schema g c clean =
    on_ok_weaker c.execute.result (λ k. k.0) (makes_records (state g.S.Store c.args.conn.now) (state g.S.Store c.execute.new.self) c.execute.result (c.requires (omega (arith, clean, c.execute.ensures.survives.clean))) (c.execute.ensures.runs clean))

pub returns-clause-empty : goal.returns-clause-empty
returns-clause-empty g c clean =
    on_ok_weaker c.execute.result (λ k. k.1) (makes_records (state g.S.Store c.args.conn.now) (state g.S.Store c.execute.new.self) c.execute.result (c.requires (omega (arith, clean, c.execute.ensures.survives.clean))) (c.execute.ensures.runs clean))
