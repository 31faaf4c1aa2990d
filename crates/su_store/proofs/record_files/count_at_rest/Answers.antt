use Rattle.std.proofs.Common.{IsTrue, rules, sym, ap, subst, ◌∙◌}
use Rattle.sqlite.specs.Effect.{Database}
use Rattle.sqlite.specs.Held.{state}
use Rattle.su_store.specs.Changes.{HasRecords}
use Rattle.su_store.proofs.record_files.count_at_rest.Goals as goal

pub returns-clause-counted : goal.returns-clause-counted
returns-clause-counted g c clean =
    let counted : HasRecords c.in_ok-count.count (state g.S.Store c.args.connection.now).now.trees = search rules in
    subst (λ (d : Database). HasRecords c.in_ok-count.count d.trees) (sym (c.in_ok-count.ensures.same clean)) counted

pub returns-clause-settled : goal.returns-clause-settled
returns-clause-settled g c clean db may =
    let alone : IsTrue c.is_autocommit.result = search rules in
    let is_open = c.in_ok-count.ensures.is_open clean in
    g.met.S.Store.settled c.count_records.new.conn.store db is_open may ∙ sym (ap (λ (d : Database). d.trees) (c.is_autocommit.ensures.settled alone is_open))
