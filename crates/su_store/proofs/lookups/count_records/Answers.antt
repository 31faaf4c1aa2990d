use Rattle.su_store.proofs.Shared.{survives_both}
use Rattle.su_store.proofs.lookups.count_records.Goals as goal

pub returns-in_err-find_record-2-clause-crash : goal.returns-in_err-find_record-2-clause-crash
returns-in_err-find_record-2-clause-crash g c =
    survives_both _ _ _ c.find_record.ensures.crash (survives_both _ _ _ c.halves.invariant.crash c.find_record-in-halves.ensures.crash)

pub returns-clause-crash : goal.returns-clause-crash
returns-clause-crash g c = survives_both _ _ _ c.find_record.ensures.crash c.halves.invariant.crash
