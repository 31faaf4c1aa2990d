use Rattle.su_store.proofs.Shared.{survives_both}
use Rattle.su_store.proofs.lookups.is_next.Goals as goal

pub returns-in_err-find_record-in-Some-clause-crash : goal.returns-in_err-find_record-in-Some-clause-crash
returns-in_err-find_record-in-Some-clause-crash g c =
    survives_both _ _ _ c.find_record.ensures.crash c.find_record-in-Some.ensures.crash

pub returns-in_ok-find_record-in-Some-clause-crash : goal.returns-in_ok-find_record-in-Some-clause-crash
returns-in_ok-find_record-in-Some-clause-crash g c =
    survives_both _ _ _ c.find_record.ensures.crash c.find_record-in-Some.ensures.crash
