use Rattle.su_book.proofs.Runs.{records_push}
use Rattle.su_book.proofs.laws.records_only_grow.Goals as goal

pub returns-clause-records : goal.returns-clause-records
returns-clause-records c b s = records_push b.journal s
