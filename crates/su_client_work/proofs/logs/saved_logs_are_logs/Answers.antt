use Rattle.su_client_work.proofs.TakenLogs.{saved_is}
use Rattle.su_client_work.proofs.logs.saved_logs_are_logs.Goals as goal

pub returns : goal.returns
returns c = saved_is
