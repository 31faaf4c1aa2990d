use Rattle.su_own_service.proofs.KeptLemmas.{stored_is_fetched, put_is_got}
use Rattle.su_own_service.proofs.laws.what_is_given_is_kept.Goals as goal

pub returns : goal.returns
returns c = record { commits = stored_is_fetched; items = put_is_got }
