use Rattle.su_client.specs.Link.{GoesAhead}
use Rattle.su_client_work.proofs.early.Early.send_fetches.Given as goal

abbrev pub invariant-loop-index : goal.invariant-loop-index
invariant-loop-index g l = GoesAhead l.fn.client.link l.client.link
