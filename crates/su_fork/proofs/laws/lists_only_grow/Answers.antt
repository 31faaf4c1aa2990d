use Rattle.su_fork.specs.Events.{list_of}
use Rattle.su_fork.proofs.Runs.{list-append}
use Rattle.su_fork.proofs.laws.lists_only_grow.Goals as goal

pub returns : goal.returns
returns c es more k = record { rest = list_of k more; whole = list-append k es more }
