use Rattle.std.proofs.Common.{sym, subst}
use Rattle.su_store_files.specs.Volumes.{FindsInTurn}
use Rattle.su_restart.proofs.takes_over.take_over.Goals as goal

pub returns-clause-found : goal.returns-clause-found
returns-clause-found g c commits were =
    subst (λ v. FindsInTurn g.V.Volume v.volumes commits) (sym c.new.ensures.vault) (c.new-vault.ensures.found commits were)
