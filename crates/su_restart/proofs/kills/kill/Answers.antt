use Rattle.std.proofs.Common.{sym, subst, ap, ◌∙◌}
use Rattle.su_store_files.specs.Volumes.{HoldsInTurn}
use Rattle.su_restart.proofs.kills.kill.Goals as goal

pub returns : goal.returns
returns g c records held =
    let own = c.into_volumes.ensures ∙ ap (λ v. v.volumes) c.into_vault.ensures in
    c.crash.ensures records (subst (λ v. HoldsInTurn g.V.Volume v records) (sym own) held)
