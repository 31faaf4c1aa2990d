use Rattle.std.proofs.Common.{[], sym, subst}
use Rattle.su_host.proofs.backups.copy_vault.Goals as goal

pub copy_over-requires : goal.copy_over-requires
copy_over-requires g c =
    let begun = subst (λ k. g.V.Vault.holds k.vault []) (sym c.new-tallied.ensures.keeper) c.new-archive.ensures.begun in
    c.new.ensures.holds [] (begun, sym c.new-tallied.ensures.none)
