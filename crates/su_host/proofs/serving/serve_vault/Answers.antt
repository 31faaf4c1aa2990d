use Rattle.std.proofs.Common.{[], sym, subst}
use Rattle.su_host.proofs.serving.serve_vault.Goals as goal

pub serve_closing-requires-after_bounds : goal.serve_closing-requires-after_bounds
serve_closing-requires-after_bounds g c = λ _ _.
    let begun = subst (λ k. g.V.Vault.holds k.vault []) (sym c.new-tallied.ensures.keeper) c.new-archive.ensures.begun in
    c.new.ensures.holds [] (begun, sym c.new-tallied.ensures.none)
