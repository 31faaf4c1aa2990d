use Rattle.std.proofs.Common.{◌≡◌, true, ap, refl}
use Rattle.std.proofs.Math.Bool.{Bool-set}
use Rattle.su_stored_forest.proofs.stored.StoredForest.source_mut.Goals as goal

pub returns : goal.returns
returns g c = ((refl, λ w. ap (λ (e : g.S.BlockSource.is_checked ≡ true). record { forest = c.args.self.now.forest; source = w; users = c.args.self.now.users; groups = c.args.self.now.groups; checked = e }) (Bool-set _ _ _ _)), record { value = refl; writes_back = tt })
