use Rattle.std.proofs.Common.{◌≡◌, rules, subst}
use Rattle.std.proofs.Math.Logic.{∥∥₁_map}
use Rattle.sqlite.specs.Files.{file_state}
use Rattle.sqlite.proofs.Theorems.{opens_again}
use Rattle.su_store.proofs.opening.RecordFile+FileStore+D.into_store.Goals as goal

pub returns : goal.returns
returns g c clean left may =
    let own : c.self.inside.connection ≡ c.args.self.held = search rules in
    let it = c.into_store.result in
    let quiet = c.into_store.ensures.quiet in
    ∥∥₁_map (opens_again it (c.into_store.ensures.numbered clean) (c.into_store.ensures.sound clean) left may)
    (λ db. (db.0, db.2, subst (λ held. (file_state held).may_leave db.0) own (quiet.outcomes db.0 db.1)))
