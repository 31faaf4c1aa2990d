use Rattle.std.proofs.Common.{◌≡◌, rules, subst}
use Rattle.sqlite.specs.State.{HasCleanDisk}
use Rattle.sqlite.specs.Files.{file_state}
use Rattle.su_store.specs.Shut.{MayHold}
use Rattle.su_store.proofs.CrashLemmas.{was_clean, may_hold, store_clean}
use Rattle.su_store.proofs.shut_files.RecordFile+FileStore+D.abandon.Goals as goal

pub returns : goal.returns
returns g c =
    let own : c.self.inside.connection ≡ c.args.self.held = search rules in
    let how = c.into_store.ensures in
    let store = c.into_store.result in
    record {
      clean = λ clean. subst (λ held. HasCleanDisk (file_state held)) own (was_clean c.self.inside.connection store c.close.result c.close.ensures how.quiet clean);
      left = λ clean image may.
          let sure = store_clean c.self.inside.connection store c.close.result c.close.ensures how.quiet clean in
          subst (λ held. ∥ MayHold (file_state held) image ∥₁) own (may_hold c.self.inside.connection store c.close.result c.close.ensures how.quiet clean (how.numbered sure) (how.sound sure) image may);
    }
