use Rattle.std.proofs.Common.{◌≡◌, rules, sym, subst, ◌∙◌}
use Rattle.sqlite.specs.Closing.{IsCopied}
use Rattle.sqlite.specs.Effect.{Database}
use Rattle.sqlite.specs.State.{HasCleanDisk}
use Rattle.sqlite.specs.Files.{file_state}
use Rattle.sqlite_store.specs.Laws.{stays_at}
use Rattle.su_store.specs.Shut.{Rests}
use Rattle.su_store.proofs.shut_files.RecordFile+FileStore+D.shut.Goals as goal

pub returns-in-Err-clause-left : goal.returns-in-Err-clause-left
returns-in-Err-clause-left g c db may =
    let own : c.self.inside.connection ≡ c.args.self.held = search rules in
    subst (λ held. (file_state held).may_leave db) own (c.in-Err.ensures.left db may)

pub returns-in-Ok-close_files-clause-clean : goal.returns-in-Ok-close_files-clause-clean
returns-in-Ok-close_files-clause-clean g c clean =
    let own : c.self.inside.connection ≡ c.args.self.held = search rules in
    subst (λ held. HasCleanDisk (file_state held)) (c.in-Ok.ensures.same ∙ own) (c.in-Ok-close_files.ensures.copied clean).was_clean

pub returns-in-Ok-close_files-clause-rests : goal.returns-in-Ok-close_files-clause-rests
returns-in-Ok-close_files-clause-rests g c clean =
    let own : c.self.inside.connection ≡ c.args.self.held = search rules in
    let copied = subst (λ held. IsCopied held c.in-Ok-close_files.files) c.in-Ok.ensures.same (c.in-Ok-close_files.ensures.copied clean) in
    let same = c.in-Ok.ensures.settled copied.was_open in
    subst (λ held. Rests g.D.Disk c.in-Ok-close_files.files (file_state held).now.trees) own
    (subst (λ (d : Database). Rests g.D.Disk c.in-Ok-close_files.files d.trees) (sym same) (record {
      seen = copied.seen.both;
      left = λ image out. (copied.left image out).both;
    }))

pub returns-in-Ok-close_files-clause-stays : goal.returns-in-Ok-close_files-clause-stays
returns-in-Ok-close_files-clause-stays g c clean =
    let own : c.self.inside.connection ≡ c.args.self.held = search rules in
    let copied = subst (λ held. IsCopied held c.in-Ok-close_files.files) c.in-Ok.ensures.same (c.in-Ok-close_files.ensures.copied clean) in
    let same = c.in-Ok.ensures.settled copied.was_open in
    let held = c.self.inside.connection in
    subst (λ held. (file_state held).may_leave (file_state held).now.trees) own
    (subst (λ (d : Database). (file_state held).may_leave d.trees) (sym same) (stays_at held.store g.met.D.Disk.seen_may_stay copied.was_open))

pub returns-in-Err-close_files-clause-left : goal.returns-in-Err-close_files-clause-left
returns-in-Err-close_files-clause-left g c db may =
    let own : c.self.inside.connection ≡ c.args.self.held = search rules in
    subst (λ held. (file_state held).may_leave db) (c.in-Ok.ensures.same ∙ own) (c.in-Err-close_files.ensures.err.0.quiet.outcomes db may)
