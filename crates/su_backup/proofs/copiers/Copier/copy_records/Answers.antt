use Rattle.std.proofs.Common.{◌≡◌, ◌+◌, ap, sym, ◌∙◌, rules}
use Rattle.su_backup.specs.Copied.{CopiesOne}
use Rattle.su_backup.proofs.CopyLemmas.{copies_more}
use Rattle.su_backup.proofs.copiers.Copier.copy_records.Goals as goal

-- src/copiers.rt:105:9
pub loop-count-preserved : goal.loop-count-preserved
loop-count-preserved g c =
    let place : c.loop-count.count + 1 ≡ c.loop-count.self.kept.stored + 1 =
    ap (λ n. n + 1) (sym c.loop-count.invariant.stored) in
    let one : CopiesOne (c.loop-count.count + 1) c.loop-count.client.source.link c.copy_one.new.client.source.link c.loop-count.self c.copy_one.new.self =
    search rules in
    record {
      copies = copies_more (c.loop-count.count + 1) c.args.client.now.source.link c.loop-count.client.source.link c.copy_one.new.client.source.link c.args.self.now c.loop-count.self c.copy_one.new.self c.loop-count.invariant.copies place one;
      stored = one.2.stored ∙ sym place;
      begun = c.loop-count.invariant.begun;
    }
