use Rattle.std.specs.Prelude.{◌≡◌}
use Rattle.su_backup.specs.Copied.{CopiesSome}
use Rattle.su_backup.proofs.copiers.Copier.copy_records.Given as goal

abbrev pub invariant-loop-count : goal.invariant-loop-count
invariant-loop-count g l = record {
  copies : CopiesSome l.fn.client.source.link l.client.source.link l.fn.self l.self;
  stored : l.self.kept.stored ≡ l.count;
  begun : l.before ≡ l.fn.self.kept.stored;
}
