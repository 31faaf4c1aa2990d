use Rattle.std.proofs.Common.{◌≡◌, false}
use Rattle.su_vault.specs.Records.{KeepsRecords}
use Rattle.su_store_keeper.proofs.archives.Archive.read_ahead.Given as goal

abbrev pub invariant-loop-next : goal.invariant-loop-next
invariant-loop-next g l = record {
  held : KeepsRecords g.V.Vault.holds l.initial.self.vault l.self.vault;
  end : g.V.Vault.is_at_end l.initial.self.vault → g.V.Vault.is_at_end l.self.vault;
  running : g.V.Vault.is_stopped l.self.vault ≡ false;
}
