use Rattle.std.proofs.Math.Logic.{∥∥₁_map}
use Rattle.su_shared.specs.Shares.{kept_all}
use Rattle.su_shared.proofs.locked.Locked.item.Goals as goal

pub invariant_of-self : goal.invariant_of-self
invariant_of-self g c = record {
  kept = ∥∥₁_map c.args.self.now.kept (c.item.ensures.held (kept_all c.args.self.now.held.records));
  end = ∥∥₁_map c.args.self.now.end c.item.ensures.end;
}
