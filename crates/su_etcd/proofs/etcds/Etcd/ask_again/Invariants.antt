use Rattle.std.proofs.Common.{◌≡◌, ℕ, List}
use Rattle.su_gateway.specs.declared.targets.Target.{Target}
use Rattle.su_etcd.proofs.etcds.Etcd.ask_again.Given as goal

abbrev pub invariant-loop : goal.invariant-loop
invariant-loop g l = record {
  held : (t : Target) (q r : List ℕ) → g.W.Wire.told l.fn.self.wire t q r → g.W.Wire.told l.self.wire t q r;
  lead : l.self.lead ≡ l.fn.self.lead;
}
