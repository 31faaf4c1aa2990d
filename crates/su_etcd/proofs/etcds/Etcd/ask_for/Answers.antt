use Rattle.std.proofs.Common.{ℕ, List, sym, subst}
use Rattle.su_gateway.specs.declared.targets.Target.{Target}
use Rattle.su_etcd.specs.Told.{Has}
use Rattle.su_etcd.proofs.ToldLemmas.{has_stays, lacked_stays}
use Rattle.su_etcd.proofs.etcds.Etcd.ask_for.Goals as goal

pub returns-clause-has : goal.returns-clause-has
returns-clause-has g c = λ k v h.
    let told : Target → List ℕ → List ℕ → Type 0 = λ t q r. g.W.Wire.told c.args.self.now.wire t q r in
    let told' : Target → List ℕ → List ℕ → Type 0 = λ t q r. g.W.Wire.told c.ask_again.new.self.wire t q r in
    subst (λ (n : ℕ). Has told' n k v) (sym c.ask_again.ensures.lead) (has_stays told told' c.ask_again.ensures.held c.args.self.now.lead k v h)

pub returns-clause-lacked : goal.returns-clause-lacked
returns-clause-lacked g c = λ k h.
    let told : Target → List ℕ → List ℕ → Type 0 = λ t q r. g.W.Wire.told c.args.self.now.wire t q r in
    let told' : Target → List ℕ → List ℕ → Type 0 = λ t q r. g.W.Wire.told c.ask_again.new.self.wire t q r in
    lacked_stays told told' c.ask_again.ensures.held k h
