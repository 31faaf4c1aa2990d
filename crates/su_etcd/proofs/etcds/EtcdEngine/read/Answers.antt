use Rattle.std.proofs.Common.{◌≡◌, ℕ, List, [], Option, None, refl}
use Rattle.std.specs.Prelude.{Contains, IfSome}
use Rattle.std.specs.Global.{Vec}
use Rattle.su_engine.specs.Pairs.{pairs_of}
use Rattle.su_gateway.specs.declared.targets.Target.{Target}
use Rattle.su_etcd.specs.Told.{Has, Lacked}
use Rattle.su_etcd.proofs.ToldLemmas.{weaker, weaker_some}
use Rattle.su_etcd.proofs.etcds.EtcdEngine.read.Goals as goal

pub returns-clause-found : goal.returns-clause-found
returns-clause-found g c =
    let told : Target → List ℕ → List ℕ → Type 0 = λ t q r. g.W.Wire.told c.pairs_at.new.self.wire t q r in
    let key : List ℕ = c.args.key.now in
    let Is : Vec ℕ → Type 0 = λ v. Contains (pairs_of c.in_ok-pairs.pairs.items) (key, v.items) in
    let Found : Vec ℕ → Type 0 = λ v. Has told c.pairs_at.new.self.lead key v.items in
    let IsOne : Option (Vec ℕ) → Type 0 = λ o. IfSome o Is in
    let FoundOne : Option (Vec ℕ) → Type 0 = λ o. IfSome o Found in
    weaker IsOne FoundOne (λ o. weaker_some Is Found (λ v is. c.in_ok-pairs.ensures.found (key, v.items) is refl) o) c.value_of.result c.value_of.ensures.found

pub returns-clause-none : goal.returns-clause-none
returns-clause-none g c =
    let told : Target → List ℕ → List ℕ → Type 0 = λ t q r. g.W.Wire.told c.pairs_at.new.self.wire t q r in
    let Is : Option (Vec ℕ) → Type 0 = λ o. o ≡ None → c.in_ok-pairs.pairs.items ≡ [] in
    let None' : Option (Vec ℕ) → Type 0 = λ o. o ≡ None → Lacked told c.args.key.now in
    weaker Is None' (λ o is none. c.in_ok-pairs.ensures.none (is none)) c.value_of.result c.value_of.ensures.none
