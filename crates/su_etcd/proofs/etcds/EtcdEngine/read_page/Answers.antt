use Rattle.std.proofs.Common.{◌≡◌, ℕ, List, [], rules}
use Rattle.std.specs.Global.{Vec}
use Rattle.su_engine.specs.declared.engines.Pair.{Pair}
use Rattle.su_gateway.specs.declared.targets.Target.{Target}
use Rattle.su_etcd.specs.Told.{IsBefore, Lacked}
use Rattle.su_etcd.proofs.ToldLemmas.{weaker}
use Rattle.su_etcd.proofs.etcds.EtcdEngine.read_page.Goals as goal

pub returns-clause-none : goal.returns-clause-none
returns-clause-none g c =
    let told : Target → List ℕ → List ℕ → Type 0 = λ t q r. g.W.Wire.told c.pairs_from.new.self.wire t q r in
    let before : IsBefore c.args.first.now c.args.end.now = search rules in
    let Is : Vec Pair → Type 0 = λ pairs. pairs.items ≡ [] → IsBefore c.args.first.now c.args.end.now → Lacked told c.args.first.now in
    let None' : Vec Pair → Type 0 = λ pairs. pairs.items ≡ [] → Lacked told c.args.first.now in
    weaker Is None' (λ pairs is none. is none before) c.pairs_from.result c.pairs_from.ensures.none
