use Rattle.std.proofs.Common.{ℕ, List}
use Rattle.serde_json.specs.View.{view}
use Rattle.su_engine.specs.Pairs.{pairs_of}
use Rattle.su_gateway.specs.declared.targets.Target.{Target}
use Rattle.su_etcd.proofs.ToldLemmas.{all_created}
use Rattle.su_etcd.proofs.etcds.Etcd.create.Goals as goal

pub returns-clause-made : goal.returns-clause-made
returns-clause-made g c = λ done.
    let told : Target → List ℕ → List ℕ → Type 0 = λ t q r. g.W.Wire.told c.ask_for.new.self.wire t q r in
    let first : List ℕ × List ℕ = (c.args.first.now.key.items, c.args.first.now.value.items) in
    let it = c.in_ok-reply.ensures.told in
    all_created told c.args.self.now.lead c.ask_for.new.self.lead c.ask_for.ensures.lead c.in_ok-text.text.items it.0 (view c.in_ok-reply.reply) it.2 first (pairs_of c.args.beside.now) c.in_ok-text.ensures it.1 (c.is_done.ensures done)
