use Rattle.std.proofs.Common.{◌≡◌, ◌∙◌, ◌+◌, ap, arith, rules}
use Rattle.su_engine.specs.Pairs.{pairs_of}
use Rattle.su_engine_keeper.proofs.KeeperLemmas.{all_made}
use Rattle.su_engine_keeper.proofs.keepers.EngineKeeper.put_next.Goals as goal

pub returns-clause-made : goal.returns-clause-made
returns-clause-made g c =
    let next : c.in_ok-number.number ≡ c.args.self.now.count + 1 = first_of (omega arith, search rules) in
    all_made (λ k v. g.E.Engine.has c.put_once.new.self k v) c.in-Ok.first c.as_slice.result.now c.args.items.now c.args.self.now.count c.in_ok-number.number c.args.commit.now
    (c.in-Ok-true.ensures.made c.in-Ok-true.field-0-test) c.in-Ok.ensures.key c.in-Ok.ensures.value next (ap pairs_of c.as_slice.ensures.value ∙ c.in-Ok-item_pairs.ensures)
