use Rattle.std.proofs.Common.{◌≡◌, ◌+◌, ◌<◌, [], ◌∷◌, ◌++◌, length, sym, ap, subst, arith, rules, length-append}
use Rattle.su_engine_keeper.specs.Keys.{record_key}
use Rattle.su_engine_keeper.proofs.KeeperLemmas.{IsOfPage, page_more}
use Rattle.su_engine_keeper.proofs.keepers.EngineKeeper.take_page.Goals as goal

pub loop-pair-preserved : goal.loop-pair-preserved
loop-pair-preserved g c =
    let grown : c.push_back.new.self.items ≡ c.loop-pair.self.found.items ++ c.in_ok-record.record ∷ [] = c.in_ok-push_back.ensures.items in
    let within : c.loop-pair.pair-index < length c.args.pairs.now = omega arith in
    let next : c.in-Some.next ≡ c.args.self.now.count + c.loop-pair.pair-index + 1 = first_of (omega arith, search rules) in
    let key : c.pair-item.result.key.items ≡ record_key c.in-Some.next = search rules in
    let value : c.in_ok-record.record.items ≡ c.pair-item.result.value.items = search rules in
    record {
      engine = search rules;
      count = search rules;
      halted = search rules;
      number = omega (arith, next);
      long = λ none. omega (arith, c.loop-pair.invariant.long none, ap length grown, length-append c.loop-pair.self.found.items (c.in_ok-record.record ∷ []));
      of_page = λ none. subst (IsOfPage c.args.pairs.now c.args.self.now.count) (sym grown)
          (page_more c.args.pairs.now c.args.self.now.count c.loop-pair.pair-index c.in-Some.next c.pair-item.result c.loop-pair.self.found.items c.in_ok-record.record
          within c.pair-item.is (c.loop-pair.invariant.long none) next key value (c.loop-pair.invariant.of_page none));
    }
