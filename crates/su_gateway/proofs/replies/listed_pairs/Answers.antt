use Rattle.std.proofs.Common.{◌≡◌, ℕ, List, [], ◌∷◌, ◌++◌, sym, subst}
use Rattle.std.specs.Prelude.{Contains}
use Rattle.serde_json.specs.View.{view}
use Rattle.su_engine.specs.Pairs.{pairs_of}
use Rattle.su_engine.specs.declared.engines.Pair.{Pair}
use Rattle.su_gateway.specs.Replies.{IsListed}
use Rattle.su_gateway.proofs.PairLemmas.{each_listed}
use Rattle.su_gateway.proofs.replies.listed_pairs.Goals as goal

pub loop-index-preserved : goal.loop-index-preserved
loop-index-preserved c =
    let pair : Pair = record { key = c.in_ok-key.key; value = c.in_ok-value.value } in
    let one : IsListed (view c.args.list.now) c.in_ok-key.key.items c.in_ok-value.value.items = record {
      index = c.loop-index.index;
      entry = view c.in-Some.entry.now;
      is = sym c.in-Some.ensures;
      key_is = c.in_ok-key.ensures;
      value_is = c.in_ok-value.ensures;
    } in
    let grown : c.push.new.self.items ≡ c.loop-index.pairs.items ++ pair ∷ [] = c.in_ok-push.ensures.items in
    subst (λ (ps : List Pair). (p : List ℕ × List ℕ) → Contains (pairs_of ps) p → IsListed (view c.args.list.now) p.0 p.1) (sym grown)
    (each_listed (λ p. IsListed (view c.args.list.now) p.0 p.1) c.loop-index.pairs.items pair c.loop-index.invariant one)
