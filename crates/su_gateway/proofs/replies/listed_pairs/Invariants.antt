use Rattle.std.proofs.Common.{ℕ, List}
use Rattle.std.specs.Prelude.{Contains}
use Rattle.serde_json.specs.View.{view}
use Rattle.su_engine.specs.Pairs.{pairs_of}
use Rattle.su_gateway.specs.Replies.{IsListed}
use Rattle.su_gateway.proofs.replies.listed_pairs.Given as goal

abbrev pub invariant-loop-index : goal.invariant-loop-index
invariant-loop-index l = (p : List ℕ × List ℕ) → Contains (pairs_of l.pairs.items) p → IsListed (view l.list) p.0 p.1
