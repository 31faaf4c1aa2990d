use Rattle.std.proofs.Common.{◌≡◌, ◌++◌, take, codes}
use Rattle.std.specs.Prelude.{flat_map}
use Rattle.su_engine.specs.Pairs.{pairs_of}
use Rattle.su_gateway.specs.Requests.{holds_text}
use Rattle.su_gateway.proofs.requests.all_hold_text.Given as goal

abbrev pub invariant-loop-pair : goal.invariant-loop-pair
invariant-loop-pair l = l.text.items ≡ flat_map (λ pair. codes "," ++ holds_text pair) (pairs_of (take l.pair-index l.pairs))
