use Rattle.std.proofs.Common.{ℕ, ◌+◌, ◌*◌, ◌-◌, ◌/◌, ◌%◌, ◌^◌, ◌<◌, List, ap, ◌∙◌, arith}
use Rattle.std.proofs.lemmas.Nat.{div-mul-add, mod-mul-add, mul-add-lt}
use Rattle.sha_lanes.specs.Run.{run_at}
use Rattle.su_lms.specs.ParameterSets.{width_of}
use Rattle.su_lms.specs.OneTime.{chain, chain_place, one_time_key, private_value}
use Rattle.su_lms.proofs.Joining.{hash_of_ends_same}
use Rattle.su_lms.proofs.ChainRuns.{value_after_private}
use Rattle.su_lms.proofs.one_time.whole_keys.Goals as goal

pub returns : goal.returns
unfolding one_time_key
returns c = λ l low.
    let id : List ℕ = c.args.id.now in
    let seed : List ℕ = c.args.seed.now in
    let count : ℕ = c.args.count in
    let last : ℕ = 2 ^ width_of c.args.ots - 1 in
    c.keys_of_ends.ensures l low
    ∙ hash_of_ends_same c.args.ots id (c.args.q + l) _ _ (λ i less.
    let inside : l * count + i < 8 * count = omega (arith, mul-add-lt l count i 8 low (omega arith)) in
    (c.run_whole.ensures (l * count + i) (omega arith))
    ∙ value_after_private id seed (c.args.q + (l * count + i) / count) ((l * count + i) % count) last (run_at c.set_private_values.new.runs (l * count + i)) (c.set_private_values.ensures (l * count + i) (omega arith))
    ∙ ap (λ n. chain (chain_place id (c.args.q + n) ((l * count + i) % count)) 0 last (private_value id seed (c.args.q + n) ((l * count + i) % count))) (div-mul-add l count i (omega arith))
    ∙ ap (λ n. chain (chain_place id (c.args.q + l) n) 0 last (private_value id seed (c.args.q + l) n)) (mod-mul-add l count i (omega arith)))
