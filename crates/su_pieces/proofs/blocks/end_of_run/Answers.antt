use Rattle.std.proofs.Common.{◌+◌, inl, inr, ⊎_elim, length, arith}
use Rattle.std.proofs.lemmas.Bool.{cases_lt}
use Rattle.su_node.specs.Digest.{block_count}
use Rattle.su_pieces.proofs.PieceLemmas.{differs_past}
use Rattle.su_pieces.proofs.blocks.end_of_run.Goals as goal

-- behind the last block none differs
pub returns-clause-longest : goal.returns-clause-longest
returns-clause-longest c =
    let count = block_count (length c.args.new.now) in
    let most = c.min-most.ensures in
    let all = c.block_count.ensures in
    ⊎_elim (λ lt. inr (differs_past c.args.old.now c.args.new.now c.min-most.result (omega (arith, most, all)))) (λ ge. inl (omega (arith, most, all)))
    (cases_lt c.block_count.result (c.args.first + 4))
