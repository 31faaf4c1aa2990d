use Rattle.std.proofs.Common.{⊎_elim, arith}
use Rattle.std.proofs.lemmas.Bool.{cases_lt}
use Rattle.su_pieces.proofs.PieceLemmas.{differs_past}
use Rattle.su_pieces.proofs.blocks.first_differing.Goals as goal

-- behind the last block none differs
pub returns : goal.returns
returns c n from =
    let count = c.block_count-number-end.ensures in
    let end = c.loop-number-test.false in
    ⊎_elim (λ lt. c.loop-number.invariant n from lt) (λ ge. differs_past c.args.old.now c.args.new.now n (omega (arith, count, end)))
    (cases_lt n c.loop-number.number)
