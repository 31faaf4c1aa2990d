use Rattle.std.proofs.Common.{◌≡◌, arith, IsTrue}
use Rattle.std.specs.Prelude.{Ok, Err}
use Rattle.std.proofs.lemmas.Result.{err_from_is_err_and}
use Rattle.su_tree.specs.Number.{number_bits}
use Rattle.su_part_tree.specs.Part.{reaches}
use Rattle.su_part.proofs.BytesLemmas.{all_blocks_itself, all_blocks_on, one_more}
use Rattle.su_part.proofs.LoadLemmas.{answered, handed_on, loads_on, nothing_asked}
use Rattle.su_part.proofs.FetchLemmas.{digests_loaded}
use Rattle.su_part.proofs.blocks.PartBytes.fetch_paths.Goals as goal

pub loop-number-init : goal.loop-number-init
loop-number-init g c = record {
  loads = nothing_asked c.args.self.now c.args.self.now c.args.source.now (Ok tt) tt (all_blocks_itself c.args.self.now) (λ bs h. h) (g.met.S.BlockSource.follows_itself c.args.source.now);
  has = λ n low high. absurd (omega (arith, low, high));
}

pub loop-number-preserved : goal.loop-number-preserved
loop-number-preserved g c = record {
  loads = answered (Ok tt) tt (loads_on all_blocks_on g.met.S.BlockSource.follows_on c.loop-number.invariant.loads (digests_loaded g.S.BlockSource.may_give g.S.BlockSource.failed g.S.BlockSource.follows c.loop-number.self c.reach.new.self c.loop-number.source c.reach.new.source c.reach.result (record { stands = c.reach.ensures.stands; malformed = c.reach.ensures.malformed; failed = c.reach.ensures.failed; refused = c.reach.ensures.refused; keeps = c.reach.ensures.keeps; no_more = c.reach.ensures.no_more; follows = c.reach.ensures.follows })));
  has = one_more (λ n. IsTrue (reaches number_bits n c.reach.new.self)) c.args.first c.loop-number.number-counter (λ n low high. c.reach.ensures.keeps n (c.loop-number.invariant.has n low high)) c.in_ok-reach.ensures.reached;
}

pub returns-in_err-reach-clause-loads : goal.returns-in_err-reach-clause-loads
returns-in_err-reach-clause-loads g c =
    let p = err_from_is_err_and c.from_residual.result c.from_residual.ensures.1 in
    let is : c.reach.result ≡ Err p.0 = cc (c.in_err-reach.was, p.2) in
    handed_on p.0 is p.1 (loads_on all_blocks_on g.met.S.BlockSource.follows_on c.loop-number.invariant.loads (digests_loaded g.S.BlockSource.may_give g.S.BlockSource.failed g.S.BlockSource.follows c.loop-number.self c.reach.new.self c.loop-number.source c.reach.new.source c.reach.result (record { stands = c.reach.ensures.stands; malformed = c.reach.ensures.malformed; failed = c.reach.ensures.failed; refused = c.reach.ensures.refused; keeps = c.reach.ensures.keeps; no_more = c.reach.ensures.no_more; follows = c.reach.ensures.follows })))
