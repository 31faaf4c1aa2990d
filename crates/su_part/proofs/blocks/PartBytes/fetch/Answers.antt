use Rattle.std.proofs.Common.{◌≡◌, arith}
use Rattle.std.specs.Prelude.{Ok, Err}
use Rattle.std.proofs.lemmas.Result.{err_from_is_err_and}
use Rattle.su_part.specs.Bytes.{HasBlock}
use Rattle.su_part.proofs.BytesLemmas.{all_blocks_itself, all_blocks_on, one_more}
use Rattle.su_part.proofs.LoadLemmas.{answered, handed_on, loads_on, nothing_asked}
use Rattle.su_part.proofs.blocks.PartBytes.fetch.Goals as goal

pub loop-number-init : goal.loop-number-init
loop-number-init g c = record {
  loads = nothing_asked c.args.self.now c.args.self.now c.args.source.now (Ok tt) tt (all_blocks_itself c.args.self.now) (λ bs h. h) (g.met.S.BlockSource.follows_itself c.args.source.now);
  has = λ n low high. absurd (omega (arith, low, high));
}

pub loop-number-preserved : goal.loop-number-preserved
loop-number-preserved g c = record {
  loads = answered (Ok tt) tt (loads_on all_blocks_on g.met.S.BlockSource.follows_on c.loop-number.invariant.loads c.fetch_block.ensures.loads);
  has = one_more (λ n. HasBlock n c.fetch_block.new.self) c.args.first c.loop-number.number (λ n low high. c.fetch_block.ensures.loads.keeps.blocks n (c.loop-number.invariant.has n low high)) c.in_ok-fetch_block.ensures.has;
}

pub returns-in_err-fetch_block-clause-loads : goal.returns-in_err-fetch_block-clause-loads
returns-in_err-fetch_block-clause-loads g c =
    let p = err_from_is_err_and c.from_residual.result c.from_residual.ensures.1 in
    let is : c.fetch_block.result ≡ Err p.0 = cc (c.in_err-fetch_block.was, p.2) in
    handed_on p.0 is p.1 (loads_on all_blocks_on g.met.S.BlockSource.follows_on c.loop-number.invariant.loads c.fetch_block.ensures.loads)
