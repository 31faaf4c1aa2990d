use Rattle.std.proofs.Common.{◌≡◌, ◌∙◌, inl, inr, refl}
use Rattle.std.specs.Prelude.{Err}
use Rattle.std.proofs.lemmas.Result.{err_from_is_err_and}
use Rattle.su_part.proofs.ShedLemmas.{bytes_hashed, shed_handed_on, sheds_on}
use Rattle.su_part.proofs.blocks.PartBytes.shed_blocks.Goals as goal

pub loop-number-init : goal.loop-number-init
loop-number-init g c = (
  record {
    stands = λ bs h. h;
    no_new = λ i own. own;
    not_lost = λ i own. inr own;
    more = λ i m. inl m;
    hashed = bytes_hashed c.args.self.now;
    failed = λ bs h. tt;
    refused = tt;
    follows = g.met.S.BlockSource.follows_itself c.args.source.now;
  },
  refl,
  refl,
)

pub returns-in_err-shed_block-clause-sheds : goal.returns-in_err-shed_block-clause-sheds
returns-in_err-shed_block-clause-sheds g c =
    let p = err_from_is_err_and c.from_residual.result c.from_residual.ensures.1 in
    let is : c.shed_block.result ≡ Err p.0 = cc (c.in_err-shed_block.was, p.2) in
    shed_handed_on p.0 is p.1 (sheds_on g.met.S.BlockSource.follows_itself g.met.S.BlockSource.follows_on c.loop-number.invariant.0 c.shed_block.ensures.sheds)

pub loop-number-preserved : goal.loop-number-preserved
loop-number-preserved g c = (
  sheds_on g.met.S.BlockSource.follows_itself g.met.S.BlockSource.follows_on c.loop-number.invariant.0 c.in_ok-shed_block.ensures.sheds,
  c.shed_block.ensures.size ∙ c.loop-number.invariant.1,
  c.shed_block.ensures.digests ∙ c.loop-number.invariant.2,
)
