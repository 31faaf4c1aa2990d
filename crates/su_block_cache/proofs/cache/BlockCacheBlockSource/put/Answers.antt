use Rattle.std.proofs.Common.{sym}
use Rattle.su_block_cache.proofs.Keeping.{kept-keeps, more-put}
use Rattle.su_block_cache.proofs.cache.BlockCacheBlockSource.put.Goals as goal

pub invariant_of-self-2 : goal.invariant_of-self-2
invariant_of-self-2 g c =
    kept-keeps g.S.BlockSource.is_checked c.in_ok-digest.digest c.args.item.now c.self.inside.kept c.keep.new.self c.keep.ensures.keeps c.keep.ensures.capacity c.self.invariant (λ ok. sym c.in_ok-digest.ensures.digest)

pub returns-clause-more : goal.returns-clause-more
returns-clause-more g c =
    more-put g.S.BlockSource.may_give c.in_ok-digest.digest c.self.inside.kept c.self.inside.source c.args.self.now c.self.view_is c.keep.new.self c.put.new.self c.args.item.now c.keep.ensures.keeps c.put.ensures.more
