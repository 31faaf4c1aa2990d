use Rattle.std.proofs.Common.{◌++◌, [], ◌∷◌, ap, ◌∙◌}
use Rattle.su_scratch.specs.Places.{bucket_at}
use Rattle.su_scratch.specs.Bucket.{InMemory}
use Rattle.su_scratch.proofs.Held.{empty_more}
use Rattle.su_scratch.proofs.places.make_bucket.Goals as goal

pub loop-alloc-preserved : goal.loop-alloc-preserved
loop-alloc-preserved c = λ i.
    let bs = c.loop-alloc.buckets.items in
    ap (λ xs. bucket_at xs i) (c.in_ok-push.ensures.items ∙ ap (λ (b : InMemory). bs ++ b ∷ []) c.new.ensures) ∙ empty_more bs i ∙ c.loop-alloc.invariant i
