use Rattle.su_scratch.proofs.BucketLemmas.{note_added, same_bucket, however}
use Rattle.su_scratch.proofs.buckets.Bucket.add.Goals as goal

pub returns-in_err-make_room-clause-err : goal.returns-in_err-make_room-clause-err
returns-in_err-make_room-clause-err g c = λ i found keeps f. however _ _ (c.make_room.ensures.same i found keeps f)

pub returns-in_err-push-clause-err : goal.returns-in_err-push-clause-err
returns-in_err-push-clause-err g c = λ i found keeps f.
    however _ _ (same_bucket i _ _ _ found c.push.ensures.page c.in_err-push.ensures.err (c.make_room.ensures.same i found keeps f))

pub returns-clause-added : goal.returns-clause-added
returns-clause-added g c = λ i found keeps f.
    note_added i _ _ _ found c.args.note c.can_be_told.ensures c.push.ensures.page c.in_ok-push.ensures.added (c.make_room.ensures.same i found keeps f)
