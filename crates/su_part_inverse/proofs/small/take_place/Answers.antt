use Rattle.std.specs.Prelude.{Ok, Err}
use Rattle.su_format.proofs.Public.{user_of, inum_of}
use Rattle.su_part_inverse.proofs.SmallReads.{reads_part, first_refused, last_refused, last_read, place_begun, place_ends}
use Rattle.su_part_inverse.proofs.small.take_place.Goals as goal

pub returns-in_err-user : goal.returns-in_err-user
returns-in_err-user c =
    let old = c.args.reader.now in
    first_refused place_begun old.left old.left _ (reads_part user_of old old (Err _) c.in_err-user.ensures.takes) _ _ c.from_residual.ensures.1

pub returns-in_err-number : goal.returns-in_err-number
returns-in_err-number c =
    let old = c.args.reader.now in
    let mid = c.take_user.new.self in
    last_refused place_begun old.left mid.left _ (reads_part user_of old mid (Ok _) c.in_ok-user.ensures.takes) (place_ends _) _ mid.left
    (reads_part inum_of mid mid (Err _) c.in_err-number.ensures.takes) _ _ c.from_residual-in_err-number.ensures.1

pub returns : goal.returns
returns c =
    let old = c.args.reader.now in
    let mid = c.take_user.new.self in
    let new = c.take_inum.new.self in
    last_read place_begun old.left mid.left _ (reads_part user_of old mid (Ok _) c.in_ok-user.ensures.takes) (place_ends _) _ _
    (reads_part inum_of mid new (Ok _) c.in_ok-number.ensures.takes)
