use Rattle.std.proofs.Common.{false}
use Rattle.std.proofs.lemmas.Result.{err_from_is_err_and}
use Rattle.su_shared.proofs.Meeting.{meets_or_full, refused_commit}
use Rattle.su_shared.proofs.shared.SharedBook.commit.Goals as goal

pub returns-in_err-reply-clause-refused : goal.returns-in_err-reply-clause-refused
returns-in_err-reply-clause-refused g c =
    let p = err_from_is_err_and c.from_residual-in_err-reply.result c.from_residual-in_err-reply.ensures.1 in
    rw (p.1, p.2) (refused_commit c.deref_mut-locked.result.now.held.book c.args.seat.now.number c.in_ok-offer.offer c.args.bytes.now c.in_err-reply.field-0.0.refusal c.in_err-reply.field-0.0.taken _ c.in_ok-offer.ensures.value c.in_err-reply.ensures.other c.in_err-reply.ensures.refused)

pub returns-in_err-reply-clause-meets : goal.returns-in_err-reply-clause-meets
returns-in_err-reply-clause-meets g c =
    let p = err_from_is_err_and c.from_residual-in_err-reply.result c.from_residual-in_err-reply.ensures.1 in
    rw (p.1, p.2) (meets_or_full c.args.seat.now.kept c.args.seat.now.number false c.in_err-reply.field-0.0.refusal c.in_err-reply.field-0.0.taken _ c.in_err-reply.ensures.other c.in_err-reply.ensures.meets)
