use Rattle.std.proofs.Common.{length, ap, arith}
use Rattle.su_format.proofs.Public.{handed_on_to}
use Rattle.su_message.specs.Reply.{reply_kinds}
use Rattle.su_message.specs.Tagged.{ReadsTagged}
use Rattle.su_message.proofs.TaggedLemmas.{tag_taken, no_tag, fields_read, fields_refused, more_left, unknown}
use Rattle.su_message.proofs.replies.read.Goals as goal

pub returns-in_err-first : goal.returns-in_err-first
returns-in_err-first c =
    handed_on_to (ReadsTagged reply_kinds c.args.message.now) _ _ c.from_residual.ensures.1
    (no_tag reply_kinds c.args.message.now c.take_bytes.new.self _ (rw c.new-reader.ensures at c.in_err-first.ensures.refused.0) (rw c.new-reader.ensures at c.in_err-first.ensures.refused.1))

pub bounds-first-0 : goal.bounds-first-0
bounds-first-0 c =
    let t = tag_taken c.args.message.now _ _ (rw c.new-reader.ensures at c.in_ok-first.ensures.found) in
    omega (arith, ap length t.first_is)

pub returns-in_default : goal.returns-in_default
returns-in_default c =
    let t = tag_taken c.args.message.now _ c.take_bytes.new.self (rw c.new-reader.ensures at c.in_ok-first.ensures.found) in
    unknown reply_kinds c.args.message.now _ t.number t.message_is (rw t.first_is at c.in_default.ensures.none)

pub returns-in_err-reply : goal.returns-in_err-reply
returns-in_err-reply c =
    let t = tag_taken c.args.message.now _ c.take_bytes.new.self (rw c.new-reader.ensures at c.in_ok-first.ensures.found) in
    handed_on_to (ReadsTagged reply_kinds c.args.message.now) _ _ c.from_residual-in_err-reply.ensures.1
    (fields_refused reply_kinds c.args.message.now c.take_bytes.new.self.left t.number _ c.read_fields.new.reader t.message_is (rw (c.in_err-reply.was, t.new_is, t.first_is) at c.in-Some.ensures.found))

pub returns-in_err-finish : goal.returns-in_err-finish
returns-in_err-finish c =
    let t = tag_taken c.args.message.now _ c.take_bytes.new.self (rw c.new-reader.ensures at c.in_ok-first.ensures.found) in
    handed_on_to (ReadsTagged reply_kinds c.args.message.now) _ _ c.from_residual-in_err-finish.ensures.1
    (more_left reply_kinds c.args.message.now c.take_bytes.new.self.left t.number c.in_ok-reply.reply _ c.read_fields.new.reader t.message_is (rw (c.in_ok-reply.was, t.new_is, t.first_is) at c.in-Some.ensures.found) c.in_err-finish.ensures.refused.0 c.in_err-finish.ensures.refused.1)

pub returns : goal.returns
returns c =
    let t = tag_taken c.args.message.now _ c.take_bytes.new.self (rw c.new-reader.ensures at c.in_ok-first.ensures.found) in
    fields_read reply_kinds c.args.message.now c.take_bytes.new.self.left t.number c.in_ok-reply.reply c.read_fields.new.reader t.message_is (rw (c.in_ok-reply.was, t.new_is, t.first_is) at c.in-Some.ensures.found) c.in_ok-finish.ensures.found
