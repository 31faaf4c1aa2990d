use Rattle.su_message.proofs.ReplyLemmas.{reply_ends}
use Rattle.su_message.proofs.RequestLemmas.{request_ends}
use Rattle.su_message.proofs.laws.no_message_begins_another.Goals as goal

pub returns-clause-requests : goal.returns-clause-requests
returns-clause-requests c = request_ends

pub returns-clause-replies : goal.returns-clause-replies
returns-clause-replies c = reply_ends
