use Rattle.su_message.proofs.ReplyLemmas.{found_if, only}
use Rattle.su_message.proofs.replies.Reply.decode.Goals as goal

pub returns-clause-found : goal.returns-clause-found
returns-clause-found c = found_if c.args.message.now _ c.read.ensures

pub returns-clause-only : goal.returns-clause-only
returns-clause-only c = only c.args.message.now _ c.read.ensures
