use Rattle.su_format.proofs.Public.{made}
use Rattle.su_message.proofs.replies.read_fields.Goals as goal

pub returns-in-131-clause-found : goal.returns-in-131-clause-found
returns-in-131-clause-found c = rw c.in-131.is (made _ _)

pub returns-in-133-clause-found : goal.returns-in-133-clause-found
returns-in-133-clause-found c = rw c.in-133.is (made _ _)
