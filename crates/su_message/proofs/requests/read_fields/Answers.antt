use Rattle.su_format.proofs.Public.{made}
use Rattle.su_message.proofs.requests.read_fields.Goals as goal

pub returns-in-1-clause-found : goal.returns-in-1-clause-found
returns-in-1-clause-found c = rw c.in-1.is (made _ _)

pub returns-in-3-clause-found : goal.returns-in-3-clause-found
returns-in-3-clause-found c = rw c.in-3.is (made _ _)
