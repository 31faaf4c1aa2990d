use Rattle.su_client_work.proofs.Asked.{clear_from, clear_to}
use Rattle.su_client_work.proofs.members.Member.new.Goals as goal

pub returns-clause-clear : goal.returns-clause-clear
returns-clause-clear g c = (λ clear. clear_to _ _ _ clear, λ clear. clear_from _ _ _ clear)
