use Rattle.std.proofs.Common.{subst, sym}
use Rattle.su_client_work.specs.Member.{IsClear}
use Rattle.su_client_work.proofs.Asked.{clear_from, clear_to}
use Rattle.su_client_work.proofs.members.Member.view.Goals as goal

pub returns-clause-clear : goal.returns-clause-clear
returns-clause-clear g c = (λ clear. clear_to _ _ _ (subst IsClear (sym c.self.view_is) clear), λ clear. subst IsClear c.self.view_is (clear_from _ _ _ clear))
